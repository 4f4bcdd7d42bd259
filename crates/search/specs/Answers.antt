-- What a search answers.
use Rattle.std.specs.Prelude.{◌≡◌, ℕ, List, length, Ok, Err, Result}
use Rattle.faults.specs.declared.Fault.{Fault}
use Rattle.faults.specs.Checks.{Refused, Passed}
use Rattle.queues.specs.Slots.{Model}
use Rattle.tables.specs.declared.plan.Plan.{Plan}
use Rattle.tables.specs.declared.table.Found.{Found}
use Rattle.tables.specs.declared.table.Label.{Label}
use Rattle.tables.specs.declared.table.Link.{Link}
use Rattle.tables.specs.declared.table.Outcome.{Outcome}
use Rattle.tables.specs.Plans.{allowance_of, ceiling_of, width_of, buckets_of}
use Rattle.tables.specs.Searches.{search_checks}
use Rattle.search.specs.Results.{Searched}

-- the figures of a search, by the rules
pub record Figures (n source_point most tolerance : ℕ) (p : Plan) : Type 0 where
  pub points : p.points ≡ n
  pub source : p.source ≡ source_point
  pub bound : p.bound ≡ most
  pub ceiling : p.ceiling ≡ ceiling_of most tolerance
  pub width : p.width ≡ width_of (allowance_of most tolerance) n
  pub buckets : p.buckets ≡ buckets_of (ceiling_of most tolerance) (width_of (allowance_of most tolerance) n)

-- the figures of a search over tables of these lengths, or the refusal
abbrev pub Admitted : ℕ → ℕ → ℕ → ℕ → ℕ → ℕ → ℕ → Result Plan Fault → Type 0
Admitted n source bound tolerance outcomes slots labels (Ok p) =
    Passed (search_checks n source bound tolerance outcomes slots labels) × Figures n source bound tolerance p
Admitted n source bound tolerance outcomes slots labels (Err f) = Refused (search_checks n source bound tolerance outcomes slots labels) f

-- a search is answered with its figures and what it found, or refused with no table changed
abbrev pub Answered : {G : Type 0} → G → List Link → ℕ → ℕ → ℕ → ℕ → List (Label G) → List Outcome → ℕ
    → Result (Plan × Found) Fault → List (Label G) → List Outcome → Model G → Type 0
Answered initial links n source bound tolerance labels outcomes slots (Ok r) labels' outcomes' queue' =
    Passed (search_checks n source bound tolerance (length outcomes) slots (length labels))
    × Figures n source bound tolerance r.0 × (r.1.width ≡ r.0.width)
    × Searched initial links n source bound r.0.buckets labels outcomes r.1.reached r.1.taken labels' outcomes' queue'
Answered initial links n source bound tolerance labels outcomes slots (Err f) labels' outcomes' queue' =
    Refused (search_checks n source bound tolerance (length outcomes) slots (length labels)) f × (labels' ≡ labels) × (outcomes' ≡ outcomes)

-- a refused search leaves the queue as it was
abbrev pub Unmoved : {Q : Type 0} → Result (Plan × Found) Fault → Q → Q → Type 0
Unmoved (Ok r) queue queue' = Unit {0}
Unmoved (Err f) queue queue' = queue' ≡ queue
