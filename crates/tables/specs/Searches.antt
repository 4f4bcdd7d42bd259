-- Which searches are refused, and the figures of one that is not.
use Rattle.std.specs.Prelude.{◌≡◌, ℕ, ◌<◌, ◌≤◌, List, [], ◌∷◌, ◌++◌, Ok, Err, Result}
use Rattle.faults.specs.declared.Fault.{Fault}
use Rattle.faults.specs.declared.Fault.TheVariants.{NoPoint, TooShort}
use Rattle.faults.specs.Checks.{Check, Refused, Passed, if_fails, range_check}
use Rattle.tables.specs.declared.plan.Plan.{Plan}
use Rattle.tables.specs.Plans.{allowance_of, width_of, ceiling_of, places_of}

-- the ranges of the bound and the tolerance
abbrev pub figures_check : ℕ → ℕ → Check
figures_check bound tolerance = range_check ((bound, 0, 50000000) ∷ (tolerance, 0, 1000) ∷ [])

-- the checks before the figures of a search from a source among n points are known
abbrev pub plan_checks : ℕ → ℕ → ℕ → ℕ → List Check
plan_checks n source bound tolerance = figures_check bound tolerance ∷ if_fails (n ≤ source) (NoPoint source) ∷ []

-- the checks of the tables: so many outcomes, slots and labels for n points and the label places wanted
abbrev pub room_checks : ℕ → ℕ → ℕ → ℕ → ℕ → List Check
room_checks n places outcomes slots labels =
    if_fails (outcomes < n) (TooShort n) ∷ if_fails (slots < n) (TooShort n) ∷ if_fails (labels < places) (TooShort places) ∷ []

-- every check of a search, in order
abbrev pub search_checks : ℕ → ℕ → ℕ → ℕ → ℕ → ℕ → ℕ → List Check
search_checks n source bound tolerance outcomes slots labels =
    plan_checks n source bound tolerance ++ room_checks n (places_of n bound tolerance) outcomes slots labels

-- the figures of the plan, or the refusal
abbrev pub Planned : ℕ → ℕ → ℕ → ℕ → Result Plan Fault → Type 0
Planned n source bound tolerance (Ok p) =
    Passed (plan_checks n source bound tolerance)
    × (p.points ≡ n) × (p.source ≡ source) × (p.bound ≡ bound)
    × (p.ceiling ≡ ceiling_of bound tolerance) × (p.width ≡ width_of (allowance_of bound tolerance) n)
Planned n source bound tolerance (Err f) = Refused (plan_checks n source bound tolerance) f
