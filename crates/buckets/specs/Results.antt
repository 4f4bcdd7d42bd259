-- What the filling of the buckets leaves.
use Rattle.std.specs.Prelude.{◌≡◌, ℕ, ◌+◌, ◌*◌, ◌<◌, ◌≤◌, ◌⊎◌, List, length, Some}
use Rattle.tables.specs.declared.plan.Plan.{Plan}
use Rattle.tables.specs.declared.table.Label.{Label}
use Rattle.tables.specs.declared.table.Link.{Link}
use Rattle.tables.specs.declared.table.Mark.TheVariants.{Kept}
use Rattle.tables.specs.declared.table.Outcome.{Outcome}
use Rattle.tables.specs.Tables.{label_at, empty_label, outcome_at, reached_at, delay_at, link_at, other_end}

-- no place beyond those wanted is written, and of the outcomes only the given buckets of the plan's points
pub record Frame {G : Type 0} (initial : G) (p : Plan) (os : List Outcome) (labels : List (Label G)) (os' : List Outcome) (labels' : List (Label G)) : Type 0 where
  pub labels_beyond : (q : ℕ) → p.points * p.buckets ≤ q → label_at initial labels' q ≡ label_at initial labels q
  pub reached_same : (v : ℕ) → reached_at os' v ≡ reached_at os v
  pub delay_same : (v : ℕ) → delay_at os' v ≡ delay_at os v
  pub outcomes_beyond : (v : ℕ) → p.points ≤ v → outcome_at os' v ≡ outcome_at os v

-- every wanted place holds a kept label or is blank
abbrev pub KeptOrBlank : {G : Type 0} → G → ℕ → ℕ → List (Label G) → Type 0
KeptOrBlank initial n buckets labels = (q : ℕ) → q < n * buckets → ((label_at initial labels q).mark ≡ Kept) ⊎ (label_at initial labels q ≡ empty_label initial)

-- the label l of point v extends a kept label by its last link
pub record Extends {G : Type 0} (initial : G) (links : List Link) (n buckets : ℕ) (labels : List (Label G)) (v : ℕ) (l : Label G) : Type 0 where
  pub link_known : l.link < length links
  pub earlier_known : l.earlier < buckets
  pub back : ℕ
  pub back_known : back < n
  pub joins : other_end (link_at links l.link) v ≡ Some back
  pub kept : (label_at initial labels (back * buckets + l.earlier)).mark ≡ Kept
  pub count : l.key.count ≤ (label_at initial labels (back * buckets + l.earlier)).key.count + 1

-- each kept label of a route with links extends a kept label
abbrev pub Chained : {G : Type 0} → G → List Link → ℕ → ℕ → List (Label G) → Type 0
Chained initial links n buckets labels =
    (v b : ℕ) → v < n → b < buckets → (label_at initial labels (v * buckets + b)).mark ≡ Kept → 0 < (label_at initial labels (v * buckets + b)).key.count
    → Extends initial links n buckets labels v (label_at initial labels (v * buckets + b))

-- the label in the given bucket of a point is kept, or that bucket is 0
abbrev pub GivenKept : {G : Type 0} → G → ℕ → ℕ → List Outcome → List (Label G) → Type 0
GivenKept initial n buckets os labels = (v : ℕ) → v < n → ((label_at initial labels (v * buckets + (outcome_at os v).given)).mark ≡ Kept) ⊎ ((outcome_at os v).given ≡ 0)
