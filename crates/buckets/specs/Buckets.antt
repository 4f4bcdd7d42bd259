-- How the buckets are filled: what holds between the steps.
use Rattle.std.specs.Prelude.{◌≡◌, ℕ, ◌+◌, ◌*◌, ◌/◌, ◌<◌, ◌≤◌, Bool, true, false, not, ◌⊎◌, List, length, Option, ◌≢◌}
use Rattle.grades.specs.declared.key.Key.{Key}
use Rattle.queues.specs.Slots.{at, waits, NoneWaits}
use Rattle.tables.specs.declared.plan.Plan.{Plan}
use Rattle.tables.specs.declared.table.Label.{Label}
use Rattle.tables.specs.declared.table.Mark.{Mark}
use Rattle.tables.specs.declared.table.Mark.TheVariants.{Empty, Kept, Waiting, Dropped}
use Rattle.tables.specs.declared.table.Outcome.{Outcome}
use Rattle.tables.specs.declared.task.Task.{Task}
use Rattle.tables.specs.Tables.{label_at, outcome_at, is_open, empty_label}
use Rattle.buckets.specs.Results.{Extends, GivenKept}

-- the label of a point in a bucket
abbrev pub label_in : {G : Type 0} → G → Plan → List (Label G) → ℕ → ℕ → Label G
label_in initial p labels v b = label_at initial labels (v * p.buckets + b)

-- whether the place of a point in a bucket is settled
abbrev pub closed_in : {G : Type 0} → G → Plan → ℕ → List (Label G) → ℕ → Bool
closed_in initial p b labels v = not (is_open (label_in initial p labels v b).mark)

-- the same places of a bucket are open
abbrev pub SameOpen : {G : Type 0} → G → Plan → ℕ → List (Label G) → List (Label G) → Type 0
SameOpen initial p b labels labels' = (v : ℕ) → is_open (label_in initial p labels' v b).mark ≡ is_open (label_in initial p labels v b).mark

-- the slots that wait are exactly the points below m whose labels wait in the bucket
pub record Loaded {G : Type 0} (initial : G) (p : Plan) (b m : ℕ) (labels : List (Label G)) (slots : List (Option (Key G))) : Type 0 where
  pub pending : (s : ℕ) → waits (at slots s) ≡ true → (s < m) × ((label_in initial p labels s b).mark ≡ Waiting)
  pub queued : (v : ℕ) → v < m → (label_in initial p labels v b).mark ≡ Waiting → waits (at slots v) ≡ true

-- the label l of point v in bucket b, while the buckets below i are done: blank, or in the bucket of its delay and extending a kept label
pub record Sound {G : Type 0} (initial : G) (t : Task) (i : ℕ) (labels : List (Label G)) (v b : ℕ) (l : Label G) : Type 0 where
  pub blank : l.mark ≡ Empty → l ≡ empty_label initial
  pub placed : (l.mark ≢ Empty) → l.key.delay / t.plan.width ≡ b
  pub extends : (l.mark ≢ Empty) → 0 < l.key.count → Extends initial t.links.now t.plan.points t.plan.buckets labels v l
  pub done : b < i → (l.mark ≡ Empty) ⊎ (l.mark ≡ Kept)

-- what holds of the tables while the buckets below i are done
pub record Books {G : Type 0} (initial : G) (t : Task) (i : ℕ) (os : List Outcome) (labels : List (Label G)) : Type 0 where
  pub within : (v : ℕ) → v < t.plan.points → (outcome_at os v).given < t.plan.buckets
  pub given : (v : ℕ) → v < t.plan.points → (outcome_at os v).given ≤ i
  pub sound : (v b : ℕ) → v < t.plan.points → b < t.plan.buckets → Sound initial t i labels v b (label_in initial t.plan labels v b)
  pub last : GivenKept initial t.plan.points t.plan.buckets os labels

-- while the places of bucket i are settled
pub record Filling {G : Type 0} (initial : G) (t : Task) (i : ℕ) (os : List Outcome) (labels : List (Label G)) (slots : List (Option (Key G))) : Type 0 where
  pub books : Books initial t i os labels
  pub loaded : Loaded initial t.plan i t.plan.points labels slots
  pub seats : t.plan.points ≤ length slots

-- while the label of v, kept in bucket i, is extended
pub record Expanding {G : Type 0} (initial : G) (t : Task) (i v : ℕ) (label : Label G) (os : List Outcome) (labels : List (Label G)) (slots : List (Option (Key G))) : Type 0 where
  pub filling : Filling initial t i os labels slots
  pub stands : label_in initial t.plan labels v i ≡ label
  pub kept : label.mark ≡ Kept

-- the point v has been taken, and its label is to be settled
pub record Taking {G : Type 0} (initial : G) (t : Task) (i v : ℕ) (os : List Outcome) (labels : List (Label G)) (slots : List (Option (Key G))) : Type 0 where
  pub books : Books initial t i os labels
  pub pending : (s : ℕ) → waits (at slots s) ≡ true → (s < t.plan.points) × ((label_in initial t.plan labels s i).mark ≡ Waiting)
  pub queued : (u : ℕ) → u < t.plan.points → (u ≢ v) → (label_in initial t.plan labels u i).mark ≡ Waiting → waits (at slots u) ≡ true
  pub seats : t.plan.points ≤ length slots
  pub point : v < t.plan.points
  pub due : (label_in initial t.plan labels v i).mark ≡ Waiting
  pub free : waits (at slots v) ≡ false

-- the buckets below i are done
pub record Ready {G : Type 0} (initial : G) (t : Task) (i : ℕ) (os : List Outcome) (labels : List (Label G)) (slots : List (Option (Key G))) : Type 0 where
  pub books : Books initial t i os labels
  pub idle : NoneWaits slots
  pub seats : t.plan.points ≤ length slots

-- what is left of a label when its bucket is done, by its mark
abbrev pub swept_label : {G : Type 0} → G → Label G → Mark → Label G
swept_label initial l Empty = l
swept_label initial l Kept = l
swept_label initial l Waiting = l
swept_label initial l Dropped = empty_label initial

-- the labels of the points below m have been swept in a bucket, and no other
pub record Swept {G : Type 0} (initial : G) (p : Plan) (b m : ℕ) (labels labels' : List (Label G)) : Type 0 where
  pub swept : (v : ℕ) → v < m → label_in initial p labels' v b ≡ swept_label initial (label_in initial p labels v b) (label_in initial p labels v b).mark
  pub others : (q : ℕ) → ((v : ℕ) → v < m → q ≢ v * p.buckets + b) → label_at initial labels' q ≡ label_at initial labels q
