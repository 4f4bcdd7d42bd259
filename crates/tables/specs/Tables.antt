-- What the tables of a search hold.
use Rattle.std.specs.Prelude.{◌≡◌, ℕ, ◌<◌, ◌≤◌, Bool, true, false, cond, List, length, Some, None, Option, ◌==◌, ◌≢◌, slice_index_or}
use Rattle.grades.specs.Keys.{start_key}
use Rattle.tables.specs.declared.table.Label.{Label}
use Rattle.tables.specs.declared.table.Mark.{Mark}
use Rattle.tables.specs.declared.table.Mark.TheVariants.{Empty, Kept, Waiting, Dropped}
use Rattle.tables.specs.declared.table.Outcome.{Outcome}
use Rattle.tables.specs.declared.table.Link.{Link}

-- a place without a label, from the start grade
abbrev pub empty_label : {G : Type 0} → G → Label G
empty_label initial = record { key = start_key initial 0; earlier = 0; link = 0; mark = Empty }

abbrev pub unreached_outcome : Outcome
unreached_outcome = record { delay = 0; given = 0; reached = false }

-- the first wanted entries are blank, and the others as they were
abbrev pub Wiped : {X : Type 0} → X → ℕ → List X → List X → Type 0
Wiped {X} blank wanted before after =
    ((k : ℕ) (d : X) → k < wanted → slice_index_or after k d ≡ blank)
    × ((k : ℕ) (d : X) → wanted ≤ k → slice_index_or after k d ≡ slice_index_or before k d)

-- whether a candidate may still come
abbrev pub is_open : Mark → Bool
is_open Empty = true
is_open Kept = false
is_open Waiting = true
is_open Dropped = false

-- the label at a place
abbrev pub label_at : {G : Type 0} → G → List (Label G) → ℕ → Label G
label_at initial labels p = slice_index_or labels p (empty_label initial)

-- the outcome of a point
abbrev pub outcome_at : List Outcome → ℕ → Outcome
outcome_at outcomes v = slice_index_or outcomes v unreached_outcome

abbrev pub no_link : Link
no_link = record { delay = 0; cost = record { price = 0; gap = 0 }; from = 0; to = 0; «open» = false }

abbrev pub link_at : List Link → ℕ → Link
link_at links k = slice_index_or links k no_link

-- both ends of a link are points of the board, and apart
abbrev pub Ends : ℕ → Link → Type 0
Ends n l = (l.from < n) × (l.to < n) × (l.from ≢ l.to)

abbrev pub Joined : ℕ → List Link → Type 0
Joined n links = (k : ℕ) → k < length links → Ends n (link_at links k)

-- where a walk from a point comes by a link, if the link has an end there
abbrev pub other_end : Link → ℕ → Option ℕ
other_end l v = cond (l.from == v) (Some l.to) (cond (l.to == v) (Some l.from) None)

-- the same, if the link is open
abbrev pub open_end : Link → ℕ → Option ℕ
open_end l v = cond l.open (other_end l v) None

-- whether a point is reached, and its delay
abbrev pub reached_at : List Outcome → ℕ → Bool
reached_at outcomes v = (outcome_at outcomes v).reached

abbrev pub delay_at : List Outcome → ℕ → ℕ
delay_at outcomes v = (outcome_at outcomes v).delay
