-- Candidates for a place, and which of them is chosen.
use Rattle.std.specs.Prelude.{Bool, true, false, cond, not, ℕ, ◌+◌, ◌-◌, ◌^◌, min, nat_lt}
use Rattle.grades.specs.declared.LinkCost.{LinkCost}
use Rattle.grades.specs.Keys.{before}
use Rattle.tables.specs.declared.table.Label.{Label}
use Rattle.tables.specs.declared.table.Link.{Link}
use Rattle.tables.specs.declared.table.Mark.{Mark}
use Rattle.tables.specs.declared.table.Mark.TheVariants.{Empty, Kept, Waiting, Dropped}

-- the candidate that goes on from a label in a bucket by link number k
abbrev pub extended : {G : Type 0} → (G → LinkCost → G) → Label G → ℕ → ℕ → Link → Label G
extended after l bucket k link =
    record {
      key = record { grade = after l.key.grade link.cost; delay = l.key.delay + link.delay; count = min (l.key.count + 1) (2 ^ 32 - 1) };
      earlier = bucket;
      link = k;
      mark = Waiting;
    }

-- of two candidates, whether the first is chosen: the first key, then the lower link number
abbrev pub ahead_of : {G : Type 0} → (G → G → Bool) → Label G → Label G → Bool
ahead_of good new old =
    cond (before good new.key old.key) true
    (cond (before good old.key new.key) false (nat_lt new.link old.link))

-- whether a candidate is chosen over what stands at its place, by the mark there
abbrev pub chosen_over : {G : Type 0} → (G → G → Bool) → Label G → Label G → Mark → Bool
chosen_over good new old Empty = true
chosen_over good new old Kept = false
chosen_over good new old Waiting = ahead_of good new old
chosen_over good new old Dropped = false

-- whether a label improves on the last one kept, by that one's mark
abbrev pub improves_on : {G : Type 0} → (G → G → Bool) → Label G → Label G → Mark → Bool
improves_on good label last Empty = true
improves_on good label last Kept = not (good last.key.grade label.key.grade)
improves_on good label last Waiting = true
improves_on good label last Dropped = true
