-- What the single steps do to the tables and to the slots.
use Rattle.std.specs.Prelude.{◌≡◌, Bool, true, false, cond, ◌⊎◌, List, ℕ, ◌+◌, ◌*◌, ◌/◌, ◌≤◌, ◌<◌, Option, slice_set}
use Rattle.grades.specs.declared.key.Key.{Key}
use Rattle.queues.specs.declared.slot.Offer.{Offer}
use Rattle.queues.specs.Slots.{SlotOffer}
use Rattle.tables.specs.declared.table.Label.{Label}
use Rattle.tables.specs.declared.table.Mark.{Mark}
use Rattle.tables.specs.declared.table.Mark.TheVariants.{Empty, Kept, Waiting, Dropped}
use Rattle.tables.specs.declared.table.Outcome.{Outcome}
use Rattle.tables.specs.Tables.{label_at, outcome_at, reached_at, empty_label}
use Rattle.labels.specs.Candidates.{chosen_over, improves_on}

-- the label with another mark
abbrev pub marked : {G : Type 0} → Mark → Label G → Label G
marked m l = record { key = l.key; earlier = l.earlier; link = l.link; mark = m }

-- the outcome with another given bucket
abbrev pub regiven : ℕ → Outcome → Outcome
regiven bucket o = record { delay = o.delay; given = bucket; reached = o.reached }

-- one open link tried: the candidate is passed over, or put at its place; in the bucket at hand it is offered too
abbrev pub Tried : {G : Type 0} → (G → G → Bool) → G → List Outcome → ℕ → ℕ → ℕ → ℕ → ℕ → Label G → List (Label G) → List (Option (Key G)) → List (Label G) → List (Option (Key G)) → Type 0
Tried good initial os buckets ceiling width bucket to new labels slots labels' slots' =
    let p = to * buckets + new.key.delay / width in
    (((ceiling < new.key.delay) ⊎ ((reached_at os to ≡ false) ⊎ (chosen_over good new (label_at initial labels p) (label_at initial labels p).mark ≡ false)))
    × (labels' ≡ labels) × (slots' ≡ slots))
    ⊎ ((new.key.delay ≤ ceiling) × (reached_at os to ≡ true) × (chosen_over good new (label_at initial labels p) (label_at initial labels p).mark ≡ true)
    × (labels' ≡ slice_set labels p new)
    × (((new.key.delay / width ≡ bucket) × ((r : Offer) × SlotOffer good slots to new.key slots' r))
    ⊎ ((new.key.delay / width ≡ bucket → ⊥) × (slots' ≡ slots))))

-- the label of a point just taken is kept or dropped, by the last one kept there, and a kept one is the point's given one
abbrev pub Settled : {G : Type 0} → (G → G → Bool) → G → ℕ → ℕ → ℕ → List Outcome → List (Label G) → Bool → List Outcome → List (Label G) → Type 0
Settled good initial buckets bucket point os labels kept os' labels' =
    let label = label_at initial labels (point * buckets + bucket) in
    let last = label_at initial labels (point * buckets + (outcome_at os point).given) in
    (kept ≡ improves_on good label last last.mark)
    × (labels' ≡ slice_set labels (point * buckets + bucket) (marked (cond kept Kept Dropped) label))
    × (os' ≡ cond kept (slice_set os point (regiven bucket (outcome_at os point))) os)

-- a point offered at the key of its label, if by its mark the label waits
abbrev pub OfferedIf : {G : Type 0} → (G → G → Bool) → List (Option (Key G)) → ℕ → Label G → Mark → List (Option (Key G)) → Type 0
OfferedIf good slots point label Empty slots' = slots' ≡ slots
OfferedIf good slots point label Kept slots' = slots' ≡ slots
OfferedIf good slots point label Waiting slots' = (r : Offer) × SlotOffer good slots point label.key slots' r
OfferedIf good slots point label Dropped slots' = slots' ≡ slots

-- a place made blank, if by its mark its label was dropped
abbrev pub SweptIf : {G : Type 0} → G → List (Label G) → ℕ → Mark → List (Label G) → Type 0
SweptIf initial labels p Empty labels' = labels' ≡ labels
SweptIf initial labels p Kept labels' = labels' ≡ labels
SweptIf initial labels p Waiting labels' = labels' ≡ labels
SweptIf initial labels p Dropped labels' = labels' ≡ slice_set labels p (empty_label initial)
