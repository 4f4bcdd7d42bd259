-- What a waiting queue means: which slots wait, each with a key, and how many were taken since the last clearing.
use Rattle.std.specs.Prelude.{◌≡◌, ℕ, ◌+◌, ◌-◌, ◌^◌, ◌<◌, ◌≤◌, min, Bool, true, false, not, ◌&&◌, ◌||◌, List, length, replicate, Some, None, Option, nat_lt, slice_index_or, slice_set}
use Rattle.grades.specs.declared.key.Key.{Key}
use Rattle.grades.specs.Keys.{before}
use Rattle.queues.specs.declared.slot.Offer.{Offer}
use Rattle.queues.specs.declared.slot.Offer.TheVariants.{Changed, Kept, NoSlot}

pub record Model (G : Type 0) : Type 0 where
  pub slots : List (Option (Key G))
  pub taken : ℕ

-- the slot s of a row of slots; one past the end is idle
abbrev pub at : {G : Type 0} → List (Option (Key G)) → ℕ → Option (Key G)
at xs s = slice_index_or xs s None

abbrev pub waits : {G : Type 0} → Option (Key G) → Bool
waits None = false
waits (Some k) = true

-- an offer of the key k changes the slot: it does not wait, or its key comes after k
abbrev pub yields : {G : Type 0} → (G → G → Bool) → Option (Key G) → Key G → Bool
yields good None k = true
yields good (Some l) k = before good k l

-- slot i, whose state is x, is taken before slot j, whose state is y: it waits with the earlier key, or the keys are equal and i is the lower number
abbrev pub ahead : {G : Type 0} → (G → G → Bool) → ℕ → Option (Key G) → ℕ → Option (Key G) → Bool
ahead good i None j y = false
ahead good i (Some k) j None = true
ahead good i (Some k) j (Some l) = before good k l || (not (before good l k) && nat_lt i j)

-- s is the waiting slot with the first key, the lowest among equals
pub record First {G : Type 0} (good : G → G → Bool) (xs : List (Option (Key G))) (s : ℕ) : Type 0 where
  pub within : s < length xs
  pub wait : waits (at xs s) ≡ true
  pub none_ahead : (j : ℕ) → ahead good j (at xs j) s (at xs s) ≡ false

abbrev pub NoneWaits : {G : Type 0} → List (Option (Key G)) → Type 0
NoneWaits xs = (j : ℕ) → waits (at xs j) ≡ false

-- an offer of the slot s and the key k turns the slots xs into ys with this answer
abbrev pub SlotOffer : {G : Type 0} → (G → G → Bool) → List (Option (Key G)) → ℕ → Key G → List (Option (Key G)) → Offer → Type 0
SlotOffer good xs s k ys Changed = (s < length xs) × (yields good (at xs s) k ≡ true) × (ys ≡ slice_set xs s (Some k))
SlotOffer good xs s k ys Kept = (s < length xs) × (yields good (at xs s) k ≡ false) × (ys ≡ xs)
SlotOffer good xs s k ys NoSlot = (length xs ≤ s) × (ys ≡ xs)

-- a take turns the slots xs into ys with this answer: a waiting slot no longer waits, or none waits
abbrev pub SlotTake : {G : Type 0} → List (Option (Key G)) → List (Option (Key G)) → Option ℕ → Type 0
SlotTake xs ys None = NoneWaits xs × (ys ≡ xs)
SlotTake xs ys (Some s) = (s < length xs) × (waits (at xs s) ≡ true) × (ys ≡ slice_set xs s None)

-- the slot taken is the one with the first key
abbrev pub Chosen : {G : Type 0} → (G → G → Bool) → List (Option (Key G)) → Option ℕ → Type 0
Chosen good xs None = Unit {0}
Chosen good xs (Some s) = First good xs s

-- the number taken, one more after each slot taken, up to the largest 64-bit number
abbrev pub tallied : ℕ → Option ℕ → ℕ
tallied n None = n
tallied n (Some s) = min (n + 1) (2 ^ 64 - 1)

abbrev pub cleared : {G : Type 0} → Model G → Model G
cleared m = record { slots = replicate (length m.slots) None; taken = 0 }

abbrev pub Offers : {G : Type 0} → (G → G → Bool) → Model G → ℕ → Key G → Model G → Offer → Type 0
Offers good m s k n r = SlotOffer good m.slots s k n.slots r × (n.taken ≡ m.taken)

abbrev pub Takes : {G : Type 0} → Model G → Model G → Option ℕ → Type 0
Takes m n r = SlotTake m.slots n.slots r × (n.taken ≡ tallied m.taken r)
