-- A binary heap of waiting slots: the slots in heap order, and for each slot its place there.
use Rattle.std.specs.Prelude.{◌≡◌, ℕ, ◌-◌, ◌/◌, ◌<◌, ◌≢◌, Bool, true, false, List, length, Option, count_by, slice_index, slice_set}
use Rattle.grades.specs.declared.key.Key.{Key}
use Rattle.queues.specs.Slots.{at, waits, ahead}
use Rattle.heap_queue.specs.declared.binary_heap.Heap.{Heap}

-- the slot that stands at place k
abbrev pub slot_at : Heap → ℕ → ℕ
slot_at h k = slice_index h.order.now k

-- the place where slot s stands
abbrev pub place_of : Heap → ℕ → ℕ
place_of h s = slice_index h.place.now s

-- slot s is taken before slot r; opaque, since the steps of a heap go by the laws of this order alone
unfoldable pub leads : {G : Type 0} → (G → G → Bool) → List (Option (Key G)) → ℕ → ℕ → Bool
leads good xs s r = ahead good s (at xs s) r (at xs r)

-- the place above the place k
abbrev pub parent : ℕ → ℕ
parent k = (k - 1) / 2

-- the heap holds the waiting slots, each where its place says
pub record Indexed {G : Type 0} (xs : List (Option (Key G))) (h : Heap) : Type 0 where
  pub order_long : length h.order.now ≡ length xs
  pub place_long : length h.place.now ≡ length xs
  pub counted : h.count ≡ count_by waits xs
  pub stands : (i : ℕ) → i < h.count → (slot_at h i < length xs) × (waits (at xs (slot_at h i)) ≡ true) × (place_of h (slot_at h i) ≡ i)
  pub placed : (s : ℕ) → waits (at xs s) ≡ true → (place_of h s < h.count) × (slot_at h (place_of h s) ≡ s)

-- no slot is taken before the one above it
abbrev pub Ordered : {G : Type 0} → (G → G → Bool) → List (Option (Key G)) → Heap → Type 0
Ordered good xs h = (k : ℕ) → 0 < k → k < h.count → leads good xs (slot_at h k) (slot_at h (parent k)) ≡ false

-- in order but perhaps between place i and the one above it
pub record Rising {G : Type 0} (good : G → G → Bool) (xs : List (Option (Key G))) (h : Heap) (i : ℕ) : Type 0 where
  pub order : (k : ℕ) → 0 < k → k < h.count → (k ≢ i) → leads good xs (slot_at h k) (slot_at h (parent k)) ≡ false
  pub over : (k : ℕ) → 0 < k → k < h.count → 0 < i → parent k ≡ i → leads good xs (slot_at h k) (slot_at h (parent i)) ≡ false

-- in order but perhaps between place i and those below it
pub record Sinking {G : Type 0} (good : G → G → Bool) (xs : List (Option (Key G))) (h : Heap) (i : ℕ) : Type 0 where
  pub order : (k : ℕ) → 0 < k → k < h.count → (parent k ≢ i) → leads good xs (slot_at h k) (slot_at h (parent k)) ≡ false
  pub over : (k : ℕ) → 0 < k → k < h.count → 0 < i → parent k ≡ i → leads good xs (slot_at h k) (slot_at h (parent i)) ≡ false

-- of place i and those below it that come before place e, m holds the slot to be taken first
pub record Leading {G : Type 0} (good : G → G → Bool) (xs : List (Option (Key G))) (h : Heap) (i e m : ℕ) : Type 0 where
  pub below : (m ≢ i) → (m < h.count) × (0 < m) × (parent m ≡ i)
  pub self : leads good xs (slot_at h i) (slot_at h m) ≡ false
  pub best : (k : ℕ) → 0 < k → k < e → k < h.count → parent k ≡ i → leads good xs (slot_at h k) (slot_at h m) ≡ false

-- the slots at places i and j are exchanged
pub record Exchanged (h g : Heap) (i j : ℕ) : Type 0 where
  pub count : g.count ≡ h.count
  pub order_long : length g.order.now ≡ length h.order.now
  pub left : slot_at g i ≡ slot_at h j
  pub right : slot_at g j ≡ slot_at h i
  pub rest : (k : ℕ) → (k ≢ i) → (k ≢ j) → slot_at g k ≡ slot_at h k
  pub place : g.place.now ≡ slice_set (slice_set h.place.now (slot_at h j) i) (slot_at h i) j
