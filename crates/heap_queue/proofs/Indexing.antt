-- The heap holds the waiting slots, and the places are its inverse: what each step of a queue keeps of that.
use Rattle.std.proofs.Common.{◌≡◌, ℕ, ◌+◌, ◌<◌, Bool, true, false, List, length, set, Option, Some, None, arith}
use Rattle.std.proofs.lemmas.Grind.{common_steps, get_or-set_at}
use Rattle.std.proofs.lemmas.List.{get_or-set_other, length-set}
use Rattle.std.proofs.lemmas.List.Sums.{count_by-le-length}
use Rattle.grades.specs.declared.key.Key.{Key}
use Rattle.queues.specs.Slots.{at, waits, SlotOffer}
use Rattle.queues.specs.declared.slot.Offer.TheVariants.{Changed}
use Rattle.heap_queue.specs.declared.binary_heap.Heap.{Heap}
use Rattle.heap_queue.specs.Heaps.{slot_at, place_of, Indexed, Exchanged}

-- what a list holds after a write
ruleset writes = (get_or-set_at, get_or-set_other, length-set)

module _ {G : Type 0} (xs : List (Option (Key G))) where
  -- two slots stand in each other's place
  pub exchanged : (h g : Heap) (i j : ℕ) → i < h.count → j < h.count → Exchanged h g i j → Indexed xs h → Indexed xs g
  exchanged h g i j wi wj e ix =
      let si = ix.stands i wi in
      let sj = ix.stands j wj in
      record {
        order_long = grind (arith, common_steps);
        place_long = grind (arith, common_steps);
        counted = grind (arith, common_steps);
        stands = λ k w. let sk = ix.stands k in let rk = e.rest k in grind (arith, writes);
        placed = λ s w. let p = ix.placed s w in let rk = e.rest (place_of h s) in grind (arith, writes);
      }

  -- the slot at the last place no longer waits
  pub dropped : (h g : Heap) (s : ℕ) → h.count ≡ g.count + 1 → slot_at h g.count ≡ s → g.order.now ≡ h.order.now → g.place.now ≡ h.place.now → Indexed xs h → Indexed (set xs s None) g
  dropped h g s more last o p ix =
      let sl = ix.stands g.count (omega arith) in
      record {
        order_long = grind (arith, common_steps);
        place_long = grind (arith, common_steps);
        counted = grind (arith, common_steps);
        stands = λ k w. let sk = ix.stands k (omega arith) in grind (arith, writes);
        placed = λ t w. let pt = ix.placed t in grind (arith, writes);
      }

  -- there is room for one more where some slot does not wait
  pub room : (h : Heap) (s : ℕ) (key : Key G) → s < length xs → waits (at xs s) ≡ false → Indexed xs h → h.count < length h.order.now
  room h s key ws idle ix = let most = count_by-le-length waits (set xs s (Some key)) in grind (arith, common_steps)

  -- slot s begins to wait, at the end of the heap
  pub pushed : (good : G → G → Bool) (ys : List (Option (Key G))) (h g : Heap) (s : ℕ) (key : Key G) → SlotOffer good xs s key ys Changed → waits (at xs s) ≡ false → g.count ≡ h.count + 1 → g.order.now ≡ set h.order.now h.count s → g.place.now ≡ set h.place.now s h.count → Indexed xs h → Indexed ys g
  pushed good ys h g s key e idle n o p ix =
      let r = room h s key e.0 idle ix in
      record {
        order_long = grind (arith, common_steps);
        place_long = grind (arith, common_steps);
        counted = grind (arith, common_steps);
        stands = λ k w. let sk = ix.stands k in grind (arith, writes);
        placed = λ t w. let pt = ix.placed t in grind (arith, writes);
      }

  -- slot s waits with another key
  pub rekeyed : (good : G → G → Bool) (ys : List (Option (Key G))) (h : Heap) (s : ℕ) (key : Key G) → SlotOffer good xs s key ys Changed → waits (at xs s) ≡ true → Indexed xs h → Indexed ys h
  rekeyed good ys h s key e wait ix =
      record {
        order_long = grind (arith, common_steps);
        place_long = grind (arith, common_steps);
        counted = grind (arith, common_steps);
        stands = λ k w. let sk = ix.stands k w in grind (arith, writes);
        placed = λ t w. let pt = ix.placed t in grind (arith, writes);
      }
