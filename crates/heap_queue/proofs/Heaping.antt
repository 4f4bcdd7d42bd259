-- The order of a heap: which slot is taken before which, and what the heap's steps keep of it.
use Rattle.std.proofs.Common.{◌≡◌, ℕ, zero, suc, ◌+◌, ◌<◌, ◌≤◌, ◌≢◌, Bool, true, false, List, length, set, Option, Some, None, refl, arith}
use Rattle.std.proofs.lemmas.Bool.Decides.{nat_tests}
use Rattle.std.proofs.lemmas.Grind.{get_or-set_at}
use Rattle.std.proofs.lemmas.List.{get_or-set_same, get_or-set_other}
use Rattle.grades.specs.declared.key.Key.{Key}
use Rattle.grades.specs.Keyed.{before_asym}
use Rattle.queues.specs.declared.slot.Offer.TheVariants.{Changed}
use Rattle.queues.specs.Slots.{at, waits, ahead, yields, First, SlotOffer}
use Rattle.queues.proofs.Precedence.{ahead_trans, ahead_asym, ahead_irrefl}
use Rattle.heap_queue.proofs.Indexing.{room}
use Rattle.heap_queue.specs.declared.binary_heap.Heap.{Heap}
use Rattle.heap_queue.specs.Heaps.{slot_at, place_of, Indexed, leads, parent, Ordered, Rising, Sinking, Exchanged}

module _ {G : Type 0} (good : G → G → Bool) (total : (a b : G) → good a b ≡ false → good b a ≡ true) (trans : (a b c : G) → good a b ≡ true → good b c ≡ true → good a c ≡ true) (xs : List (Option (Key G))) where
  pub leads_irrefl : (a : ℕ) → leads good xs a a ≡ false
  unfolding leads
  leads_irrefl a = ahead_irrefl good total trans a (at xs a)

  pub leads_asym : (a b : ℕ) → leads good xs a b ≡ true → leads good xs b a ≡ false
  unfolding leads
  leads_asym a b = ahead_asym good total trans a b (at xs a) (at xs b)

  pub leads_trans : (a b c : ℕ) → leads good xs b a ≡ false → leads good xs c b ≡ false → leads good xs c a ≡ false
  unfolding leads
  leads_trans a b c = ahead_trans good total trans a b c (at xs a) (at xs b) (at xs c)

  -- slots other than s are in the order that they were in
  leads_other : (s a b : ℕ) (y : Option (Key G)) → a ≢ s → b ≢ s → leads good (set xs s y) a b ≡ leads good xs a b
  unfolding leads
  leads_other s a b y na nb = rw (get_or-set_other xs s a y None na, get_or-set_other xs s b y None nb) refl

  -- a slot that now waits with an earlier key is overtaken by no other
  leads_earlier : (s a : ℕ) (key : Key G) → s < length xs → waits (at xs s) ≡ true → yields good (at xs s) key ≡ true → a ≢ s → leads good xs a s ≡ false → leads good (set xs s (Some key)) a s ≡ false
  unfolding leads
  leads_earlier s a key w wait e na h = rw (get_or-set_other xs s a (Some key) None na, get_or-set_same xs s (Some key) None w) (earlier (at xs s) (at xs a) wait e h)
    where
      earlier : (x y : Option (Key G)) → waits x ≡ true → yields good x key ≡ true → ahead good a y s x ≡ false → ahead good a y s (Some key) ≡ false
      earlier x y w e h = grind (arith, nat_tests, before_asym good total trans, ahead_trans good total trans s s a (Some key) x y)

  -- a slot has risen by one row
  pub risen : (h g : Heap) (i : ℕ) → 0 < i → i < h.count → leads good xs (slot_at h i) (slot_at h (parent i)) ≡ true → Exchanged h g i (parent i) → Rising good xs h i → Rising good xs g (parent i)
  risen h g i pos within better e r =
      let back = leads_asym (slot_at h i) (slot_at h (parent i)) better in
      record {
        order = λ k z w ne. grind (arith, leads_trans, e.rest k, e.rest (parent k));
        over = λ k z w q p. grind (arith, leads_trans, e.rest k);
      }

  -- nothing in the heap is taken before its top
  top : (h : Heap) (fuel k : ℕ) → k ≤ fuel → Ordered good xs h → k < h.count → leads good xs (slot_at h k) (slot_at h 0) ≡ false
  top h zero k small o w = grind (arith, leads_irrefl)
  top h (suc fuel) k small o w = let up = top h fuel (parent k) in grind (arith, leads_irrefl, leads_trans, o k)

  -- the slot at the top is the one to be taken
  pub top_first : (h : Heap) → 0 < h.count → Indexed xs h → Ordered good xs h → First good xs (slot_at h 0)
  unfolding leads
  top_first h some ix o =
      let st = ix.stands 0 some in
      record {
        within = st.0;
        wait = st.1;
        none_ahead = λ j. let p = ix.placed j in let t = top h (place_of h j) (place_of h j) (omega arith) o in grind arith;
      }

  -- the slot at the top was exchanged for the last one and is taken
  pub dropped_sinking : (h e g : Heap) (s : ℕ) → h.count ≡ g.count + 1 → slot_at h 0 ≡ s → Exchanged h e 0 g.count → g.order.now ≡ e.order.now → Indexed xs h → Ordered good xs h → Sinking good (set xs s None) g 0
  dropped_sinking h e g s more first x q ix o =
      let s0 = ix.stands 0 (omega arith) in
      record {
        order = λ k z w ne. let sk = ix.stands k (omega arith) in let sp = ix.stands (parent k) (omega arith) in grind (arith, leads_other, x.rest k, x.rest (parent k), o k);
        over = λ k z w zz p. absurd (omega arith);
      }

  -- slot s begins to wait, at the end of the heap
  pub pushed_rising : (ys : List (Option (Key G))) (h g : Heap) (s : ℕ) (key : Key G) → SlotOffer good xs s key ys Changed → waits (at xs s) ≡ false → g.count ≡ h.count + 1 → g.order.now ≡ set h.order.now h.count s → g.place.now ≡ set h.place.now s h.count → Indexed xs h → Ordered good xs h → Rising good ys g (place_of g s)
  pushed_rising ys h g s key e idle n a p ix o =
      let r = room xs h s key e.0 idle ix in
      record {
        order = λ k z w ne. let sk = ix.stands k in let sp = ix.stands (parent k) in grind (arith, get_or-set_at, get_or-set_other, leads_other, o k);
        over = λ k z w zi q. grind (arith, get_or-set_at);
      }

  -- slot s waits with an earlier key
  pub rekeyed_rising : (ys : List (Option (Key G))) (h : Heap) (s : ℕ) (key : Key G) → SlotOffer good xs s key ys Changed → waits (at xs s) ≡ true → Indexed xs h → Ordered good xs h → Rising good ys h (place_of h s)
  rekeyed_rising ys h s key e wait ix o =
      let there = ix.placed s wait in
      record {
        order = λ k z w ne. let sk = ix.stands k w in let sp = ix.stands (parent k) (omega arith) in grind (arith, leads_other, leads_earlier, o k);
        over = λ k z w zi q. let sk = ix.stands k w in let sp = ix.stands (parent (place_of h s)) (omega arith) in grind (arith, leads_other, leads_trans, o k, o (place_of h s));
      }
