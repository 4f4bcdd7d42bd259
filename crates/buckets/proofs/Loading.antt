-- How the waiting slots follow the waiting labels of a bucket.
use Rattle.std.proofs.Common.{◌≡◌, ℕ, ◌+◌, ◌*◌, ◌<◌, ◌≤◌, Bool, true, false, List, length, set, Some, None, Option, sym, refl, ap, ◌∙◌, inl, inr, arith}
use Rattle.std.proofs.lemmas.List.{get_or-set_same, get_or-set_other, length-set}
use Rattle.std.proofs.lemmas.Bool.{both_ways, cases_eq}
use Rattle.grades.specs.declared.key.Key.{Key}
use Rattle.queues.specs.declared.slot.Offer.{Offer}
use Rattle.queues.specs.declared.slot.Offer.TheVariants.{Changed, Kept as Stays, NoSlot}
use Rattle.queues.specs.Slots.{at, waits, yields, SlotOffer, SlotTake}
use Rattle.tables.specs.declared.plan.Plan.{Plan}
use Rattle.tables.specs.declared.table.Label.{Label}
use Rattle.tables.specs.declared.table.Mark.{Mark}
use Rattle.tables.specs.declared.table.Mark.TheVariants.{Empty, Kept, Waiting, Dropped}
use Rattle.tables.specs.declared.table.Outcome.{Outcome}
use Rattle.tables.specs.declared.task.Task.{Task}
use Rattle.labels.specs.Steps.{OfferedIf}
use Rattle.buckets.specs.Buckets.{label_in, Loaded, Filling, Taking}
use Rattle.buckets.proofs.Placing.{put_cases}

-- ---- slots
yields_not : {G : Type 0} (good : G → G → Bool) (x : Option (Key G)) (k : Key G) → yields good x k ≡ false → waits x ≡ true
yields_not good None k e = sym e
yields_not good (Some l) k e = refl

-- the slot s waits now, and the others as they did
pub record Offered {G : Type 0} (s : ℕ) (slots slots' : List (Option (Key G))) : Type 0 where
  pub here : waits (at slots' s) ≡ true
  pub there : (u : ℕ) → (u ≡ s → ⊥) → waits (at slots' u) ≡ waits (at slots u)
  pub long : length slots' ≡ length slots

pub offered : {G : Type 0} (good : G → G → Bool) (slots slots' : List (Option (Key G))) (s : ℕ) (k : Key G) (r : Offer) → SlotOffer good slots s k slots' r → s < length slots → Offered s slots slots'
offered good slots slots' s k Changed o lt = rw o.2 (record {
  here = ap waits (get_or-set_same slots s (Some k) None lt);
  there = λ u ne. ap waits (get_or-set_other slots s u (Some k) None ne);
  long = length-set slots s (Some k);
})
offered good slots slots' s k Stays o lt = rw o.2 (record { here = yields_not good (at slots s) k o.1; there = λ u ne. refl; long = refl })
offered good slots slots' s k NoSlot o lt = absurd (omega (arith, o.0, lt))

-- ---- loading
module _ {G : Type 0} (good : G → G → Bool) (initial : G) (p : Plan) (b : ℕ) (labels : List (Label G)) where
  module _ (m : ℕ) (slots slots' : List (Option (Key G))) (within : m < length slots) (f : Loaded initial p b m labels slots) where
    -- the label of point m does not wait
    passed : ((label_in initial p labels m b).mark ≡ Waiting → ⊥) → Loaded initial p b (m + 1) labels slots
    passed not_one = record {
      pending = λ s w. let h = f.pending s w in (omega arith, h.1);
      queued = λ v l e. elim (cases_eq v m) [
        | inl q ↦ absurd (not_one (rw q at e))
        | inr ne ↦ f.queued v (omega arith) e
      ];
    }

    pub loaded_more : (label : Label G) (mark : Mark) → label.mark ≡ mark → label ≡ label_in initial p labels m b → OfferedIf good slots m label mark slots'
        → Loaded initial p b (m + 1) labels slots' × (length slots' ≡ length slots)
    loaded_more label Empty e is o = rw o (passed (λ w. let z : ◌≡◌ {A = ℕ} 0 1 = cc in omega arith), refl)
    loaded_more label Kept e is o = rw o (passed (λ w. let z : ◌≡◌ {A = ℕ} 0 1 = cc in omega arith), refl)
    loaded_more label Dropped e is o = rw o (passed (λ w. let z : ◌≡◌ {A = ℕ} 0 1 = cc in omega arith), refl)
    loaded_more label Waiting e is o =
        let h = offered good slots slots' m label.key o.0 o.1 within in
        let due : (label_in initial p labels m b).mark ≡ Waiting = ap (λ (l : Label G). l.mark) (sym is) ∙ e in (
          record {
            pending = λ s w. elim (cases_eq s m) [
              | inl q ↦ (omega arith, rw q due)
              | inr ne ↦ let z = f.pending s (sym (h.there s ne) ∙ w) in (omega arith, z.1)
            ];
            queued = λ v l w. elim (cases_eq v m) [
              | inl q ↦ rw q h.here
              | inr ne ↦ h.there v ne ∙ f.queued v (omega arith) w
            ];
          },
          h.long,
        )

-- ---- taking
module _ {G : Type 0} (initial : G) (t : Task) (i : ℕ) (os : List Outcome) (labels : List (Label G)) (slots slots' : List (Option (Key G))) where
  pub take_next : (v : ℕ) → Filling initial t i os labels slots → SlotTake slots slots' (Some v) → Taking initial t i v os labels slots' × (length slots' ≡ length slots)
  take_next v f k =
      let h = f.loaded.pending v k.1 in
      let gone : waits (at (set slots v None) v) ≡ false = ap waits (get_or-set_same slots v None None k.0) in
      let same = length-set slots v None in
      rw k.2 (
        record {
          books = f.books;
          pending = λ s w. elim (cases_eq s v) [
            | inl q ↦ absurd (both_ways _ gone (rw q at w))
            | inr ne ↦ f.loaded.pending s (ap waits (sym (get_or-set_other slots v s None None ne)) ∙ w)
          ];
          queued = λ u l ne w. ap waits (get_or-set_other slots v u None None ne) ∙ f.loaded.queued u l w;
          seats = omega (arith, f.seats);
          point = h.0;
          due = h.1;
          free = gone;
        },
        same,
      )

-- ---- labels put and settled
module _ {G : Type 0} (initial : G) (t : Task) (i : ℕ) (hi : i < t.plan.buckets) (labels : List (Label G)) (room : t.plan.points * t.plan.buckets ≤ length labels) (slots : List (Option (Key G))) where
  -- a candidate of another bucket
  pub loaded_aside : (v b : ℕ) (new : Label G) → v < t.plan.points → b < t.plan.buckets → (b ≡ i → ⊥) → Loaded initial t.plan i t.plan.points labels slots
      → Loaded initial t.plan i t.plan.points (set labels (v * t.plan.buckets + b) new) slots
  loaded_aside v b new hv hb apart f =
      let same : (a : ℕ) → label_in initial t.plan (set labels (v * t.plan.buckets + b) new) a i ≡ label_in initial t.plan labels a i =
      λ a. elim (put_cases initial t.plan labels v b new hv hb room a i hi) [ inl x ↦ absurd (apart (sym x.1)) | inr x ↦ x.1 ] in
      record {
        pending = λ s w. let h = f.pending s w in (h.0, ap (λ (l : Label G). l.mark) (same s) ∙ h.1);
        queued = λ a l w. f.queued a l (ap (λ (l : Label G). l.mark) (sym (same a)) ∙ w);
      }

  -- a candidate of this bucket, which is offered
  pub loaded_offered : (v : ℕ) (new : Label G) (slots' : List (Option (Key G))) → v < t.plan.points → new.mark ≡ Waiting → Offered v slots slots' → Loaded initial t.plan i t.plan.points labels slots
      → Loaded initial t.plan i t.plan.points (set labels (v * t.plan.buckets + i) new) slots'
  loaded_offered v new slots' hv waiting o f = record {
    pending = λ s w. elim (put_cases initial t.plan labels v i new hv hi room s i hi) [
      | inl x ↦ (omega (arith, x.0, hv), ap (λ (l : Label G). l.mark) x.2 ∙ waiting)
      | inr x ↦ let h = f.pending s (sym (o.there s (λ e. x.0 (e, refl))) ∙ w) in (h.0, ap (λ (l : Label G). l.mark) x.1 ∙ h.1)
    ];
    queued = λ a l w. elim (put_cases initial t.plan labels v i new hv hi room a i hi) [
      | inl x ↦ rw x.0 o.here
      | inr x ↦ o.there a (λ e. x.0 (e, refl)) ∙ f.queued a l (ap (λ (l : Label G). l.mark) (sym x.1) ∙ w)
    ];
  }

  -- the label of a point just taken no longer waits
  pub loaded_settled : (os : List Outcome) (v : ℕ) (new : Label G) → (new.mark ≡ Waiting → ⊥) → Taking initial t i v os labels slots
      → Loaded initial t.plan i t.plan.points (set labels (v * t.plan.buckets + i) new) slots
  loaded_settled os v new closed k = record {
    pending = λ s w. elim (put_cases initial t.plan labels v i new k.point hi room s i hi) [
      | inl x ↦ absurd (both_ways _ k.free (rw x.0 at w))
      | inr x ↦ let h = k.pending s w in (h.0, ap (λ (l : Label G). l.mark) x.1 ∙ h.1)
    ];
    queued = λ a l w. elim (put_cases initial t.plan labels v i new k.point hi room a i hi) [
      | inl x ↦ absurd (closed (ap (λ (l : Label G). l.mark) (sym x.2) ∙ w))
      | inr x ↦ k.queued a l (λ e. x.0 (e, refl)) (ap (λ (l : Label G). l.mark) (sym x.1) ∙ w)
    ];
  }
