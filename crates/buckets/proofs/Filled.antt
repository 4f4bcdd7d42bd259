-- How the tables of a bucket change, step by step.
use Rattle.std.proofs.Common.{◌≡◌, ℕ, ◌+◌, ◌*◌, ◌/◌, ◌<◌, ◌≤◌, Bool, true, false, cond, not, ◌⊎◌, List, length, set, Some, Option, sym, refl, ap, ◌∙◌, subst, inl, inr, arith}
use Rattle.std.proofs.lemmas.List.{get_or-set_same, get_or-set_other}
use Rattle.std.proofs.lemmas.Bool.{both_ways, cases_eq}
use Rattle.grades.specs.declared.LinkCost.{LinkCost}
use Rattle.grades.specs.declared.key.Key.{Key}
use Rattle.queues.specs.declared.slot.Offer.{Offer}
use Rattle.queues.specs.Slots.{NoneWaits, SlotOffer}
use Rattle.tables.specs.declared.plan.Plan.{Plan}
use Rattle.tables.specs.declared.table.Label.{Label}
use Rattle.tables.specs.declared.table.Mark.{Mark}
use Rattle.tables.specs.declared.table.Mark.TheVariants.{Empty, Kept, Waiting, Dropped}
use Rattle.tables.specs.declared.table.Outcome.{Outcome}
use Rattle.tables.specs.declared.task.Task.{Task}
use Rattle.tables.specs.Tables.{label_at, empty_label, outcome_at, unreached_outcome, is_open, link_at, open_end}
use Rattle.tables.specs.Tallies.{tally}
use Rattle.tables.proofs.Cuts.{place_below}
use Rattle.tables.proofs.Joins.{joined_end}
use Rattle.tables.proofs.Tallying.{tally_more, tally_same}
use Rattle.labels.specs.Candidates.{extended, chosen_over}
use Rattle.labels.specs.Steps.{Tried, Settled, marked, regiven}
use Rattle.buckets.specs.Buckets.{label_in, closed_in, SameOpen, Loaded, Books, Filling, Expanding, Taking, Ready, Swept}
use Rattle.buckets.specs.Results.{Frame}
use Rattle.buckets.proofs.Placing.{bucket_in, put_here, put_cases}
use Rattle.buckets.proofs.Loading.{offered, loaded_aside, loaded_offered, loaded_settled}
use Rattle.buckets.proofs.Framing.{frame_same, frame_put}
use Rattle.buckets.proofs.Soundness.{waiting_kept, last_later, keeps_put, keeps_swept, sound_put, sound_extended, sound_settled, sound_swept, sound_begin}

-- a candidate is chosen only where one may still come
chosen_open : {G : Type 0} (good : G → G → Bool) (new old : Label G) (m : Mark) → chosen_over good new old m ≡ true → is_open m ≡ true
chosen_open good new old Empty e = refl
chosen_open good new old Kept e = e
chosen_open good new old Waiting e = refl
chosen_open good new old Dropped e = e

closed_mark : (kept : Bool) → not (is_open (cond kept Kept Dropped)) ≡ true
closed_mark true = refl
closed_mark false = refl

not_waiting : (kept : Bool) → cond kept Kept Dropped ≡ Waiting → ⊥
not_waiting kept e = both_ways true (sym (closed_mark kept) ∙ ap (λ m. not (is_open m)) e) refl

pub same_closed : {G : Type 0} (initial : G) (p : Plan) (i : ℕ) (labels labels' : List (Label G)) → SameOpen initial p i labels labels'
    → tally (closed_in initial p i labels') p.points ≡ tally (closed_in initial p i labels) p.points
same_closed initial p i labels labels' same = tally_same _ _ p.points (λ v _. ap not (same v))

-- ---- a link tried
module _ {G : Type 0} (good : G → G → Bool) (initial : G) (after : G → LinkCost → G) (t : Task)
    (i v number to : ℕ) (hi : i < t.plan.buckets) (hv : v < t.plan.points) (hn : number < length t.links.now) (goes : open_end (link_at t.links.now number) v ≡ Some to)
    (label : Label G) (os : List Outcome) (labels : List (Label G)) (room : t.plan.points * t.plan.buckets ≤ length labels) (slots : List (Option (Key G)))
    (x : Expanding initial t i v label os labels slots) where
  abbrev new : Label G
  new = extended after label i number (link_at t.links.now number)

  abbrev b : ℕ
  b = new.key.delay / t.plan.width

  abbrev put : List (Label G)
  put = set labels (to * t.plan.buckets + b) new

  ht : to < t.plan.points
  ht = joined_end t.plan.points t.links.now number v to t.joined hn goes

  module _ (below : new.key.delay ≤ t.plan.ceiling) (was : is_open (label_in initial t.plan labels to b).mark ≡ true) where
    hb : b < t.plan.buckets
    hb = bucket_in t.plan new.key.delay below

    books_tried : Books initial t i os put
    books_tried =
        let k = x.filling.books in
        let free : (label_in initial t.plan labels to b).mark ≡ Kept → ⊥ = λ e. both_ways true (sym was ∙ ap is_open e) refl in
        record {
          within = k.within;
          given = k.given;
          sound = sound_put initial t labels room to b ht hb new free i k.sound
              (sound_extended initial t after labels i v number to label hi hv hn goes x.stands x.kept (k.sound v i hv hi));
          last = last_later initial t labels put (keeps_put initial t labels room to b ht hb new free) os k.within k.last;
        }

    stands_tried : label_in initial t.plan put v i ≡ label
    stands_tried = elim (put_cases initial t.plan labels to b new ht hb room v i hi) [
      | inl e ↦
          let z : is_open (label_in initial t.plan labels v i).mark ≡ true = rw (e.0, e.1) was in
          absurd (both_ways _ (ap (λ (l : Label G). is_open l.mark) x.stands ∙ ap is_open x.kept) z)
      | inr e ↦ e.1 ∙ x.stands
    ]

    same_tried : SameOpen initial t.plan i labels put
    same_tried a = elim (put_cases initial t.plan labels to b new ht hb room a i hi) [
      | inl e ↦ ap (λ (l : Label G). is_open l.mark) e.2 ∙ sym (rw (e.0, e.1) was)
      | inr e ↦ ap (λ (l : Label G). is_open l.mark) e.1
    ]

    loaded_tried : (slots' : List (Option (Key G))) → ((b ≡ i) × ((r : Offer) × SlotOffer good slots to new.key slots' r)) ⊎ ((b ≡ i → ⊥) × (slots' ≡ slots))
        → Loaded initial t.plan i t.plan.points put slots' × (length slots' ≡ length slots)
    loaded_tried slots' (inl (e, o)) =
        let h = offered good slots slots' to new.key o.0 o.1 (omega (arith, ht, x.filling.seats)) in
        (rw e (loaded_offered initial t i hi labels room slots to new slots' ht refl h x.filling.loaded), h.long)
    loaded_tried slots' (inr (ne, e)) = rw e (loaded_aside initial t i hi labels room slots to b new ht hb ne x.filling.loaded, refl)

  pub tried_fill : (labels' : List (Label G)) (slots' : List (Option (Key G))) → Tried good initial os t.plan.buckets t.plan.ceiling t.plan.width i to new labels slots labels' slots'
      → Expanding initial t i v label os labels' slots' × SameOpen initial t.plan i labels labels' × (length slots' ≡ length slots) × Frame initial t.plan os labels os labels'
  tried_fill labels' slots' (inl (why, el, es)) = rw (el, es) (x, (λ a. refl), refl, frame_same initial t.plan os labels)
  tried_fill labels' slots' (inr (le, r, yes', el, o)) =
      let was = chosen_open good new (label_in initial t.plan labels to b) (label_in initial t.plan labels to b).mark yes' in
      let h = loaded_tried le was slots' o in
      rw el (
        record {
          filling = record { books = books_tried le was; loaded = h.0; seats = omega (arith, h.1, x.filling.seats) };
          stands = stands_tried le was;
          kept = x.kept;
        },
        same_tried le was,
        h.1,
        frame_put initial t.plan os labels (to * t.plan.buckets + b) new (place_below to t.plan.points b t.plan.buckets ht (hb le was)),
      )

-- ---- a label settled
module _ {G : Type 0} (good : G → G → Bool) (initial : G) (t : Task) (i v : ℕ) (hi : i < t.plan.buckets) (os : List Outcome) (many : t.plan.points ≤ length os)
    (labels : List (Label G)) (room : t.plan.points * t.plan.buckets ≤ length labels) (slots : List (Option (Key G))) (x : Taking initial t i v os labels slots) (kept : Bool) where
  abbrev settled : Label G
  settled = marked (cond kept Kept Dropped) (label_in initial t.plan labels v i)

  abbrev set_labels : List (Label G)
  set_labels = set labels (v * t.plan.buckets + i) settled

  here : label_in initial t.plan set_labels v i ≡ settled
  here = put_here initial t.plan labels v i settled x.point hi room

  more : tally (closed_in initial t.plan i set_labels) t.plan.points ≡ tally (closed_in initial t.plan i labels) t.plan.points + 1
  more =
      tally_more (closed_in initial t.plan i labels) (closed_in initial t.plan i set_labels) t.plan.points v x.point
      (ap (λ m. not (is_open m)) x.due)
      (ap (λ (l : Label G). not (is_open l.mark)) here ∙ closed_mark kept)
      (λ w ne. elim (put_cases initial t.plan labels v i settled x.point hi room w i hi) [
        | inl e ↦ absurd (ne e.0)
        | inr e ↦ ap (λ (l : Label G). not (is_open l.mark)) e.1
      ])

  -- the given bucket of a point is i now, or what it was
  given_cases : (os' : List Outcome) (k : Bool) → os' ≡ cond k (set os v (regiven i (outcome_at os v))) os → (u : ℕ)
      → ((u ≡ v) × (k ≡ true) × ((outcome_at os' u).given ≡ i)) ⊎ ((outcome_at os' u).given ≡ (outcome_at os u).given)
  given_cases os' false e u = inr (ap (λ z. (outcome_at z u).given) e)
  given_cases os' true e u = elim (cases_eq u v) [
    | inl q ↦ inl (
      q,
      refl,
      ap (λ z. (outcome_at z u).given) e ∙ ap (λ a. (outcome_at (set os v (regiven i (outcome_at os v))) a).given) q
          ∙ ap (λ (o : Outcome). o.given) (get_or-set_same os v (regiven i (outcome_at os v)) unreached_outcome (omega (arith, many, x.point))),
    )
    | inr ne ↦ inr (ap (λ z. (outcome_at z u).given) e ∙ ap (λ (o : Outcome). o.given) (get_or-set_other os v u (regiven i (outcome_at os v)) unreached_outcome ne))
  ]

  books_settled : (os' : List Outcome) → os' ≡ cond kept (set os v (regiven i (outcome_at os v))) os → Books initial t i os' set_labels
  books_settled os' e = record {
    within = λ u l. elim (given_cases os' kept e u) [ inl h ↦ omega (arith, h.2, hi) | inr h ↦ omega (arith, h, x.books.within u l) ];
    given = λ u l. elim (given_cases os' kept e u) [ inl h ↦ omega (arith, h.2) | inr h ↦ omega (arith, h, x.books.given u l) ];
    sound = sound_put initial t labels room v i x.point hi settled (waiting_kept _ x.due) i x.books.sound
        (sound_settled initial t labels i v kept (label_in initial t.plan labels v i) x.due (x.books.sound v i x.point hi));
    last = λ u l. elim (given_cases os' kept e u) [
      | inl h ↦ inl (ap (λ a. (label_in initial t.plan set_labels a (outcome_at os' u).given).mark) h.0 ∙ ap (λ c. (label_in initial t.plan set_labels v c).mark) h.2
          ∙ ap (λ (x : Label G). x.mark) here ∙ ap (λ k. cond k Kept Dropped) h.1)
      | inr h ↦ subst (λ (z : ℕ). ((label_at initial set_labels (u * t.plan.buckets + z)).mark ≡ Kept) ⊎ (z ≡ 0)) (sym h)
          (last_later initial t labels set_labels (keeps_put initial t labels room v i x.point hi settled (waiting_kept _ x.due)) os x.books.within x.books.last u l)
    ];
  }

  pub settle_fill : (os' : List Outcome) (labels' : List (Label G)) → Settled good initial t.plan.buckets i v os labels kept os' labels'
      → (tally (closed_in initial t.plan i labels') t.plan.points ≡ tally (closed_in initial t.plan i labels) t.plan.points + 1)
      × Filling initial t i os' labels' slots
      × (kept ≡ true → (label_in initial t.plan labels' v i).mark ≡ Kept)
  settle_fill os' labels' s =
      rw s.1 (
        more,
        record { books = books_settled os' s.2; loaded = loaded_settled initial t i hi labels room slots os v settled (not_waiting kept) x; seats = x.seats },
        (λ e. ap (λ (l : Label G). l.mark) here ∙ ap (λ k. cond k Kept Dropped) e),
      )

-- ---- a bucket begun and done
module _ {G : Type 0} (initial : G) (t : Task) (i : ℕ) (hi : i < t.plan.buckets) (os : List Outcome) (labels : List (Label G)) where
  books_swept : (labels' : List (Label G)) (slots : List (Option (Key G))) → Filling initial t i os labels slots → NoneWaits slots → Swept initial t.plan i t.plan.points labels labels'
      → Books initial t (i + 1) os labels'
  books_swept labels' slots f idle s = record {
    within = f.books.within;
    given = λ v l. omega (arith, f.books.given v l);
    sound = sound_swept initial t i hi labels labels' s (λ v l w. both_ways _ (idle v) (f.loaded.queued v l w)) f.books.sound;
    last = last_later initial t labels labels' (keeps_swept initial t i hi labels labels' s) os f.books.within f.books.last;
  }

  pub fill_ready : (labels' : List (Label G)) (slots : List (Option (Key G))) → Filling initial t i os labels slots → NoneWaits slots → Swept initial t.plan i t.plan.points labels labels'
      → Ready initial t (i + 1) os labels' slots
  fill_ready labels' slots f idle s = record { books = books_swept labels' slots f idle s; idle = idle; seats = f.seats }

-- ---- the first bucket
module _ {G : Type 0} (initial : G) (t : Task) (os : List Outcome) (labels : List (Label G)) (room : t.plan.points * t.plan.buckets ≤ length labels)
    (blank : (q : ℕ) → q < t.plan.points * t.plan.buckets → label_at initial labels q ≡ empty_label initial) (none_given : (v : ℕ) → v < t.plan.points → (outcome_at os v).given ≡ 0) where
  some : 0 < t.plan.buckets
  some = omega (arith, t.plan.cut)

  books_begin : Books initial t 0 os (set labels (t.plan.source * t.plan.buckets + 0) (marked Waiting (empty_label initial)))
  books_begin = record {
    within = λ v l. omega (arith, none_given v l, some);
    given = λ v l. omega (arith, none_given v l);
    sound = sound_begin initial t labels room some (λ v b hv hb. blank (v * t.plan.buckets + b) (place_below v t.plan.points b t.plan.buckets hv hb));
    last = λ v l. inr (none_given v l);
  }

  pub begin_ready : (slots : List (Option (Key G))) → NoneWaits slots → t.plan.points ≤ length slots → Ready initial t 0 os (set labels (t.plan.source * t.plan.buckets + 0) (marked Waiting (empty_label initial))) slots
  begin_ready slots idle seats = record { books = books_begin; idle = idle; seats = seats }
