-- Each label stands in the bucket of its delay and extends a kept one; kept labels never change.
use Rattle.std.proofs.Common.{◌≡◌, ℕ, ◌+◌, ◌*◌, ◌/◌, ◌%◌, ◌<◌, ◌≤◌, Bool, true, false, cond, ◌⊎◌, List, length, set, Some, sym, refl, ap, ◌∙◌, subst, inl, inr, arith}
use native.Mathlib.Nat.{zero-div}
use Rattle.std.proofs.lemmas.Nat.{div-add-mod', mod_below, div_below, le-div}
use Rattle.std.proofs.lemmas.Bool.{cases_eq}
use Rattle.grades.specs.declared.LinkCost.{LinkCost}
use Rattle.tables.specs.declared.table.Label.{Label}
use Rattle.tables.specs.declared.table.Mark.{Mark}
use Rattle.tables.specs.declared.table.Mark.TheVariants.{Empty, Kept, Waiting, Dropped}
use Rattle.tables.specs.declared.table.Outcome.{Outcome}
use Rattle.tables.specs.declared.task.Task.{Task}
use Rattle.tables.specs.Tables.{label_at, empty_label, outcome_at, link_at, open_end}
use Rattle.labels.specs.Candidates.{extended}
use Rattle.labels.specs.Steps.{marked}
use Rattle.buckets.specs.Buckets.{label_in, Sound, Swept, swept_label}
use Rattle.buckets.specs.Results.{Extends, GivenKept, KeptOrBlank}
use Rattle.buckets.proofs.Placing.{place_apart, put_here, put_cases}
use Rattle.buckets.proofs.Backing.{end_back}

-- ---- marks
pub kept_empty : (m : Mark) → m ≡ Kept → m ≡ Empty → ⊥
kept_empty m e f = let z : ◌≡◌ {A = ℕ} 0 1 = cc in omega arith

waiting_empty : (m : Mark) → m ≡ Waiting → m ≡ Empty → ⊥
waiting_empty m e f = let z : ◌≡◌ {A = ℕ} 0 1 = cc in omega arith

pub waiting_kept : (m : Mark) → m ≡ Waiting → m ≡ Kept → ⊥
waiting_kept m e f = let z : ◌≡◌ {A = ℕ} 0 1 = cc in omega arith

settled_empty : (kept : Bool) → cond kept Kept Dropped ≡ Empty → ⊥
settled_empty true e = kept_empty Kept refl e
settled_empty false e = let z : ◌≡◌ {A = ℕ} 0 1 = cc in omega arith

-- a longer delay falls into no earlier bucket
bucket_later : (d e w : ℕ) → 0 < w → d ≤ e → d / w ≤ e / w
bucket_later d e w h le = le-div (d / w) e w h (omega (arith, div-add-mod' d w, le))

module _ {G : Type 0} (initial : G) (t : Task) where
  -- every place is sound
  abbrev pub AllSound : ℕ → List (Label G) → Type 0
  AllSound i labels = (v b : ℕ) → v < t.plan.points → b < t.plan.buckets → Sound initial t i labels v b (label_in initial t.plan labels v b)

  -- kept labels stand where they stood
  abbrev pub Keeps : List (Label G) → List (Label G) → Type 0
  Keeps labels labels' = (v b : ℕ) → v < t.plan.points → b < t.plan.buckets → (label_in initial t.plan labels v b).mark ≡ Kept → label_in initial t.plan labels' v b ≡ label_in initial t.plan labels v b

  module _ (labels labels' : List (Label G)) (keeps : Keeps labels labels') where
    extends_later : (v : ℕ) (l : Label G) → Extends initial t.links.now t.plan.points t.plan.buckets labels v l → Extends initial t.links.now t.plan.points t.plan.buckets labels' v l
    extends_later v l e =
        let same = keeps e.back l.earlier e.back_known e.earlier_known e.kept in
        record {
          link_known = e.link_known;
          earlier_known = e.earlier_known;
          back = e.back;
          back_known = e.back_known;
          joins = e.joins;
          kept = ap (λ (x : Label G). x.mark) same ∙ e.kept;
          count = omega (arith, ap (λ (x : Label G). x.key.count) same, e.count);
        }

    pub sound_later : (i v b : ℕ) (l : Label G) → Sound initial t i labels v b l → Sound initial t i labels' v b l
    sound_later i v b l s = record { blank = s.blank; placed = s.placed; extends = λ m c. extends_later v l (s.extends m c); done = s.done }

    pub last_later : (os : List Outcome) → ((v : ℕ) → v < t.plan.points → (outcome_at os v).given < t.plan.buckets) → GivenKept initial t.plan.points t.plan.buckets os labels → GivenKept initial t.plan.points t.plan.buckets os labels'
    last_later os within last v hv = elim (last v hv) [
      | inl k ↦ inl (ap (λ (x : Label G). x.mark) (keeps v (outcome_at os v).given hv (within v hv) k) ∙ k)
      | inr z ↦ inr z
    ]

  -- ---- a label put over one that is not kept
  module _ (labels : List (Label G)) (room : t.plan.points * t.plan.buckets ≤ length labels) (v b : ℕ) (hv : v < t.plan.points) (hb : b < t.plan.buckets) (new : Label G)
      (free : (label_in initial t.plan labels v b).mark ≡ Kept → ⊥) where
    pub keeps_put : Keeps labels (set labels (v * t.plan.buckets + b) new)
    keeps_put a c ha hc k = elim (put_cases initial t.plan labels v b new hv hb room a c hc) [
      | inl x ↦ absurd (free (rw (x.0, x.1) at k))
      | inr x ↦ x.1
    ]

    pub sound_put : (i : ℕ) → AllSound i labels → Sound initial t i labels v b new → AllSound i (set labels (v * t.plan.buckets + b) new)
    sound_put i all one a c ha hc = elim (put_cases initial t.plan labels v b new hv hb room a c hc) [
      | inl x ↦ rw (x.0, x.1)
          (subst (λ (l : Label G). Sound initial t i (set labels (v * t.plan.buckets + b) new) v b l) (sym (put_here initial t.plan labels v b new hv hb room))
          (sound_later labels (set labels (v * t.plan.buckets + b) new) keeps_put i v b new one))
      | inr x ↦ subst (λ (l : Label G). Sound initial t i (set labels (v * t.plan.buckets + b) new) a c l) (sym x.1)
          (sound_later labels (set labels (v * t.plan.buckets + b) new) keeps_put i a c (label_in initial t.plan labels a c) (all a c ha hc))
    ]

  -- ---- the extension of a kept label
  pub sound_extended : (after : G → LinkCost → G) (labels : List (Label G)) (i v number to : ℕ) (label : Label G) → i < t.plan.buckets → v < t.plan.points → number < length t.links.now
      → open_end (link_at t.links.now number) v ≡ Some to → label_in initial t.plan labels v i ≡ label → label.mark ≡ Kept → Sound initial t i labels v i (label_in initial t.plan labels v i)
      → Sound initial t i labels to ((extended after label i number (link_at t.links.now number)).key.delay / t.plan.width) (extended after label i number (link_at t.links.now number))
  sound_extended after labels i v number to label hi hv hn goes is kept s =
      let mark : (label_in initial t.plan labels v i).mark ≡ Kept = ap (λ (l : Label G). l.mark) is ∙ kept in
      let at : (label_in initial t.plan labels v i).key.delay / t.plan.width ≡ i = s.placed (kept_empty _ mark) in
      let same = ap (λ (l : Label G). l.key.delay) is in
      let later = bucket_later (label_in initial t.plan labels v i).key.delay (label.key.delay + (link_at t.links.now number).delay) t.plan.width t.plan.wide (omega (arith, same)) in
      record {
        blank = λ e. absurd (waiting_empty Waiting refl e);
        placed = λ e. refl;
        extends = λ e c. record {
          link_known = hn;
          earlier_known = hi;
          back = v;
          back_known = hv;
          joins = end_back (link_at t.links.now number) v to (t.joined number hn).2 goes;
          kept = mark;
          count = omega (arith, ap (λ (l : Label G). l.key.count) is);
        };
        done = λ lt. absurd (omega (arith, lt, later, at));
      }

  -- ---- a waiting label settled
  pub sound_settled : (labels : List (Label G)) (i v : ℕ) (kept : Bool) (l : Label G) → l.mark ≡ Waiting → Sound initial t i labels v i l → Sound initial t i labels v i (marked (cond kept Kept Dropped) l)
  sound_settled labels i v kept l due s = record {
    blank = λ e. absurd (settled_empty kept e);
    placed = λ e. s.placed (waiting_empty _ due);
    extends = λ e c. let x = s.extends (waiting_empty _ due) c in
        record { link_known = x.link_known; earlier_known = x.earlier_known; back = x.back; back_known = x.back_known; joins = x.joins; kept = x.kept; count = x.count };
    done = λ lt. absurd (omega arith);
  }

  -- ---- a bucket swept
  sound_blank : (i v b : ℕ) (labels : List (Label G)) → Sound initial t i labels v b (empty_label initial)
  sound_blank i v b labels = record { blank = λ e. refl; placed = λ e. absurd (e refl); extends = λ e c. absurd (e refl); done = λ lt. inl refl }

  module _ (i : ℕ) (hi : i < t.plan.buckets) (labels labels' : List (Label G)) (s : Swept initial t.plan i t.plan.points labels labels') where
    swept_cases : (v b : ℕ) → v < t.plan.points → b < t.plan.buckets
        → ((b ≡ i) × (label_in initial t.plan labels' v b ≡ swept_label initial (label_in initial t.plan labels v b) (label_in initial t.plan labels v b).mark))
        ⊎ ((b ≡ i → ⊥) × (label_in initial t.plan labels' v b ≡ label_in initial t.plan labels v b))
    swept_cases v b hv hb = elim (cases_eq b i) [
      | inl e ↦ inl (e, rw e (s.swept v hv))
      | inr ne ↦ inr (ne, s.others (v * t.plan.buckets + b) (λ u hu e. ne (place_apart v u b i t.plan.buckets hb hi e).1))
    ]

    pub keeps_swept : Keeps labels labels'
    keeps_swept v b hv hb k = elim (swept_cases v b hv hb) [
      | inl x ↦ x.1 ∙ ap (swept_label initial (label_in initial t.plan labels v b)) k
      | inr x ↦ x.1
    ]

    next : (v b : ℕ) (l : Label G) → Sound initial t i labels v b l → (b < i + 1 → (l.mark ≡ Empty) ⊎ (l.mark ≡ Kept)) → Sound initial t (i + 1) labels' v b l
    next v b l x done = let y = sound_later labels labels' keeps_swept i v b l x in record { blank = y.blank; placed = y.placed; extends = y.extends; done = done }

    left : (v b : ℕ) (l : Label G) (m : Mark) → l.mark ≡ m → (m ≡ Waiting → ⊥) → Sound initial t i labels v b l → Sound initial t (i + 1) labels' v b (swept_label initial l m)
    left v b l Empty e no' x = next v b l x (λ lt. inl e)
    left v b l Kept e no' x = next v b l x (λ lt. inr e)
    left v b l Waiting e no' x = absurd (no' refl)
    left v b l Dropped e no' x = sound_blank (i + 1) v b labels'

    pub sound_swept : ((v : ℕ) → v < t.plan.points → (label_in initial t.plan labels v i).mark ≡ Waiting → ⊥) → AllSound i labels → AllSound (i + 1) labels'
    sound_swept none_waits all v b hv hb = elim (swept_cases v b hv hb) [
      | inl x ↦ subst (λ (l : Label G). Sound initial t (i + 1) labels' v b l) (sym x.1)
          (left v b (label_in initial t.plan labels v b) (label_in initial t.plan labels v b).mark refl (λ w. none_waits v hv (rw x.0 at w)) (all v b hv hb))
      | inr x ↦ subst (λ (l : Label G). Sound initial t (i + 1) labels' v b l) (sym x.1)
          (next v b (label_in initial t.plan labels v b) (all v b hv hb) (λ lt. (all v b hv hb).done (let ne : b ≡ i → ⊥ = x.0 in omega arith)))
    ]

  -- ---- the first bucket
  pub sound_begin : (labels : List (Label G)) → t.plan.points * t.plan.buckets ≤ length labels → 0 < t.plan.buckets → ((v b : ℕ) → v < t.plan.points → b < t.plan.buckets → label_in initial t.plan labels v b ≡ empty_label initial)
      → AllSound 0 (set labels (t.plan.source * t.plan.buckets + 0) (marked Waiting (empty_label initial)))
  sound_begin labels room some blank =
      sound_put labels room t.plan.source 0 t.plan.started some (marked Waiting (empty_label initial))
      (λ k. kept_empty _ k (ap (λ (l : Label G). l.mark) (blank t.plan.source 0 t.plan.started some))) 0
      (λ v b hv hb. subst (λ (l : Label G). Sound initial t 0 labels v b l) (sym (blank v b hv hb)) (sound_blank 0 v b labels))
      (record { blank = λ e. absurd (waiting_empty Waiting refl e); placed = λ e. zero-div t.plan.width; extends = λ e c. absurd (omega (arith, c)); done = λ lt. absurd (omega (arith, lt)) })

  -- ---- all buckets done
  pub sound_end : (labels : List (Label G)) → 0 < t.plan.buckets → AllSound t.plan.buckets labels → KeptOrBlank initial t.plan.points t.plan.buckets labels
  sound_end labels some all q lt =
      let e = div-add-mod' q t.plan.buckets in
      let hb = mod_below q t.plan.buckets some in
      let x = all (q / t.plan.buckets) (q % t.plan.buckets) (div_below q t.plan.buckets t.plan.points some lt) hb in
      subst (λ (z : ℕ). ((label_at initial labels z).mark ≡ Kept) ⊎ (label_at initial labels z ≡ empty_label initial)) e
      (elim (x.done hb) [ inl m ↦ inr (x.blank m) | inr m ↦ inl m ])
