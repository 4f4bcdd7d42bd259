-- What the steps leave as it was.
use Rattle.std.proofs.Common.{◌≡◌, ℕ, ◌+◌, ◌*◌, ◌<◌, ◌≤◌, Bool, true, false, cond, List, length, set, sym, refl, ap, ◌∙◌, inl, inr, arith}
use Rattle.std.proofs.lemmas.List.{get_or-set_same, get_or-set_other}
use Rattle.std.proofs.lemmas.Bool.{cases_eq}
use Rattle.tables.specs.declared.plan.Plan.{Plan}
use Rattle.tables.specs.declared.table.Label.{Label}
use Rattle.tables.specs.declared.table.Outcome.{Outcome}
use Rattle.tables.specs.Tables.{outcome_at, reached_at, delay_at, empty_label, unreached_outcome}
use Rattle.tables.proofs.Cuts.{place_below}
use Rattle.labels.specs.Steps.{Settled, regiven}
use Rattle.buckets.specs.Buckets.{Swept}
use Rattle.buckets.specs.Results.{Frame}

module _ {G : Type 0} (initial : G) (p : Plan) where
  pub frame_same : (os : List Outcome) (labels : List (Label G)) → Frame initial p os labels os labels
  frame_same os labels = record { labels_beyond = λ q l. refl; reached_same = λ v. refl; delay_same = λ v. refl; outcomes_beyond = λ v l. refl }

  pub frame_then : (os os' os'' : List Outcome) (labels labels' labels'' : List (Label G)) → Frame initial p os labels os' labels' → Frame initial p os' labels' os'' labels'' → Frame initial p os labels os'' labels''
  frame_then os os' os'' labels labels' labels'' f g = record {
    labels_beyond = λ q l. g.labels_beyond q l ∙ f.labels_beyond q l;
    reached_same = λ v. g.reached_same v ∙ f.reached_same v;
    delay_same = λ v. g.delay_same v ∙ f.delay_same v;
    outcomes_beyond = λ v l. g.outcomes_beyond v l ∙ f.outcomes_beyond v l;
  }

  pub frame_put : (os : List Outcome) (labels : List (Label G)) (q : ℕ) (new : Label G) → q < p.points * p.buckets → Frame initial p os labels os (set labels q new)
  frame_put os labels q new lt = record {
    labels_beyond = λ z l. get_or-set_other labels q z new (empty_label initial) (λ e. omega (arith, e, lt, l));
    reached_same = λ v. refl;
    delay_same = λ v. refl;
    outcomes_beyond = λ v l. refl;
  }

  pub frame_settled : (good : G → G → Bool) (i v : ℕ) → i < p.buckets → v < p.points → (os os' : List Outcome) (labels labels' : List (Label G)) (kept : Bool) → v < length os
      → Settled good initial p.buckets i v os labels kept os' labels' → Frame initial p os labels os' labels'
  frame_settled good i v hi hv os os' labels labels' kept lo s =
      rw s.1 (record {
        labels_beyond = (frame_put os labels (v * p.buckets + i) _ (place_below v p.points i p.buckets hv hi)).labels_beyond;
        reached_same = λ u. ap (λ x. reached_at x u) s.2 ∙ go (λ (o : Outcome). o.reached) refl u kept;
        delay_same = λ u. ap (λ x. delay_at x u) s.2 ∙ go (λ (o : Outcome). o.delay) refl u kept;
        outcomes_beyond = λ u l. ap (λ x. outcome_at x u) s.2 ∙ beyond u l kept;
      })
    where
      beyond : (u : ℕ) → p.points ≤ u → (k : Bool) → outcome_at (cond k (set os v (regiven i (outcome_at os v))) os) u ≡ outcome_at os u
      beyond u l true = get_or-set_other os v u (regiven i (outcome_at os v)) unreached_outcome (λ e. omega (arith, e, l, hv))
      beyond u l false = refl

      go : {X : Type 0} (f : Outcome → X) → f (regiven i (outcome_at os v)) ≡ f (outcome_at os v) → (u : ℕ) (k : Bool) → f (outcome_at (cond k (set os v (regiven i (outcome_at os v))) os) u) ≡ f (outcome_at os u)
      go f e u false = refl
      go f e u true = elim (cases_eq u v) [
        | inl q ↦ ap (λ a. f (outcome_at (set os v (regiven i (outcome_at os v))) a)) q ∙ ap f (get_or-set_same os v (regiven i (outcome_at os v)) unreached_outcome lo) ∙ e ∙ ap (λ a. f (outcome_at os a)) (sym q)
        | inr q ↦ ap f (get_or-set_other os v u (regiven i (outcome_at os v)) unreached_outcome q)
      ]

pub frame_swept : {G : Type 0} (initial : G) (p : Plan) (i : ℕ) → i < p.buckets → (os : List Outcome) (labels labels' : List (Label G)) → Swept initial p i p.points labels labels' → Frame initial p os labels os labels'
frame_swept initial p i hi os labels labels' s = record {
  labels_beyond = λ q l. s.others q (λ v hv e. omega (arith, e, l, place_below v p.points i p.buckets hv hi));
  reached_same = λ v. refl;
  delay_same = λ v. refl;
  outcomes_beyond = λ v l. refl;
}
