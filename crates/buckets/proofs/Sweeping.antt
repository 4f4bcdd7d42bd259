-- What a sweep leaves.
use Rattle.std.proofs.Common.{◌≡◌, ℕ, ◌+◌, ◌*◌, ◌<◌, List, length, sym, ap, ◌∙◌, inl, inr, arith}
use Rattle.std.proofs.lemmas.List.{get_or-set_same, get_or-set_other}
use Rattle.std.proofs.lemmas.Bool.{cases_eq}
use Rattle.tables.specs.declared.plan.Plan.{Plan}
use Rattle.tables.specs.declared.table.Label.{Label}
use Rattle.tables.specs.declared.table.Mark.{Mark}
use Rattle.tables.specs.declared.table.Mark.TheVariants.{Empty, Kept, Waiting, Dropped}
use Rattle.tables.specs.Tables.{label_at, empty_label}
use Rattle.tables.proofs.Cuts.{place_point}
use Rattle.labels.specs.Steps.{SweptIf}
use Rattle.buckets.specs.Buckets.{label_in, Swept, swept_label}

module _ {G : Type 0} (initial : G) (p : Plan) (b m : ℕ) (hb : b < p.buckets) (before labels labels' : List (Label G)) (within : m * p.buckets + b < length labels)
    (s : Swept initial p b m before labels) where
  abbrev here : Label G
  here = label_in initial p labels m b

  untouched : here ≡ label_in initial p before m b
  untouched = s.others (m * p.buckets + b) (λ v l e. let z = place_point m v b p.buckets hb e in absurd (omega arith))

  step : label_in initial p labels' m b ≡ swept_label initial here here.mark → ((q : ℕ) → (q ≡ m * p.buckets + b → ⊥) → label_at initial labels' q ≡ label_at initial labels q) → Swept initial p b (m + 1) before labels'
  step is there = record {
    swept = λ v l. elim (cases_eq v m) [
      | inl e ↦ rw e (is ∙ ap (λ (l : Label G). swept_label initial l l.mark) untouched)
      | inr ne ↦ there (v * p.buckets + b) (λ e. ne (place_point v m b p.buckets hb e)) ∙ s.swept v (omega arith)
    ];
    others = λ q no_one. there q (λ e. no_one m (omega arith) e) ∙ s.others q (λ v l. no_one v (omega arith));
  }

  pub swept_more : (mark : Mark) → here.mark ≡ mark → SweptIf initial labels (m * p.buckets + b) mark labels' → Swept initial p b (m + 1) before labels'
  swept_more Empty e is = step (ap (λ x. label_in initial p x m b) is ∙ sym (ap (swept_label initial here) e)) (λ q ne. ap (λ x. label_at initial x q) is)
  swept_more Kept e is = step (ap (λ x. label_in initial p x m b) is ∙ sym (ap (swept_label initial here) e)) (λ q ne. ap (λ x. label_at initial x q) is)
  swept_more Waiting e is = step (ap (λ x. label_in initial p x m b) is ∙ sym (ap (swept_label initial here) e)) (λ q ne. ap (λ x. label_at initial x q) is)
  swept_more Dropped e is =
      step
      (ap (λ x. label_in initial p x m b) is ∙ get_or-set_same labels (m * p.buckets + b) (empty_label initial) (empty_label initial) within ∙ sym (ap (swept_label initial here) e))
      (λ q ne. ap (λ x. label_at initial x q) is ∙ get_or-set_other labels (m * p.buckets + b) q (empty_label initial) (empty_label initial) ne)
