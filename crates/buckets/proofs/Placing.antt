-- A label put at its place.
use Rattle.std.proofs.Common.{◌≡◌, ℕ, ◌+◌, ◌*◌, ◌/◌, ◌<◌, ◌≤◌, ◌⊎◌, List, length, set, sym, ap, ◌∙◌, inl, inr, arith}
use Rattle.std.proofs.lemmas.Nat.{div-mul-add}
use Rattle.std.proofs.lemmas.List.{get_or-set_same, get_or-set_other}
use Rattle.std.proofs.lemmas.Bool.{cases_eq}
use Rattle.tables.specs.declared.plan.Plan.{Plan}
use Rattle.tables.specs.declared.table.Label.{Label}
use Rattle.tables.specs.Tables.{label_at, empty_label}
use Rattle.tables.proofs.Cuts.{place_below, bucket_below}
use Rattle.buckets.specs.Buckets.{label_in}

-- places of two points or two buckets are apart
pub place_apart : (a v b i k : ℕ) → b < k → i < k → a * k + b ≡ v * k + i → (a ≡ v) × (b ≡ i)
place_apart a v b i k hb hi e =
    let q : a ≡ v = sym (div-mul-add a k b hb) ∙ ap (λ x. x / k) e ∙ div-mul-add v k i hi in
    (q, omega (arith, e, ap (λ x. x * k) q))

-- the bucket of a delay up to the ceiling is one of the plan's
pub bucket_in : (p : Plan) (d : ℕ) → d ≤ p.ceiling → d / p.width < p.buckets
bucket_in p d le = rw p.cut (bucket_below d p.ceiling p.width p.wide le)

module _ {G : Type 0} (initial : G) (p : Plan) (labels : List (Label G)) (v b : ℕ) (new : Label G) (hv : v < p.points) (hb : b < p.buckets) (room : p.points * p.buckets ≤ length labels) where
  pub put_here : label_in initial p (set labels (v * p.buckets + b) new) v b ≡ new
  put_here = get_or-set_same labels (v * p.buckets + b) new (empty_label initial) (omega (arith, place_below v p.points b p.buckets hv hb))

  -- at each place stands the new label or what stood there
  pub put_cases : (a c : ℕ) → c < p.buckets
      → ((a ≡ v) × (c ≡ b) × (label_in initial p (set labels (v * p.buckets + b) new) a c ≡ new))
      ⊎ (((a ≡ v) × (c ≡ b) → ⊥) × (label_in initial p (set labels (v * p.buckets + b) new) a c ≡ label_in initial p labels a c))
  put_cases a c hc = elim (cases_eq (a * p.buckets + c) (v * p.buckets + b)) [
    | inl e ↦ let h = place_apart a v c b p.buckets hc hb e in inl (h.0, h.1, ap (λ q. label_at initial (set labels (v * p.buckets + b) new) q) e ∙ put_here)
    | inr ne ↦ inr ((λ h. ne (ap (λ x. x * p.buckets + c) h.0 ∙ ap (λ y. v * p.buckets + y) h.1)), get_or-set_other labels (v * p.buckets + b) (a * p.buckets + c) new (empty_label initial) ne)
  ]
