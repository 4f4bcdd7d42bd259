-- A link leads back.
use Rattle.std.proofs.Common.{◌≡◌, ℕ, true, false, cond, ◌⊎◌, Some, None, Option, sym, ap, ◌∙◌, inl, inr, arith}
use Rattle.std.proofs.lemmas.Bool.{cases_Bool, cases_eq, eq-eqb, ne_eqb}
use Rattle.tables.specs.declared.table.Link.{Link}
use Rattle.tables.specs.Tables.{open_end, other_end}

none_some : (v : ℕ) → ◌≡◌ {A = Option ℕ} None (Some v) → ⊥
none_some v e = let z : ◌≡◌ {A = ℕ} 0 1 = cc in omega arith

some_same : (a b : ℕ) → Some a ≡ Some b → a ≡ b
some_same a b e = cc

-- a link that leads from u to v leads from v to u, if its ends are apart
pub end_back : (l : Link) (u v : ℕ) → (l.from ≡ l.to → ⊥) → open_end l u ≡ Some v → other_end l v ≡ Some u
end_back l u v apart e = go (cases_Bool l.open) (cases_eq l.from u) (cases_eq l.to u)
  where
    go : (l.open ≡ true) ⊎ (l.open ≡ false) → (l.from ≡ u) ⊎ (l.from ≡ u → ⊥) → (l.to ≡ u) ⊎ (l.to ≡ u → ⊥) → other_end l v ≡ Some u
    go (inr o) f t = absurd (none_some v (sym (ap (λ x. cond x (other_end l u) None) o) ∙ e))
    go (inl o) (inl f) t =
        let z : Some l.to ≡ Some v = rw (o, eq-eqb l.from u f) at e in
        let h = some_same l.to v z in
        rw (ne_eqb l.from v (λ q. apart (q ∙ sym h)), eq-eqb l.to v h) (ap Some f)
    go (inl o) (inr f) (inl t) =
        let z : Some l.from ≡ Some v = rw (o, ne_eqb l.from u f, eq-eqb l.to u t) at e in
        rw (eq-eqb l.from v (some_same l.from v z)) (ap Some t)
    go (inl o) (inr f) (inr t) =
        let z : ◌≡◌ {A = Option ℕ} None (Some v) = rw (o, ne_eqb l.from u f, ne_eqb l.to u t) at e in
        absurd (none_some v z)
