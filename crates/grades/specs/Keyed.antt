-- The order of keys is strict and transitive.
use Rattle.std.specs.Prelude.{◌≡◌, ℕ, Bool, true, false, not, refl}
use Rattle.std.proofs.Common.{sym, ap, ⊎_elim}
use native.Mathlib.Omega.{arith}
use Rattle.std.proofs.lemmas.Bool.Decides.{nat_tests}
use Rattle.std.proofs.lemmas.Bool.{cases_Bool, both_ways}
use Rattle.grades.specs.declared.key.Key.{Key}
use Rattle.grades.specs.Keys.{before, upto, sooner}

sooner_trans : (d n e m f o : ℕ) → sooner e m d n ≡ false → sooner f o e m ≡ false → sooner f o d n ≡ false
sooner_trans d n e m f o h i = grind (arith, nat_tests)

module _ {G : Type 0} (good : G → G → Bool) (total : (a b : G) → good a b ≡ false → good b a ≡ true) (trans : (a b c : G) → good a b ≡ true → good b c ≡ true → good a c ≡ true) where
  -- no key comes before itself
  pub before_irrefl : (k : Key G) → before good k k ≡ false
  before_irrefl k = grind (arith, nat_tests)

  pub before_asym : (k l : Key G) → before good k l ≡ true → before good l k ≡ false
  before_asym k l h = grind (arith, nat_tests)

  -- k comes no later than l: its grade is as good, and on equally good grades l is not the sooner
  Parts : Key G → Key G → Type 0
  Parts k l = (good k.grade l.grade ≡ true) × (good l.grade k.grade ≡ true → sooner l.delay l.count k.delay k.count ≡ false)

  parts : (k l : Key G) → before good l k ≡ false → Parts k l
  unfolding Parts
  parts k l h = (grind (arith, total l.grade k.grade), grind (arith, total l.grade k.grade))

  from_parts : (k l : Key G) → Parts k l → before good l k ≡ false
  unfolding Parts
  from_parts k l h = grind arith

  pub upto_trans : (k l m : Key G) → before good l k ≡ false → before good m l ≡ false → before good m k ≡ false
  unfolding Parts
  upto_trans k l m h i =
      let p = parts k l h in
      let q = parts l m i in
      from_parts k m
      (trans _ _ _ p.0 q.0, λ e. sooner_trans k.delay k.count l.delay l.count m.delay m.count (p.1 (trans _ _ _ q.0 e)) (q.1 (trans _ _ _ e p.0)))

  -- before one that comes no later than m is before m
  pub before_upto : (k l m : Key G) → before good k l ≡ true → before good m l ≡ false → before good k m ≡ true
  before_upto k l m h i =
      ⊎_elim (λ t. t) (λ f. absurd (both_ways (before good k l) (upto_trans l m k i f) h)) (cases_Bool (before good k m))

  pub upto_before : (k l m : Key G) → before good l k ≡ false → before good l m ≡ true → before good k m ≡ true
  upto_before k l m h i =
      ⊎_elim (λ t. t) (λ f. absurd (both_ways (before good l m) (upto_trans m k l f h) i)) (cases_Bool (before good k m))

  not_true : (b : Bool) → not b ≡ true → b ≡ false
  not_true true e = sym e
  not_true false e = refl

  pub upto_through : (k l m : Key G) → upto good k l ≡ true → upto good l m ≡ true → upto good k m ≡ true
  upto_through k l m h i =
      ap not (upto_trans k l m (not_true (before good l k) h) (not_true (before good m l) i))
