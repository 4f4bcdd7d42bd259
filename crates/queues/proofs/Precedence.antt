-- Which slot is taken before which: a strict order, total on waiting slots.
use Rattle.std.proofs.Common.{◌≡◌, ℕ, ◌+◌, ◌<◌, ◌≤◌, Bool, true, false, not, ◌&&◌, ◌||◌, ltb, List, length, Some, None, Option, sym, refl, arith}
use Rattle.std.proofs.lemmas.List.{get_or_past}
use Rattle.std.proofs.lemmas.Bool.Decides.{nat_tests}
use Rattle.std.proofs.lemmas.Bool.{true≢false}
use Rattle.grades.specs.declared.key.Key.{Key}
use Rattle.grades.specs.Keys.{before}
use Rattle.grades.specs.Keyed.{before_irrefl, before_asym, upto_trans, before_upto, upto_before}
use Rattle.std.specs.Bool.{then_some}
use Rattle.std.specs.Option.{MatchOption}
use Rattle.queues.specs.Slots.{ahead, waits, at, First, NoneWaits}

module _ {G : Type 0} (good : G → G → Bool) (total : (a b : G) → good a b ≡ false → good b a ≡ true) (trans : (a b c : G) → good a b ≡ true → good b c ≡ true → good a c ≡ true) where
  keys_trans : (i j k : ℕ) (a b c : Key G) → ahead good j (Some b) i (Some a) ≡ false → ahead good k (Some c) j (Some b) ≡ false → ahead good k (Some c) i (Some a) ≡ false
  keys_trans i j k a b c h l =
      let p = upto_trans good total trans a b c in
      let q = before_upto good total trans a b c in
      let r = upto_before good total trans a b c in
      tests i j k (before good b a) (before good a b) (before good c b) (before good b c) (before good c a) (before good a c) p q r h l
    where
      tests : (i j k : ℕ) (ba ab cb bc ca ac : Bool) → (ba ≡ false → cb ≡ false → ca ≡ false) → (ab ≡ true → cb ≡ false → ac ≡ true) → (ba ≡ false → bc ≡ true → ac ≡ true) → (ba || (not ab && ltb j i)) ≡ false → (cb || (not bc && ltb k j)) ≡ false → (ca || (not ac && ltb k i)) ≡ false
      tests i j k ba ab cb bc ca ac p q r h l = grind (arith, nat_tests)

  -- what is not ahead of y, which is not ahead of x, is not ahead of x
  pub ahead_trans : (i j k : ℕ) (x y z : Option (Key G)) → ahead good j y i x ≡ false → ahead good k z j y ≡ false → ahead good k z i x ≡ false
  ahead_trans i j k x y None h l = refl
  ahead_trans i j k x None (Some c) h l = absurd (true≢false l)
  ahead_trans i j k None (Some b) (Some c) h l = absurd (true≢false h)
  ahead_trans i j k (Some a) (Some b) (Some c) h l = keys_trans i j k a b c h l

  pub ahead_irrefl : (i : ℕ) (x : Option (Key G)) → ahead good i x i x ≡ false
  ahead_irrefl i x = grind (arith, nat_tests, before_irrefl good total trans)

  pub ahead_asym : (i j : ℕ) (x y : Option (Key G)) → ahead good i x j y ≡ true → ahead good j y i x ≡ false
  ahead_asym i j x y h = grind (arith, nat_tests, before_asym good total trans)

  -- nothing below i is ahead of f
  abbrev pub Leads : List (Option (Key G)) → ℕ → ℕ → Type 0
  Leads xs i f = (j : ℕ) → j < i → ahead good j (at xs j) f (at xs f) ≡ false

  pub leads_new : (xs : List (Option (Key G))) (i f : ℕ) → ahead good i (at xs i) f (at xs f) ≡ true → Leads xs i f → Leads xs (i + 1) i
  leads_new xs i f a inv =
      λ j h. grind (arith, ahead_trans, ahead_asym, ahead_irrefl)

  leads_all : (xs : List (Option (Key G))) (i f : ℕ) → length xs ≤ i → Leads xs i f → (j : ℕ) → ahead good j (at xs j) f (at xs f) ≡ false
  leads_all xs i f past inv j = grind (arith, get_or_past)

  -- what no slot is ahead of is the first, if it waits
  pub first_found : (xs : List (Option (Key G))) (i f : ℕ) (b : Bool) → length xs ≤ i → Leads xs i f → b ≡ waits (at xs f) → MatchOption (then_some b f) (NoneWaits xs) (λ s. First good xs s)
  first_found xs i f false past inv e = λ j. let h = leads_all xs i f past inv j in grind arith
  first_found xs i f true past inv e = record { within = grind (arith, get_or_past); wait = sym e; none_ahead = leads_all xs i f past inv }
