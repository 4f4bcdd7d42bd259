-- How many points are reached, and the first offer.
use Rattle.std.proofs.Common.{◌≡◌, ℕ, ◌+◌, ◌<◌, ◌≤◌, Bool, true, false, ◌⊎◌, List, length, set, Some, Option, ap, ◌∙◌, inl, inr, arith}
use Rattle.std.proofs.lemmas.List.{get_or-set_same, get_or-set_other}
use Rattle.std.proofs.lemmas.Bool.{both_ways, cases_eq}
use Rattle.grades.specs.declared.key.Key.{Key}
use Rattle.grades.specs.Keys.{start_key}
use Rattle.queues.specs.Slots.{at}
use Rattle.tables.specs.declared.table.Outcome.{Outcome}
use Rattle.tables.specs.Tables.{reached_at, unreached_outcome}
use Rattle.delays.specs.Delays.{SameReached, Fresh, DelayOffered, tentative}
use Rattle.tables.specs.Tallies.{tally}
use Rattle.delays.proofs.Steps.{idle_yields}
use Rattle.tables.proofs.Tallying.{tally_more, tally_same, tally_none}

-- one point more is reached
pub reach_tally : (os os' : List Outcome) (n v : ℕ) (o : Outcome) → v < n → n ≤ length os → reached_at os v ≡ false → o.reached ≡ true
    → SameReached (set os v o) os' → tally (reached_at os') n ≡ tally (reached_at os) n + 1
reach_tally os os' n v o lt le un yes' same =
    let lv : v < length os = omega arith in
    tally_same (reached_at os') (reached_at (set os v o)) n (λ w _. same w)
    ∙ tally_more (reached_at os) (reached_at (set os v o)) n v lt un
    (ap (λ (x : Outcome). x.reached) (get_or-set_same os v o unreached_outcome lv) ∙ yes')
    (λ w ne. ap (λ (x : Outcome). x.reached) (get_or-set_other os v w o unreached_outcome ne))

module _ {G : Type 0} (good : G → G → Bool) (initial : G) (n source bound : ℕ) where
  -- an offer to a fresh table is taken up
  pub fresh_offer : (os os' : List Outcome) (slots slots' : List (Option (Key G))) → source < n
      → Fresh n os slots → DelayOffered good initial bound source 0 os slots os' slots'
      → (os' ≡ set os source (tentative 0)) × (slots' ≡ set slots source (Some (start_key initial 0)))
  fresh_offer os os' slots slots' lt fresh (inr t) = (t.3, t.4)
  fresh_offer os os' slots slots' lt fresh (inl (inl over, same, alike)) = absurd (omega arith)
  fresh_offer os os' slots slots' lt fresh (inl (inr (inl yes'), same, alike)) =
      absurd (both_ways _ (ap (λ (o : Outcome). o.reached) (fresh.0 source lt)) yes')
  fresh_offer os os' slots slots' lt fresh (inl (inr (inr no'), same, alike)) =
      absurd (both_ways _ no' (idle_yields good (at slots source) (start_key initial 0) (fresh.1 source)))

  pub fresh_tally : (os os' : List Outcome) (slots slots' : List (Option (Key G))) → source < n → n ≤ length os
      → Fresh n os slots → DelayOffered good initial bound source 0 os slots os' slots'
      → tally (reached_at os') n ≡ 0
  fresh_tally os os' slots slots' lt room fresh offered =
      let e = fresh_offer os os' slots slots' lt fresh offered in
      rw e.0 (tally_none _ n (λ v l. none v l (cases_eq v source)))
    where
      none : (v : ℕ) → v < n → (v ≡ source) ⊎ (v ≡ source → ⊥) → reached_at (set os source (tentative 0)) v ≡ false
      none v l (inl e) = rw e (ap (λ (o : Outcome). o.reached) (get_or-set_same os source (tentative 0) unreached_outcome (omega arith)))
      none v l (inr ne) = ap (λ (o : Outcome). o.reached) (get_or-set_other os source v (tentative 0) unreached_outcome ne ∙ fresh.0 v l)
