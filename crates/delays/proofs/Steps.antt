-- The steps by which the front moves.
use Rattle.std.proofs.Common.{◌≡◌, ℕ, ◌+◌, ◌<◌, ◌≤◌, Bool, true, false, ◌||◌, ltb, ◌⊎◌, List, length, set, Some, None, Option, sym, refl, ap, ◌∙◌, subst, inl, inr, arith}
use Rattle.std.proofs.lemmas.List.{get_or-set_same, get_or-set_other, length-set}
use Rattle.std.proofs.lemmas.Bool.{both_ways, cases_eq, cases_Bool, ltb-true, ltb-false}
use Rattle.std.proofs.lemmas.Bool.Decides.{nat_tests}
use Rattle.grades.specs.declared.key.Key.{Key}
use Rattle.grades.specs.Keys.{before, start_key}
use Rattle.queues.specs.Slots.{at, waits, yields, ahead, First, NoneWaits, SlotTake}
use Rattle.tables.specs.declared.table.Link.{Link}
use Rattle.tables.specs.declared.table.Outcome.{Outcome}
use Rattle.tables.specs.Tables.{outcome_at, reached_at, delay_at, unreached_outcome, link_at, open_end, Joined}
use Rattle.delays.specs.Delays.{SameReached, Fresh, Front, PassedOver, DelayOffered, LinkTried, tentative, Known, Least, Beyond, Walk, Walk.here, Walk.along}
use Rattle.tables.proofs.Joins.{joined_end}

-- of two keys at one grade, the smaller delay comes first
before_delay : {G : Type 0} (good : G → G → Bool) (initial : G) → good initial initial ≡ true → (t d : ℕ)
    → before good (start_key initial t) (start_key initial d) ≡ ltb t d
before_delay good initial same t d = grind (arith, nat_tests)

or_left : (a b : Bool) → (a || b) ≡ false → a ≡ false
or_left true b e = e
or_left false b e = refl

-- an idle slot takes up every offer
pub idle_yields : {G : Type 0} (good : G → G → Bool) (o : Option (Key G)) (k : Key G) → waits o ≡ false → yields good o k ≡ true
idle_yields good None k e = refl
idle_yields good (Some l) k e = absurd (both_ways true e refl)

some_waits : {G : Type 0} (o : Option (Key G)) → waits o ≡ true → (w : Key G) × (o ≡ Some w)
some_waits None e = absurd (both_ways _ refl e)
some_waits (Some w) e = (w, refl)

-- An offer that is taken up: total, over link i from u to the point to.
module _ {G : Type 0} (good : G → G → Bool) (initial : G) (same : good initial initial ≡ true) (links : List Link) (n source bound u i to : ℕ)
    (os : List Outcome) (slots : List (Option (Key G)))
    (room : n ≤ length os) (seats : n ≤ length slots) (lu : u < n) (lt : to < n) (li : i < length links)
    (ru : reached_at os u ≡ true) (goes : open_end (link_at links i) u ≡ Some to)
    (f : Front initial links n source bound u i os slots) where
  abbrev total : ℕ
  total = delay_at os u + (link_at links i).delay

  -- a point that waits has the delay that the offer is compared with
  yields_known : waits (at slots to) ≡ true → (b : Bool) → yields good (at slots to) (start_key initial total) ≡ b → ltb total (delay_at os to) ≡ b
  yields_known w b e =
      let k = some_waits (at slots to) w in
      sym (before_delay good initial same total (delay_at os to))
      ∙ ap (before good (start_key initial total)) (sym (f.keyed to k.0 k.1))
      ∙ sym (ap (λ o. yields good o (start_key initial total)) k.1) ∙ e

  -- one link more of u is settled, and nothing changes
  front_skip : PassedOver good initial bound to total os slots
      → Front initial links n source bound u (i + 1) os slots
  front_skip why =
      record {
        pending = f.pending;
        keyed = f.keyed;
        known = f.known;
        top = f.top;
        floor = f.floor;
        relaxed = λ v k w lv rv early lk e le. tried v k w lv rv early lk e le (cases_eq v u) (cases_eq k i);
        origin = f.origin;
        blank = f.blank;
        given = f.given;
      }
    where
      met : PassedOver good initial bound to total os slots → (b : Bool) → waits (at slots to) ≡ b
          → total ≤ bound → Known os slots to × (delay_at os to ≤ total)
      met (inl over) b wb le = absurd (omega arith)
      met (inr (inl r)) b wb le = (inl r, omega (arith, f.top to lt r))
      met (inr (inr no')) true wb le = (inr wb, ltb-false total (delay_at os to) (yields_known wb false no'))
      met (inr (inr no')) false wb le = absurd (both_ways _ no' (idle_yields good (at slots to) (start_key initial total) wb))

      tried : (v k w : ℕ) → v < n → reached_at os v ≡ true → (v ≡ u → k < i + 1) → k < length links → open_end (link_at links k) v ≡ Some w
          → delay_at os v + (link_at links k).delay ≤ bound → (v ≡ u) ⊎ (v ≡ u → ⊥) → (k ≡ i) ⊎ (k ≡ i → ⊥)
          → Known os slots w × (delay_at os w ≤ delay_at os v + (link_at links k).delay)
      tried v k w lv rv early lk e le (inr nv) _ = f.relaxed v k w lv rv (λ ev. absurd (nv ev)) lk e le
      tried v k w lv rv early lk e le (inl ev) (inr nk) = f.relaxed v k w lv rv (λ e'. let b = early e' in omega arith) lk e le
      tried v k w lv rv early lk e le (inl ev) (inl ek) =
          let goes' : open_end (link_at links i) u ≡ Some w = rw (← ev, ← ek) e in
          let ew : to ≡ w = cc in
          let le' : total ≤ bound = rw (← ev, ← ek) le in
          let m = met why (waits (at slots to)) refl le' in
          rw (ev, ek, ← ew) m

  module _ (within : total ≤ bound) (fresh : reached_at os to ≡ false) (better : yields good (at slots to) (start_key initial total) ≡ true) where
    abbrev os' : List Outcome
    os' = set os to (tentative total)

    abbrev slots' : List (Option (Key G))
    slots' = set slots to (Some (start_key initial total))

    o_here : outcome_at os' to ≡ tentative total
    o_here = get_or-set_same os to (tentative total) unreached_outcome (omega arith)

    o_there : (v : ℕ) → (v ≡ to → ⊥) → outcome_at os' v ≡ outcome_at os v
    o_there v ne = get_or-set_other os to v (tentative total) unreached_outcome ne

    s_here : at slots' to ≡ Some (start_key initial total)
    s_here = get_or-set_same slots to (Some (start_key initial total)) None (omega arith)

    s_there : (v : ℕ) → (v ≡ to → ⊥) → at slots' v ≡ at slots v
    s_there v ne = get_or-set_other slots to v (Some (start_key initial total)) None ne

    d_there : (v : ℕ) → (v ≡ to → ⊥) → delay_at os' v ≡ delay_at os v
    d_there v ne = ap (λ (o : Outcome). o.delay) (o_there v ne)

    d_here : delay_at os' to ≡ total
    d_here = ap (λ (o : Outcome). o.delay) o_here

    reached_other : (v : ℕ) → reached_at os' v ≡ true → v ≡ to → ⊥
    reached_other v r e = both_ways _ (ap (λ (o : Outcome). o.reached) o_here) (rw e at r)

    reached_old : (v : ℕ) → reached_at os' v ≡ true → reached_at os v ≡ true
    reached_old v r = ap (λ (o : Outcome). o.reached) (sym (o_there v (reached_other v r))) ∙ r

    u_other : u ≡ to → ⊥
    u_other e = both_ways _ fresh (rw e at ru)

    du : delay_at os' u ≡ delay_at os u
    du = d_there u u_other

    known_new : (v : ℕ) → (v ≡ to) ⊎ (v ≡ to → ⊥) → Known os slots v → Known os' slots' v
    known_new v (inl e) k = inr (rw e (ap waits s_here))
    known_new v (inr ne) (inl r) = inl (ap (λ (o : Outcome). o.reached) (o_there v ne) ∙ r)
    known_new v (inr ne) (inr w) = inr (ap waits (s_there v ne) ∙ w)

    known_old : (v : ℕ) → (v ≡ to → ⊥) → Known os' slots' v → Known os slots v
    known_old v ne (inl r) = inl (reached_old v r)
    known_old v ne (inr w) = inr (ap waits (sym (s_there v ne)) ∙ w)

    -- a delay that was known falls
    falls : Known os slots to → total < delay_at os to
    falls (inl r) = absurd (both_ways _ fresh r)
    falls (inr w) = ltb-true total (delay_at os to) (yields_known w true better)

    waits_case : (s : ℕ) → (s ≡ to) ⊎ (s ≡ to → ⊥) → waits (at slots' s) ≡ true → (s < n) × (reached_at os' s ≡ false) × (delay_at os u ≤ delay_at os' s)
    waits_case s (inl e) w = rw e (lt, ap (λ (o : Outcome). o.reached) o_here, (let z = d_here in omega arith))
    waits_case s (inr ne) w =
        let w' : waits (at slots s) ≡ true = ap waits (sym (s_there s ne)) ∙ w in
        let p = f.pending s w' in
        (p.0, ap (λ (o : Outcome). o.reached) (o_there s ne) ∙ p.1, (let z = d_there s ne in let y = f.floor s w' in omega arith))

    key_case : (s : ℕ) (w : Key G) → (s ≡ to) ⊎ (s ≡ to → ⊥) → at slots' s ≡ Some w → w ≡ start_key initial (delay_at os' s)
    key_case s w (inl e) g = let g' : at slots' to ≡ Some w = rw e at g in let h : w ≡ start_key initial total = (let s' = s_here in cc) in h ∙ ap (start_key initial) (sym (rw e d_here))
    key_case s w (inr ne) g = f.keyed s w (sym (s_there s ne) ∙ g) ∙ ap (start_key initial) (sym (d_there s ne))

    walk_case : (v : ℕ) → v < n → (v ≡ to) ⊎ (v ≡ to → ⊥) → Known os' slots' v → Walk links source v (delay_at os' v) × (delay_at os' v ≤ bound)
    walk_case v lv (inl e) k =
        rw (e, d_here) (along u (delay_at os u) i to (f.known u lu (inl ru)).0 li goes, within)
    walk_case v lv (inr ne) k = rw (d_there v ne) (f.known v lv (known_old v ne k))

    -- what an earlier link had settled
    older : (v k w : ℕ) → v < n → reached_at os' v ≡ true → (v ≡ u → k < i) → k < length links → open_end (link_at links k) v ≡ Some w
        → delay_at os' v + (link_at links k).delay ≤ bound → (w ≡ to) ⊎ (w ≡ to → ⊥) → Known os' slots' w × (delay_at os' w ≤ delay_at os' v + (link_at links k).delay)
    older v k w lv rv early lk e le (inl ew) =
        let dv = d_there v (reached_other v rv) in
        let h = f.relaxed v k w lv (reached_old v rv) early lk e (omega arith) in
        let k' : Known os slots to = rw ew at h.0 in
        let l : delay_at os to ≤ delay_at os v + (link_at links k).delay = rw ew at h.1 in
        (inr (rw ew (ap waits s_here)), rw ew (let z = d_here in let y = falls k' in omega arith))
    older v k w lv rv early lk e le (inr nw) =
        let dv = d_there v (reached_other v rv) in
        let dw = d_there w nw in
        let h = f.relaxed v k w lv (reached_old v rv) early lk e (omega arith) in
        (known_new w (inr nw) h.0, (let l = h.1 in omega arith))

    relaxed_case : (v k w : ℕ) → v < n → reached_at os' v ≡ true → (v ≡ u → k < i + 1) → k < length links → open_end (link_at links k) v ≡ Some w
        → delay_at os' v + (link_at links k).delay ≤ bound → (v ≡ u) ⊎ (v ≡ u → ⊥) → (k ≡ i) ⊎ (k ≡ i → ⊥) → (w ≡ to) ⊎ (w ≡ to → ⊥)
        → Known os' slots' w × (delay_at os' w ≤ delay_at os' v + (link_at links k).delay)
    relaxed_case v k w lv rv early lk e le (inl ev) (inl ek) (inl ew) =
        (inr (rw ew (ap waits s_here)), rw (ew, ev, ek) (let z = d_here in let y = du in omega arith))
    relaxed_case v k w lv rv early lk e le (inl ev) (inl ek) (inr nw) =
        let e' : open_end (link_at links i) u ≡ Some w = rw (← ev, ← ek) e in
        absurd (nw (let z : w ≡ to = cc in z))
    relaxed_case v k w lv rv early lk e le (inl ev) (inr nk) cw =
        older v k w lv rv (λ e'. let b = early e' in omega arith) lk e le cw
    relaxed_case v k w lv rv early lk e le (inr nv) ck cw = older v k w lv rv (λ ev. absurd (nv ev)) lk e le cw

    source_other : source ≡ to → ⊥
    source_other e =
        let k : Known os slots to = rw (← e) f.origin.0 in
        let d : delay_at os to ≡ 0 = rw (← e) f.origin.1 in
        let y = falls k in omega arith

    blank_case : (v : ℕ) → v < n → (v ≡ to) ⊎ (v ≡ to → ⊥) → reached_at os' v ≡ false → waits (at slots' v) ≡ false → outcome_at os' v ≡ unreached_outcome
    blank_case v lv (inl e) r w = absurd (both_ways _ (rw e at w) (ap waits s_here))
    blank_case v lv (inr ne) r w =
        o_there v ne ∙ f.blank v lv (ap (λ (o : Outcome). o.reached) (sym (o_there v ne)) ∙ r) (ap waits (sym (s_there v ne)) ∙ w)

    given_case : (v : ℕ) → v < n → (v ≡ to) ⊎ (v ≡ to → ⊥) → (outcome_at os' v).given ≡ 0
    given_case v lv (inl e) = rw e (ap (λ (o : Outcome). o.given) o_here)
    given_case v lv (inr ne) = ap (λ (o : Outcome). o.given) (o_there v ne) ∙ f.given v lv

    -- the offer is taken up
    front_offer : Front initial links n source bound u (i + 1) os' slots'
    front_offer = record {
      pending = λ s w. let h = waits_case s (cases_eq s to) w in (h.0, h.1);
      keyed = λ s w g. key_case s w (cases_eq s to) g;
      known = λ v lv k. walk_case v lv (cases_eq v to) k;
      top = λ v lv r. let a = d_there v (reached_other v r) in let b = f.top v lv (reached_old v r) in let c = du in omega arith;
      floor = λ s w. let h = (waits_case s (cases_eq s to) w).2 in let c = du in omega arith;
      relaxed = λ v k w lv rv early lk e le. relaxed_case v k w lv rv early lk e le (cases_eq v u) (cases_eq k i) (cases_eq w to);
      origin = (known_new source (inr source_other) f.origin.0, d_there source source_other ∙ f.origin.1);
      blank = λ v lv r w. blank_case v lv (cases_eq v to) r w;
      given = λ v lv. given_case v lv (cases_eq v to);
    }

  -- one link more of u is tried
  front_more : (os₁ : List Outcome) (slots₁ : List (Option (Key G))) → DelayOffered good initial bound to total os slots os₁ slots₁
      → Front initial links n source bound u (i + 1) os₁ slots₁
  front_more os₁ slots₁ (inl (why, eo, es)) = rw (eo, es) (front_skip why)
  front_more os₁ slots₁ (inr (within, fresh, better, eo, es)) = rw (eo, es) (front_offer within fresh better)

-- a link that is no open link of u
module _ {G : Type 0} (initial : G) (links : List Link) (n source bound u i : ℕ) (os : List Outcome) (slots : List (Option (Key G))) where
  front_none : open_end (link_at links i) u ≡ None → Front initial links n source bound u i os slots → Front initial links n source bound u (i + 1) os slots
  front_none none f =
      record {
        pending = f.pending;
        keyed = f.keyed;
        known = f.known;
        top = f.top;
        floor = f.floor;
        relaxed = λ v k w lv rv early lk e le. tried v k w lv rv early lk e le (cases_eq v u) (cases_eq k i);
        origin = f.origin;
        blank = f.blank;
        given = f.given;
      }
    where
      tried : (v k w : ℕ) → v < n → reached_at os v ≡ true → (v ≡ u → k < i + 1) → k < length links → open_end (link_at links k) v ≡ Some w
          → delay_at os v + (link_at links k).delay ≤ bound → (v ≡ u) ⊎ (v ≡ u → ⊥) → (k ≡ i) ⊎ (k ≡ i → ⊥)
          → Known os slots w × (delay_at os w ≤ delay_at os v + (link_at links k).delay)
      tried v k w lv rv early lk e le (inr nv) _ = f.relaxed v k w lv rv (λ ev. absurd (nv ev)) lk e le
      tried v k w lv rv early lk e le (inl ev) (inr nk) = f.relaxed v k w lv rv (λ e'. let b = early e' in omega arith) lk e le
      tried v k w lv rv early lk e le (inl ev) (inl ek) =
          let e' : open_end (link_at links i) u ≡ Some w = rw (← ev, ← ek) e in
          let z : ◌≡◌ {A = ℕ} 0 1 = cc in absurd (omega arith)

-- the outcome of a point once it is reached
abbrev pub marked : Outcome → Outcome
marked o = record { delay = o.delay; given = o.given; reached = true }

-- The point v is taken, and reached at its delay.
module _ {G : Type 0} (good : G → G → Bool) (initial : G) (same : good initial initial ≡ true) (links : List Link) (n source bound u v : ℕ)
    (os : List Outcome) (slots slots' : List (Option (Key G)))
    (room : n ≤ length os)
    (f : Front initial links n source bound u (length links) os slots) (t : SlotTake slots slots' (Some v)) (c : First good slots v) where
  abbrev os₂ : List Outcome
  os₂ = set os v (marked (outcome_at os v))

  waited : waits (at slots v) ≡ true
  waited = t.1

  lv : v < n
  lv = (f.pending v waited).0

  q_here : outcome_at os₂ v ≡ marked (outcome_at os v)
  q_here = get_or-set_same os v (marked (outcome_at os v)) unreached_outcome (let l = lv in omega arith)

  q_there : (x : ℕ) → (x ≡ v → ⊥) → outcome_at os₂ x ≡ outcome_at os x
  q_there x ne = get_or-set_other os v x (marked (outcome_at os v)) unreached_outcome ne

  slot_there : (x : ℕ) → (x ≡ v → ⊥) → at slots' x ≡ at slots x
  slot_there x ne = ap (λ (l : List (Option (Key G))). at l x) t.2 ∙ get_or-set_other slots v x None None ne

  slot_here : at slots' v ≡ None
  slot_here = ap (λ (l : List (Option (Key G))). at l v) t.2 ∙ get_or-set_same slots v None None t.0

  dx : (x : ℕ) → (x ≡ v) ⊎ (x ≡ v → ⊥) → delay_at os₂ x ≡ delay_at os x
  dx x (inl e) = rw e (ap (λ (p : Outcome). p.delay) q_here)
  dx x (inr ne) = ap (λ (p : Outcome). p.delay) (q_there x ne)

  delays : (x : ℕ) → delay_at os₂ x ≡ delay_at os x
  delays x = dx x (cases_eq x v)

  still : (s : ℕ) → waits (at slots' s) ≡ true → s ≡ v → ⊥
  still s w e = both_ways _ (ap waits slot_here) (rw e at w)

  still_waits : (s : ℕ) → waits (at slots' s) ≡ true → waits (at slots s) ≡ true
  still_waits s w = ap waits (sym (slot_there s (still s w))) ∙ w

  waits_with : (s : ℕ) → waits (at slots s) ≡ true → at slots s ≡ Some (start_key initial (delay_at os s))
  waits_with s w = let k = some_waits (at slots s) w in k.1 ∙ ap Some (f.keyed s k.0 k.1)

  -- no waiting point has a smaller delay
  least : (s : ℕ) → waits (at slots s) ≡ true → delay_at os v ≤ delay_at os s
  least s w =
      let none : ahead good s (Some (start_key initial (delay_at os s))) v (Some (start_key initial (delay_at os v))) ≡ false =
      subst (λ x. ahead good s x v (Some (start_key initial (delay_at os v))) ≡ false) (waits_with s w)
      (subst (λ y. ahead good s (at slots s) v y ≡ false) (waits_with v waited) (c.none_ahead s)) in
      ltb-false (delay_at os s) (delay_at os v) (sym (before_delay good initial same (delay_at os s) (delay_at os v)) ∙ or_left _ _ none)

  was_reached : (x : ℕ) → (x ≡ v → ⊥) → reached_at os₂ x ≡ true → reached_at os x ≡ true
  was_reached x ne h = ap (λ (p : Outcome). p.reached) (sym (q_there x ne)) ∙ h

  reached_case : (x : ℕ) → x < n → (x ≡ v) ⊎ (x ≡ v → ⊥) → reached_at os₂ x ≡ true → delay_at os x ≤ delay_at os v
  reached_case x lx (inl e) h = rw e (omega arith)
  reached_case x lx (inr ne) h =
      let a = f.top x lx (was_reached x ne h) in
      let b = f.floor v waited in omega arith

  known_then : (x : ℕ) → (x ≡ v) ⊎ (x ≡ v → ⊥) → Known os slots x → Known os₂ slots' x
  known_then x (inl e) k = inl (rw e (ap (λ (p : Outcome). p.reached) q_here))
  known_then x (inr ne) (inl h) = inl (ap (λ (p : Outcome). p.reached) (q_there x ne) ∙ h)
  known_then x (inr ne) (inr w) = inr (ap waits (slot_there x ne) ∙ w)

  known_early : (x : ℕ) → (x ≡ v) ⊎ (x ≡ v → ⊥) → Known os₂ slots' x → Known os slots x
  known_early x (inl e) k = inr (rw e waited)
  known_early x (inr ne) (inl h) = inl (was_reached x ne h)
  known_early x (inr ne) (inr w) = inr (still_waits x w)

  pending_case : (s : ℕ) → waits (at slots' s) ≡ true → (s < n) × (reached_at os₂ s ≡ false)
  pending_case s w =
      let p = f.pending s (still_waits s w) in
      (p.0, ap (λ (x : Outcome). x.reached) (q_there s (still s w)) ∙ p.1)

  keyed_case : (s : ℕ) (w : Key G) → (s ≡ v) ⊎ (s ≡ v → ⊥) → at slots' s ≡ Some w → w ≡ start_key initial (delay_at os₂ s)
  keyed_case s w (inl e) g =
      let g' : at slots' v ≡ Some w = rw e at g in
      let h = slot_here in
      let z : ◌≡◌ {A = ℕ} 0 1 = cc in absurd (omega arith)
  keyed_case s w (inr ne) g = f.keyed s w (sym (slot_there s ne) ∙ g) ∙ ap (start_key initial) (sym (delays s))

  relaxed_then : (x k w : ℕ) → x < n → reached_at os₂ x ≡ true → (x ≡ v → k < 0) → k < length links → open_end (link_at links k) x ≡ Some w
      → delay_at os₂ x + (link_at links k).delay ≤ bound → (x ≡ v) ⊎ (x ≡ v → ⊥) → Known os₂ slots' w × (delay_at os₂ w ≤ delay_at os₂ x + (link_at links k).delay)
  relaxed_then x k w lx rx early lk e le (inl ex) = let b = early ex in absurd (omega arith)
  relaxed_then x k w lx rx early lk e le (inr ne) =
      let a = delays x in
      let b = delays w in
      let h = f.relaxed x k w lx (was_reached x ne rx) (λ _. lk) lk e (omega arith) in
      let l = h.1 in
      (known_then w (cases_eq w v) h.0, omega arith)

  blank_then : (x : ℕ) → x < n → (x ≡ v) ⊎ (x ≡ v → ⊥) → reached_at os₂ x ≡ false → waits (at slots' x) ≡ false → outcome_at os₂ x ≡ unreached_outcome
  blank_then x lx (inl e) no' w = absurd (both_ways _ (rw e at no') (ap (λ (p : Outcome). p.reached) q_here))
  blank_then x lx (inr ne) no' w =
      q_there x ne ∙ f.blank x lx (ap (λ (p : Outcome). p.reached) (sym (q_there x ne)) ∙ no') (ap waits (sym (slot_there x ne)) ∙ w)

  given_then : (x : ℕ) → x < n → (x ≡ v) ⊎ (x ≡ v → ⊥) → (outcome_at os₂ x).given ≡ 0
  given_then x lx (inl e) = rw e (ap (λ (p : Outcome). p.given) q_here ∙ f.given v lv)
  given_then x lx (inr ne) = ap (λ (p : Outcome). p.given) (q_there x ne) ∙ f.given x lx

  pub front_take : (v < n) × Front initial links n source bound v 0 os₂ slots'
  front_take = (
    lv,
    record {
      pending = pending_case;
      keyed = λ s w g. keyed_case s w (cases_eq s v) g;
      known = λ x lx k. rw (delays x) (f.known x lx (known_early x (cases_eq x v) k));
      top = λ x lx h. let a = delays x in let b = delays v in let c = reached_case x lx (cases_eq x v) h in omega arith;
      floor = λ s w. let a = delays s in let b = delays v in let c = least s (still_waits s w) in omega arith;
      relaxed = λ x k w lx rx early lk e le. relaxed_then x k w lx rx early lk e le (cases_eq x v);
      origin = (known_then source (cases_eq source v) f.origin.0, delays source ∙ f.origin.1);
      blank = λ x lx no' w. blank_then x lx (cases_eq x v) no' w;
      given = λ x lx. given_then x lx (cases_eq x v);
    },
  )

-- Nothing is reached, and the source alone waits.
module _ {G : Type 0} (initial : G) (links : List Link) (n source bound : ℕ) (os : List Outcome) (slots : List (Option (Key G)))
    (room : n ≤ length os) (seats : n ≤ length slots) (ls : source < n) (fresh : Fresh n os slots) where
  abbrev os₀ : List Outcome
  os₀ = set os source (tentative 0)

  abbrev slots₀ : List (Option (Key G))
  slots₀ = set slots source (Some (start_key initial 0))

  p_here : outcome_at os₀ source ≡ tentative 0
  p_here = get_or-set_same os source (tentative 0) unreached_outcome (omega arith)

  p_there : (x : ℕ) → x < n → (x ≡ source → ⊥) → outcome_at os₀ x ≡ unreached_outcome
  p_there x lx ne = get_or-set_other os source x (tentative 0) unreached_outcome ne ∙ fresh.0 x lx

  k_here : at slots₀ source ≡ Some (start_key initial 0)
  k_here = get_or-set_same slots source (Some (start_key initial 0)) None (omega arith)

  alone : (s : ℕ) → (s ≡ source) ⊎ (s ≡ source → ⊥) → waits (at slots₀ s) ≡ true → s ≡ source
  alone s (inl e) w = e
  alone s (inr ne) w = absurd (both_ways _ (ap waits (get_or-set_other slots source s (Some (start_key initial 0)) None ne) ∙ fresh.1 s) w)

  unreached_all : (x : ℕ) → x < n → (x ≡ source) ⊎ (x ≡ source → ⊥) → reached_at os₀ x ≡ false
  unreached_all x lx (inl e) = rw e (ap (λ (p : Outcome). p.reached) p_here)
  unreached_all x lx (inr ne) = ap (λ (p : Outcome). p.reached) (p_there x lx ne)

  delay_zero : delay_at os₀ source ≡ 0
  delay_zero = ap (λ (p : Outcome). p.delay) p_here

  walk_start : (x : ℕ) → x < n → Known os₀ slots₀ x → Walk links source x (delay_at os₀ x) × (delay_at os₀ x ≤ bound)
  walk_start x lx (inl h) = absurd (both_ways _ (unreached_all x lx (cases_eq x source)) h)
  walk_start x lx (inr w) = rw (alone x (cases_eq x source) w, delay_zero) (here, omega arith)

  blank_start : (x : ℕ) → x < n → (x ≡ source) ⊎ (x ≡ source → ⊥) → waits (at slots₀ x) ≡ false → outcome_at os₀ x ≡ unreached_outcome
  blank_start x lx (inl e) w = absurd (both_ways _ (rw e at w) (ap waits k_here))
  blank_start x lx (inr ne) w = p_there x lx ne

  given_start : (x : ℕ) → x < n → (x ≡ source) ⊎ (x ≡ source → ⊥) → (outcome_at os₀ x).given ≡ 0
  given_start x lx (inl e) = rw e (ap (λ (p : Outcome). p.given) p_here)
  given_start x lx (inr ne) = ap (λ (p : Outcome). p.given) (p_there x lx ne)

  key_start : (s : ℕ) (w : Key G) → at slots₀ s ≡ Some w → w ≡ start_key initial (delay_at os₀ s)
  key_start s w g =
      let e = alone s (cases_eq s source) (ap waits g) in
      let g' : at slots₀ source ≡ Some w = rw e at g in
      let k = k_here in
      let h : w ≡ start_key initial 0 = cc in
      rw (e, delay_zero) h

  pub front_start : Front initial links n source bound source (length links) os₀ slots₀
  front_start = record {
    pending = λ s w. rw (alone s (cases_eq s source) w) (ls, unreached_all source ls (cases_eq source source));
    keyed = key_start;
    known = walk_start;
    top = λ x lx h. absurd (both_ways _ (unreached_all x lx (cases_eq x source)) h);
    floor = λ s w. rw (alone s (cases_eq s source) w) (omega arith);
    relaxed = λ x k w lx h early lk e le. absurd (both_ways _ (unreached_all x lx (cases_eq x source)) h);
    origin = (inr (ap waits k_here), delay_zero);
    blank = λ x lx no' w. blank_start x lx (cases_eq x source) w;
    given = λ x lx. given_start x lx (cases_eq x source);
  }

-- Nothing waits any more: what is reached is what a route within the bound leads to.
module _ {G : Type 0} (initial : G) (links : List Link) (n source bound u : ℕ) (os : List Outcome) (slots : List (Option (Key G)))
    (ls : source < n) (joined : Joined n links) (idle : NoneWaits slots)
    (f : Front initial links n source bound u (length links) os slots) where
  settled : (x : ℕ) → Known os slots x → reached_at os x ≡ true
  settled x (inl h) = h
  settled x (inr w) = absurd (both_ways _ (idle x) w)

  arrives : (x d : ℕ) → Walk links source x d → d ≤ bound → (x < n) × (reached_at os x ≡ true) × (delay_at os x ≤ d)
  arrives _ _ here le = (ls, settled source f.origin.0, (let e = f.origin.1 in omega arith))
  arrives _ _ (along x d k w walk lk e) le =
      let h = arrives x d walk (omega arith) in
      let l = h.2 in
      let m = f.relaxed x k w h.0 h.1 (λ _. lk) lk e (omega arith) in
      let l' = m.1 in
      (joined_end n links k x w joined lk e, settled w m.0, omega arith)

  pub front_least : Least links n source bound os
  front_least v lv = (
    (λ h. f.known v lv (inl h)),
    (λ d walk le. let h = arrives v d walk le in (h.1, h.2)),
    (λ no'. f.blank v lv no' (idle v)),
    f.given v lv,
  )

-- a grade is as good as itself
pub good_self : {G : Type 0} (good : G → G → Bool) → ((a b : G) → good a b ≡ false → good b a ≡ true) → (a : G) → good a a ≡ true
good_self good total a = go (cases_Bool (good a a))
  where
    go : (good a a ≡ true) ⊎ (good a a ≡ false) → good a a ≡ true
    go (inl e) = e
    go (inr e) = total a a e

-- what an offer leaves alone
module _ {G : Type 0} (good : G → G → Bool) (initial : G) (bound to total : ℕ) (os os₁ : List Outcome) (slots slots₁ : List (Option (Key G))) where
  pub offer_beyond : (n : ℕ) → to < n → DelayOffered good initial bound to total os slots os₁ slots₁ → Beyond n os os₁
  offer_beyond n lt (inl (why, eo, es)) v l = ap (λ x. outcome_at x v) eo
  offer_beyond n lt (inr (within, fresh, better, eo, es)) v l = ap (λ x. outcome_at x v) eo ∙ get_or-set_other os to v (tentative total) unreached_outcome (λ e. omega (arith, e, l, lt))

  pub offer_frame : to < length os → DelayOffered good initial bound to total os slots os₁ slots₁
      → SameReached os os₁ × (length slots₁ ≡ length slots) × ((u : ℕ) → reached_at os u ≡ true → delay_at os₁ u ≡ delay_at os u)
  offer_frame lt (inl (why, eo, es)) = rw (eo, es) ((λ v. refl), refl, (λ u h. refl))
  offer_frame lt (inr (within, fresh, better, eo, es)) =
      rw (eo, es) ((λ v. same_at v (cases_eq v to)), length-set slots to (Some (start_key initial total)), (λ u h. delay_at_lem u h (cases_eq u to)))
    where
      same_at : (v : ℕ) → (v ≡ to) ⊎ (v ≡ to → ⊥) → reached_at (set os to (tentative total)) v ≡ reached_at os v
      same_at v (inl e) = rw e (ap (λ (o : Outcome). o.reached) (get_or-set_same os to (tentative total) unreached_outcome lt) ∙ sym fresh)
      same_at v (inr ne) = ap (λ (o : Outcome). o.reached) (get_or-set_other os to v (tentative total) unreached_outcome ne)

      delay_at_lem : (u : ℕ) → reached_at os u ≡ true → (u ≡ to) ⊎ (u ≡ to → ⊥) → delay_at (set os to (tentative total)) u ≡ delay_at os u
      delay_at_lem u h (inl e) = absurd (both_ways _ fresh (rw e at h))
      delay_at_lem u h (inr ne) = ap (λ (o : Outcome). o.delay) (get_or-set_other os to u (tentative total) unreached_outcome ne)

-- One link more is tried from u, open or not.
module _ {G : Type 0} (good : G → G → Bool) (initial : G) (same : good initial initial ≡ true) (links : List Link) (n source bound u i : ℕ)
    (os os₁ : List Outcome) (slots slots₁ : List (Option (Key G)))
    (room : n ≤ length os) (seats : n ≤ length slots) (joined : Joined n links) (lu : u < n) (li : i < length links) (ru : reached_at os u ≡ true)
    (f : Front initial links n source bound u i os slots) where
  pub record Stepped : Type 0 where
    pub front : Front initial links n source bound u (i + 1) os₁ slots₁
    pub reached : SameReached os os₁
    pub seated : length slots₁ ≡ length slots
    pub delay : delay_at os₁ u ≡ delay_at os u
    pub rest : Beyond n os os₁

  pub stepped : (end : Option ℕ) → open_end (link_at links i) u ≡ end → LinkTried good initial bound end (delay_at os u + (link_at links i).delay) os slots os₁ slots₁ → Stepped
  stepped None none (eo, es) = record {
    front = rw (eo, es) (front_none initial links n source bound u i os slots none f);
    reached = rw eo (λ v. refl);
    seated = ap length es;
    delay = ap (λ x. delay_at x u) eo;
    rest = λ v l. ap (λ x. outcome_at x v) eo;
  }
  stepped (Some to) goes off =
      let lt = joined_end n links i u to joined li goes in
      let h = offer_frame good initial bound to (delay_at os u + (link_at links i).delay) os os₁ slots slots₁ (omega arith) off in
      record {
        front = front_more good initial same links n source bound u i to os slots room seats lu lt li ru goes f os₁ slots₁ off;
        reached = h.0;
        seated = h.1;
        delay = h.2 u ru;
        rest = offer_beyond good initial bound to (delay_at os u + (link_at links i).delay) os os₁ slots slots₁ n lt off;
      }
