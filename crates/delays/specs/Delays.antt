-- Least delays: what they are, and what holds while they are found.
use Rattle.std.specs.Prelude.{◌≡◌, ℕ, ◌+◌, ◌<◌, ◌≤◌, Bool, true, false, ◌⊎◌, List, length, Some, None, Option, slice_set}
use Rattle.grades.specs.declared.key.Key.{Key}
use Rattle.grades.specs.Keys.{start_key}
use Rattle.queues.specs.Slots.{at, waits, yields, NoneWaits}
use Rattle.tables.specs.declared.table.Link.{Link}
use Rattle.tables.specs.declared.table.Outcome.{Outcome}
use Rattle.tables.specs.Tables.{outcome_at, reached_at, delay_at, unreached_outcome, link_at, open_end}

-- the outcome of a point that waits with a delay
abbrev pub tentative : ℕ → Outcome
tentative d = record { delay = d; given = 0; reached = false }

-- why an offer of a point at a delay is passed over: it is too far, reached, or waits with no larger delay
abbrev pub PassedOver : {G : Type 0} → (G → G → Bool) → G → ℕ → ℕ → ℕ → List Outcome → List (Option (Key G)) → Type 0
PassedOver good initial bound to total os slots =
    (bound < total) ⊎ ((reached_at os to ≡ true) ⊎ (yields good (at slots to) (start_key initial total) ≡ false))

-- an offer of a point at a delay: passed over, or taken up in both tables
abbrev pub DelayOffered : {G : Type 0} → (G → G → Bool) → G → ℕ → ℕ → ℕ → List Outcome → List (Option (Key G)) → List Outcome → List (Option (Key G)) → Type 0
DelayOffered good initial bound to total os slots os' slots' =
    (PassedOver good initial bound to total os slots × (os' ≡ os) × (slots' ≡ slots))
    ⊎ ((total ≤ bound) × (reached_at os to ≡ false) × (yields good (at slots to) (start_key initial total) ≡ true)
    × (os' ≡ slice_set os to (tentative total)) × (slots' ≡ slice_set slots to (Some (start_key initial total))))

-- a link with this open end is tried, by which a walk comes there at a delay
abbrev pub LinkTried : {G : Type 0} → (G → G → Bool) → G → ℕ → Option ℕ → ℕ → List Outcome → List (Option (Key G)) → List Outcome → List (Option (Key G)) → Type 0
LinkTried good initial bound None total os slots os' slots' = (os' ≡ os) × (slots' ≡ slots)
LinkTried good initial bound (Some to) total os slots os' slots' = DelayOffered good initial bound to total os slots os' slots'

-- a walk from the source over open links, by its end and its delay
pub data Walk (links : List Link) (source : ℕ) : ℕ → ℕ → Type 0 where
  here : Walk links source source 0
  along : (u d k v : ℕ) → Walk links source u d → k < length links → open_end (link_at links k) u ≡ Some v → Walk links source v (d + (link_at links k).delay)

-- a delay of the point is known: it is reached, or waits
abbrev pub Known : {G : Type 0} → List Outcome → List (Option (Key G)) → ℕ → Type 0
Known os slots v = (reached_at os v ≡ true) ⊎ (waits (at slots v) ≡ true)

-- where the search stands once the links of u below i have been tried, u being the point taken last
pub record Front {G : Type 0} (initial : G) (links : List Link) (n source bound u i : ℕ) (os : List Outcome) (slots : List (Option (Key G))) : Type 0 where
  pub pending : (s : ℕ) → waits (at slots s) ≡ true → (s < n) × (reached_at os s ≡ false)
  pub keyed : (s : ℕ) (w : Key G) → at slots s ≡ Some w → w ≡ start_key initial (delay_at os s)
  pub known : (v : ℕ) → v < n → Known os slots v → Walk links source v (delay_at os v) × (delay_at os v ≤ bound)
  pub top : (v : ℕ) → v < n → reached_at os v ≡ true → delay_at os v ≤ delay_at os u
  pub floor : (s : ℕ) → waits (at slots s) ≡ true → delay_at os u ≤ delay_at os s
  pub relaxed : (v k w : ℕ) → v < n → reached_at os v ≡ true → (v ≡ u → k < i) → k < length links → open_end (link_at links k) v ≡ Some w
      → delay_at os v + (link_at links k).delay ≤ bound → Known os slots w × (delay_at os w ≤ delay_at os v + (link_at links k).delay)
  pub origin : Known os slots source × (delay_at os source ≡ 0)
  pub blank : (v : ℕ) → v < n → reached_at os v ≡ false → waits (at slots v) ≡ false → outcome_at os v ≡ unreached_outcome
  pub given : (v : ℕ) → v < n → (outcome_at os v).given ≡ 0

-- the same points are reached
abbrev pub SameReached : List Outcome → List Outcome → Type 0
SameReached os os' = (v : ℕ) → reached_at os' v ≡ reached_at os v

-- before anything is offered
abbrev pub Fresh : {G : Type 0} → ℕ → List Outcome → List (Option (Key G)) → Type 0
Fresh n os slots = ((v : ℕ) → v < n → outcome_at os v ≡ unreached_outcome) × NoneWaits slots

-- a point is reached exactly if a walk within the bound leads to it, and its delay is the least of such a walk's
abbrev pub Least : List Link → ℕ → ℕ → ℕ → List Outcome → Type 0
Least links n source bound os =
    (v : ℕ) → v < n
    → (reached_at os v ≡ true → Walk links source v (delay_at os v) × (delay_at os v ≤ bound))
    × ((d : ℕ) → Walk links source v d → d ≤ bound → (reached_at os v ≡ true) × (delay_at os v ≤ d))
    × (reached_at os v ≡ false → outcome_at os v ≡ unreached_outcome)
    × ((outcome_at os v).given ≡ 0)

-- the outcomes from n on are as they were
abbrev pub Beyond : ℕ → List Outcome → List Outcome → Type 0
Beyond n os os' = (v : ℕ) → n ≤ v → outcome_at os' v ≡ outcome_at os v
