-- What an accepted search leaves.
use Rattle.std.specs.Prelude.{◌≡◌, ℕ, ◌*◌, ◌<◌, ◌≤◌, true, false, List}
use Rattle.buckets.specs.Results.{KeptOrBlank, Chained, GivenKept}
use Rattle.delays.specs.Delays.{Walk}
use Rattle.queues.specs.Slots.{Model, NoneWaits}
use Rattle.tables.specs.declared.table.Label.{Label}
use Rattle.tables.specs.declared.table.Link.{Link}
use Rattle.tables.specs.declared.table.Outcome.{Outcome}
use Rattle.tables.specs.Tables.{label_at, outcome_at, reached_at, delay_at}
use Rattle.tables.specs.Tallies.{tally}

-- a search from the source over n points and so many buckets leaves these tables and this queue
pub record Searched {G : Type 0} (initial : G) (links : List Link) (n source bound buckets : ℕ) (before : List (Label G)) (outcomes_before : List Outcome)
    (reached taken : ℕ) (labels : List (Label G)) (outcomes : List Outcome) (queue : Model G) : Type 0 where
  -- a point is reached exactly if a route over open links stays within the bound, and its delay is the least of those routes
  pub reached_by : (v : ℕ) → v < n → reached_at outcomes v ≡ true → Walk links source v (delay_at outcomes v) × (delay_at outcomes v ≤ bound)
  pub least : (v d : ℕ) → v < n → Walk links source v d → d ≤ bound → (reached_at outcomes v ≡ true) × (delay_at outcomes v ≤ d)
  pub unreached : (v : ℕ) → v < n → reached_at outcomes v ≡ false → delay_at outcomes v ≡ 0
  pub points_reached : reached ≡ tally (reached_at outcomes) n
  -- a wanted place holds a kept label or is blank, and each kept label extends a kept label by its last link
  pub settled : KeptOrBlank initial n buckets labels
  pub chained : Chained initial links n buckets labels
  pub given : GivenKept initial n buckets outcomes labels
  -- places beyond those wanted are as they were
  pub labels_beyond : (q : ℕ) → n * buckets ≤ q → label_at initial labels q ≡ label_at initial before q
  pub outcomes_beyond : (v : ℕ) → n ≤ v → outcome_at outcomes v ≡ outcome_at outcomes_before v
  -- the number taken is the queue's, and no slot waits
  pub number_taken : taken ≡ queue.taken
  pub idle : NoneWaits queue.slots
