use Rattle.std.proofs.Common.{◌≡◌, ℕ, ◌<◌, false}
use Rattle.queues.specs.Slots.{at, ahead}
use Rattle.queues.proofs.scan.first_waiting.Given as goal

abbrev pub invariant-loop-i : goal.invariant-loop-i
invariant-loop-i g l = (j : ℕ) → j < l.i → ahead g.G.Order.as_good j (at l.slots j) l.first (at l.slots l.first) ≡ false
