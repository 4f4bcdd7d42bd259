use Rattle.std.proofs.Common.{◌-◌, ◌≤◌}
use Rattle.heap_queue.specs.Heaps.{Indexed, Sinking}
use Rattle.heap_queue.proofs.binary_heap.Heap.sift_down.Given as goal

abbrev pub invariant-loop-i : goal.invariant-loop-i
invariant-loop-i g l = (l.i ≤ l.self.count) × Indexed l.slots l.self × Sinking g.G.Order.as_good l.slots l.self l.i

abbrev pub decreases-loop-i : goal.decreases-loop-i
decreases-loop-i g l = l.self.count - l.i
