use Rattle.heap_queue.specs.Heaps.{Leading}
use Rattle.heap_queue.proofs.binary_heap.Heap.leader.Given as goal

abbrev pub invariant-loop-j : goal.invariant-loop-j
invariant-loop-j g l = Leading g.G.Order.as_good l.slots l.self l.i l.j l.first
