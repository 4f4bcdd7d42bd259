use Rattle.std.proofs.Common.{refl, arith}
use Rattle.heap_queue.proofs.Heaping.{top_first, dropped_sinking}
use Rattle.heap_queue.proofs.Indexing.{exchanged, dropped}
use Rattle.heap_queue.proofs.binary_heap.Heap.take.Goals as goal

pub sift_down-requires-clause-indexed : goal.sift_down-requires-clause-indexed
sift_down-requires-clause-indexed g c =
    let e = c.exchange.ensures in
    dropped _ _ _ _ (omega arith) e.right refl refl (exchanged _ _ _ _ _ (omega arith) (omega arith) e c.requires.indexed)

pub sift_down-requires-clause-sinking : goal.sift_down-requires-clause-sinking
sift_down-requires-clause-sinking g c =
    dropped_sinking g.G.Order.as_good g.met.G.Order.total g.met.G.Order.transitive _ _ _ _ _ (omega arith) refl c.exchange.ensures refl c.requires.indexed c.requires.ordered

pub returns-clause-chosen : goal.returns-clause-chosen
returns-clause-chosen g c =
    top_first g.G.Order.as_good g.met.G.Order.total g.met.G.Order.transitive _ _ c.in_ok-last.ensures.0 c.requires.indexed c.requires.ordered
