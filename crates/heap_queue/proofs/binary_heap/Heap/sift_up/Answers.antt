use Rattle.std.proofs.Common.{sym, arith}
use Rattle.heap_queue.proofs.Indexing.{exchanged}
use Rattle.heap_queue.proofs.Heaping.{risen}
use Rattle.heap_queue.proofs.binary_heap.Heap.sift_up.Goals as goal

pub loop-i-preserved : goal.loop-i-preserved
loop-i-preserved g c =
    let l = c.loop-i.invariant in
    let e = c.exchange.ensures in (
      omega arith,
      exchanged _ _ _ _ _ l.0 (omega arith) e l.1,
      risen g.G.Order.as_good g.met.G.Order.total g.met.G.Order.transitive _ _ _ _ (omega arith) l.0 (sym c.if-not-leads.ensures) e l.2,
    )
