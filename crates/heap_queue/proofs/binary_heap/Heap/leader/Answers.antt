use Rattle.std.proofs.Common.{arith}
use Rattle.heap_queue.proofs.Heaping.{leads_irrefl, leads_asym, leads_trans}
use Rattle.heap_queue.proofs.binary_heap.Heap.leader.Goals as goal

pub loop-j-preserved : goal.loop-j-preserved
loop-j-preserved g c =
    let good = g.G.Order.as_good in
    let t = g.met.G.Order.total in
    let r = g.met.G.Order.transitive in
    grind (arith, leads_irrefl good t r, leads_asym good t r, leads_trans good t r)
