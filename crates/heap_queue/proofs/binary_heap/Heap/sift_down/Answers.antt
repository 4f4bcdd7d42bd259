use Rattle.std.proofs.Common.{arith}
use Rattle.heap_queue.proofs.Indexing.{exchanged}
use Rattle.heap_queue.proofs.binary_heap.Heap.sift_down.Goals as goal

pub loop-i-preserved : goal.loop-i-preserved
loop-i-preserved g c =
    let down = c.leader-first.ensures.below c.if-first-i.false in (
      omega arith,
      exchanged _ _ _ _ _ (omega arith) down.0 c.exchange.ensures c.loop-i.invariant.1,
      record {
        order = λ k z w ne. grind arith;
        over = λ k z w q p. grind arith;
      },
    )
