use Rattle.std.proofs.Common.{sym}
use Rattle.heap_queue.proofs.Heaping.{pushed_rising, rekeyed_rising}
use Rattle.heap_queue.proofs.Indexing.{room, pushed, rekeyed}
use Rattle.heap_queue.proofs.binary_heap.Heap.offer.Goals as goal
use Rattle.heap_queue.proofs.binary_heap.Heap.offer.Goals.{then-not-waited, else-not-waited}

pub append-requires-clause-room : goal.append-requires-clause-room
append-requires-clause-room g c =
    room _ _ c.args.slot c.args.key.now c.in-Changed.ensures.0 (sym c.if-not-waited.ensures) c.requires.indexed

pub sift_up-requires-clause-indexed : goal.sift_up-requires-clause-indexed
sift_up-requires-clause-indexed g c =
    let good = g.G.Order.as_good in
    let e = c.in-Changed.ensures in
    let ix = c.requires.indexed in
    elim c.if-not-waited.branch [
      | then-not-waited w ↦ let a = w.append.ensures in rw w.self-is (pushed _ good _ _ _ _ _ e (sym w.if-not-waited.ensures) a.count a.order a.place ix)
      | else-not-waited w ↦ rw w.self-is (rekeyed _ good _ _ _ _ e (sym w.if-not-waited.ensures) ix)
    ]

pub sift_up-requires-clause-rising : goal.sift_up-requires-clause-rising
sift_up-requires-clause-rising g c =
    let good = g.G.Order.as_good in
    let t = g.met.G.Order.total in
    let r = g.met.G.Order.transitive in
    let e = c.in-Changed.ensures in
    let ix = c.requires.indexed in
    elim c.if-not-waited.branch [
      | then-not-waited w ↦ let a = w.append.ensures in rw w.self-is (pushed_rising good t r _ _ _ _ _ _ e (sym w.if-not-waited.ensures) a.count a.order a.place ix c.requires.ordered)
      | else-not-waited w ↦ rw w.self-is (rekeyed_rising good t r _ _ _ _ _ e (sym w.if-not-waited.ensures) ix c.requires.ordered)
    ]
