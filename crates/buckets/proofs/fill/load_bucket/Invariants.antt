use Rattle.std.proofs.Common.{◌≡◌, length}
use Rattle.buckets.specs.Buckets.{Loaded}
use Rattle.buckets.proofs.fill.load_bucket.Given as goal

abbrev pub invariant-loop-point : goal.invariant-loop-point
invariant-loop-point g l =
    let q = g.Q.Queue.model in
    record {
      loaded : Loaded g.G.Grade.initial l.plan l.bucket l.point l.labels (q l.queue).slots;
      slots : length (q l.queue).slots ≡ length (q l.initial.queue).slots;
    }
