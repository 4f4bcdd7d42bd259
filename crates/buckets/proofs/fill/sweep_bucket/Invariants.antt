use Rattle.buckets.specs.Buckets.{Swept}
use Rattle.buckets.proofs.fill.sweep_bucket.Given as goal

abbrev pub invariant-loop-point : goal.invariant-loop-point
invariant-loop-point g l = Swept g.G.Grade.initial l.bucket.task.plan l.bucket.number l.point l.initial.labels l.labels
