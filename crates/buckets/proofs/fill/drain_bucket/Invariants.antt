use Rattle.std.proofs.Common.{◌≡◌, ◌-◌, length}
use Rattle.tables.specs.Tallies.{tally}
use Rattle.buckets.specs.Buckets.{Filling, closed_in}
use Rattle.buckets.specs.Results.{Frame}
use Rattle.buckets.proofs.fill.drain_bucket.Given as goal

abbrev pub invariant-loop-point : goal.invariant-loop-point
invariant-loop-point g l =
    let q = g.Q.Queue.model in
    record {
      filling : Filling g.G.Grade.initial l.bucket.task l.bucket.number l.outcomes l.labels (q l.queue).slots;
      slots : length (q l.queue).slots ≡ length (q l.initial.queue).slots;
      frame : Frame g.G.Grade.initial l.bucket.task.plan l.initial.outcomes l.initial.labels l.outcomes l.labels;
    }

abbrev pub decreases-loop-point : goal.decreases-loop-point
decreases-loop-point g l = let p = l.bucket.task.plan in p.points - tally (closed_in g.G.Grade.initial p l.bucket.number l.labels) p.points
