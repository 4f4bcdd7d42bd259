use Rattle.std.proofs.Common.{◌≡◌, length}
use Rattle.buckets.specs.Buckets.{Expanding, SameOpen}
use Rattle.buckets.specs.Results.{Frame}
use Rattle.buckets.proofs.fill.expand.Given as goal

abbrev pub invariant-loop-number : goal.invariant-loop-number
invariant-loop-number g l =
    let q = g.Q.Queue.model in
    let i = g.G.Grade.initial in
    record {
      expanding : Expanding i l.bucket.task l.bucket.number l.point l.label l.outcomes l.labels (q l.queue).slots;
      same : SameOpen i l.bucket.task.plan l.bucket.number l.initial.labels l.labels;
      slots : length (q l.queue).slots ≡ length (q l.initial.queue).slots;
      frame : Frame i l.bucket.task.plan l.outcomes l.initial.labels l.outcomes l.labels;
    }
