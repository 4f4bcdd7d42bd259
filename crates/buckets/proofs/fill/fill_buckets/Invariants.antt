use Rattle.std.proofs.Common.{◌≡◌, length}
use Rattle.buckets.specs.Buckets.{Ready}
use Rattle.buckets.specs.Results.{Frame}
use Rattle.buckets.proofs.fill.fill_buckets.Given as goal

abbrev pub invariant-loop-number : goal.invariant-loop-number
invariant-loop-number g l =
    let q = g.Q.Queue.model in
    let i = g.G.Grade.initial in
    record {
      ready : Ready i l.task l.number l.outcomes l.labels (q l.queue).slots;
      slots : length (q l.queue).slots ≡ length (q l.initial.queue).slots;
      frame : Frame i l.task.plan l.initial.outcomes l.initial.labels l.outcomes l.labels;
    }
