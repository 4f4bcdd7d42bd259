use Rattle.std.proofs.Common.{◌∙◌, arith}
use Rattle.tables.proofs.Tallying.{tally_le}
use Rattle.buckets.specs.Buckets.{closed_in}
use Rattle.buckets.proofs.Loading.{take_next}
use Rattle.buckets.proofs.Framing.{frame_then}
use Rattle.buckets.proofs.fill.drain_bucket.Goals as goal

pub settle_and_expand-requires-clause-taking : goal.settle_and_expand-requires-clause-taking
settle_and_expand-requires-clause-taking g c =
    let b = c.args.bucket in
    let l = c.loop-point in
    let q = g.Q.Queue.model in
    (take_next g.G.Grade.initial b.task b.number l.outcomes l.labels (q l.queue).slots (q c.take.new.self).slots c.in-Some.point l.invariant.filling c.in-Some.ensures.takes.0).0

pub loop-point-smaller : goal.loop-point-smaller
loop-point-smaller g c =
    let b = c.args.bucket in
    let l = tally_le (closed_in g.G.Grade.initial b.task.plan b.number c.settle_and_expand.new.labels) b.task.plan.points in
    omega (arith, c.settle_and_expand.ensures.tally)

pub loop-point-preserved : goal.loop-point-preserved
loop-point-preserved g c =
    let a = c.args in
    let b = a.bucket in
    let l = c.loop-point in
    let q = g.Q.Queue.model in
    let t = take_next g.G.Grade.initial b.task b.number l.outcomes l.labels (q l.queue).slots (q c.take.new.self).slots c.in-Some.point l.invariant.filling c.in-Some.ensures.takes.0 in
    let e = c.settle_and_expand.ensures in
    record {
      filling = e.filling;
      slots = e.slots ∙ t.1 ∙ l.invariant.slots;
      frame = frame_then g.G.Grade.initial b.task.plan a.outcomes.now l.outcomes c.settle_and_expand.new.outcomes a.labels.now l.labels c.settle_and_expand.new.labels l.invariant.frame e.frame;
    }
