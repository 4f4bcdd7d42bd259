use Rattle.std.proofs.Common.{◌≡◌, ◌*◌, ◌≤◌, length, Some, ◌∙◌, rules}
use Rattle.tables.specs.Tables.{link_at, open_end}
use Rattle.buckets.proofs.Filled.{tried_fill}
use Rattle.buckets.proofs.Framing.{frame_then}
use Rattle.buckets.proofs.fill.expand.Goals as goal
use Rattle.buckets.proofs.fill.expand.Goals.{in-Some, in_default}

pub loop-number-preserved : goal.loop-number-preserved
loop-number-preserved g c =
    let a = c.args in
    let b = a.bucket in
    let p = b.task.plan in
    let i = g.G.Grade.initial in
    let q = g.Q.Queue.model in
    let os = a.outcomes.now in
    let l = c.loop-number in
    let inv = l.invariant in
    let room : p.points * p.buckets ≤ length l.labels = search rules in
    elim c.match-open_end.branch [
      | in-Some w ↦
          let goes : open_end (link_at b.task.links.now l.number) a.point ≡ Some w.in-Some.to = search rules in
          let t = tried_fill g.G.Order.as_good i g.G.Grade.after b.task b.number a.point l.number w.in-Some.to b.within c.requires.point_within c.loop-number-test.true goes
          c.label_at-label.result os l.labels room (q l.queue).slots inv.expanding w.try_link.new.labels (q w.try_link.new.queue).slots w.try_link.ensures.tried in
          rw (w.labels-is, w.queue-is) (record {
            expanding = t.0;
            same = λ x. t.1 x ∙ inv.same x;
            slots = t.2 ∙ inv.slots;
            frame = frame_then i p os os os a.labels.now l.labels w.try_link.new.labels inv.frame t.3;
          })
      | in_default w ↦ rw (w.labels-is, w.queue-is) inv
    ]
