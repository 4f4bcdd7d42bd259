use Rattle.buckets.proofs.Filled.{fill_ready}
use Rattle.buckets.proofs.Framing.{frame_then, frame_swept}
use Rattle.buckets.proofs.fill.fill_bucket.Goals as goal

pub returns-clause-done : goal.returns-clause-done
returns-clause-done g c =
    let b = c.args.bucket in
    let d = c.drain_bucket in
    let s = c.sweep_bucket in
    fill_ready g.G.Grade.initial b.task b.number b.within d.new.outcomes d.new.labels s.new.labels (g.Q.Queue.model d.new.queue).slots d.ensures.filling d.ensures.idle s.ensures

pub returns-clause-frame : goal.returns-clause-frame
returns-clause-frame g c =
    let a = c.args in
    let b = a.bucket in
    let i = g.G.Grade.initial in
    let d = c.drain_bucket in
    let s = c.sweep_bucket in
    frame_then i b.task.plan a.outcomes.now d.new.outcomes d.new.outcomes a.labels.now d.new.labels s.new.labels d.ensures.frame
    (frame_swept i b.task.plan b.number b.within d.new.outcomes d.new.labels s.new.labels s.ensures)
