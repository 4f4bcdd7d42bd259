use Rattle.std.proofs.Common.{◌<◌, length, ◌∙◌, arith}
use Rattle.std.proofs.lemmas.List.{length-take}
use Rattle.search.proofs.Trailing.{trail_more}
use Rattle.search.proofs.read.Traces.fill_trail.Goals as goal

pub loop-entry-preserved : goal.loop-entry-preserved
loop-entry-preserved g c =
    let self = c.args.self.now in
    let l = c.loop-entry in
    let room : l.entry-index < length l.trail = omega (arith, l.auto.trail) in
    let within : l.entry-index < c.args.count = omega (arith, length-take c.args.count c.args.list.now, c.loop-entry-test.true) in
    let e = trail_more g.G.Grade.initial self.links.now self.buckets self.labels.now l.at l.within c.args.count l.entry-index l.trail within room in
    rw (c.end_before-at.ensures, c.label_at-label.ensures) (l.invariant ∙ e)
