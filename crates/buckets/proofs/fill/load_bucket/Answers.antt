use Rattle.std.proofs.Common.{refl, ◌∙◌, arith}
use Rattle.buckets.proofs.Loading.{loaded_more}
use Rattle.buckets.proofs.fill.load_bucket.Goals as goal

pub loop-point-preserved : goal.loop-point-preserved
loop-point-preserved g c =
    let a = c.args in
    let q = g.Q.Queue.model in
    let inv = c.loop-point.invariant in
    let o = c.offer_point in
    let t = loaded_more g.G.Order.as_good g.G.Grade.initial a.plan a.bucket a.labels.now c.loop-point.point
    (q c.loop-point.queue).slots (q o.new.queue).slots (omega (arith, inv.slots)) inv.loaded _ _ refl refl o.ensures in
    record { loaded = t.0; slots = t.1 ∙ inv.slots }
