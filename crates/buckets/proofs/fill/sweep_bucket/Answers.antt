use Rattle.std.proofs.Common.{◌≡◌, ℕ, ◌+◌, ◌*◌, ◌<◌, length, refl, subst, arith, rules}
use Rattle.tables.proofs.Cuts.{place_below}
use Rattle.labels.specs.Steps.{SweptIf}
use Rattle.buckets.specs.Buckets.{label_in, Swept}
use Rattle.buckets.proofs.Sweeping.{swept_more}
use Rattle.buckets.proofs.fill.sweep_bucket.Goals as goal

pub loop-point-preserved : goal.loop-point-preserved
loop-point-preserved g c =
    let b = c.args.bucket in
    let p = b.task.plan in
    let m = c.loop-point.point in
    let within : m * p.buckets + b.number < length c.loop-point.labels = omega (arith, place_below m p.points b.number p.buckets c.loop-point-test.true b.within) in
    let swept : SweptIf g.G.Grade.initial c.loop-point.labels (m * p.buckets + b.number) (label_in g.G.Grade.initial p c.loop-point.labels m b.number).mark c.sweep_label.new.labels = search rules in
    swept_more g.G.Grade.initial p b.number m b.within c.args.labels.now c.loop-point.labels c.sweep_label.new.labels within c.loop-point.invariant _ refl swept

pub returns : goal.returns
returns g c =
    let b = c.args.bucket in
    let e : c.loop-point.point ≡ b.task.plan.points = omega arith in
    subst (λ (x : ℕ). Swept g.G.Grade.initial b.task.plan b.number x c.args.labels.now c.loop-point.labels) e c.loop-point.invariant
