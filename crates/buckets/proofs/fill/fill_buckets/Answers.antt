use Rattle.std.proofs.Common.{◌≡◌, ℕ, ◌+◌, ◌*◌, ◌<◌, refl, ◌∙◌, subst, arith}
use Rattle.tables.proofs.Cuts.{place_below}
use Rattle.buckets.specs.Buckets.{Ready}
use Rattle.buckets.specs.Results.{Frame}
use Rattle.buckets.proofs.Filled.{begin_ready}
use Rattle.buckets.proofs.Soundness.{kept_empty, sound_end}
use Rattle.buckets.proofs.Framing.{frame_same, frame_then, frame_put}
use Rattle.buckets.proofs.fill.fill_buckets.Goals as goal

pub loop-number-init : goal.loop-number-init
loop-number-init g c =
    let a = c.args in
    let t = a.task in
    let i = g.G.Grade.initial in
    record {
      ready = rw c.put_source.ensures
          (begin_ready i t a.outcomes.now a.labels.now c.requires.labels_room c.requires.blank c.requires.none_given (g.Q.Queue.model a.queue.now).slots c.requires.none_waits c.requires.slots_room);
      slots = refl;
      frame = frame_same i t.plan a.outcomes.now _;
    }

pub loop-number-preserved : goal.loop-number-preserved
loop-number-preserved g c =
    let a = c.args in
    let l = c.loop-number in
    let e = c.fill_bucket.ensures in
    record {
      ready = e.done;
      slots = e.slots ∙ l.invariant.slots;
      frame = frame_then g.G.Grade.initial a.task.plan a.outcomes.now l.outcomes c.fill_bucket.new.outcomes _ l.labels c.fill_bucket.new.labels l.invariant.frame e.frame;
    }

-- all buckets are done
ended : (g : _) (c : goal.After-loop-number g) → Ready g.G.Grade.initial c.args.task c.args.task.plan.buckets c.loop-number.outcomes c.loop-number.labels (g.Q.Queue.model c.loop-number.queue).slots
ended g c =
    let l = c.loop-number in
    let e : l.number ≡ c.args.task.plan.buckets = omega arith in
    subst (λ (x : ℕ). Ready g.G.Grade.initial c.args.task x l.outcomes l.labels (g.Q.Queue.model l.queue).slots) e l.invariant.ready

pub returns-clause-frame : goal.returns-clause-frame
returns-clause-frame g c =
    let a = c.args in
    let p = a.task.plan in
    let i = g.G.Grade.initial in
    let l = c.loop-number in
    let begun : Frame i p a.outcomes.now a.labels.now a.outcomes.now c.put_source.new.labels =
    rw c.put_source.ensures (frame_put i p a.outcomes.now a.labels.now (p.source * p.buckets + 0) _ (place_below p.source p.points 0 p.buckets p.started (omega (arith, p.cut)))) in
    frame_then i p a.outcomes.now a.outcomes.now l.outcomes a.labels.now c.put_source.new.labels l.labels begun l.invariant.frame

pub returns-clause-settled : goal.returns-clause-settled
returns-clause-settled g c =
    let t = c.args.task in
    let some : 0 < t.plan.buckets = omega (arith, t.plan.cut) in
    sound_end g.G.Grade.initial t c.loop-number.labels some (ended g c).books.sound

pub returns-clause-chained : goal.returns-clause-chained
returns-clause-chained g c v b hv hb k = ((ended g c).books.sound v b hv hb).extends (kept_empty _ k)
