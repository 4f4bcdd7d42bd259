use Rattle.std.proofs.Common.{◌≡◌, ◌+◌, ◌≤◌, length, sym, refl, ◌∙◌, arith, rules}
use Rattle.std.proofs.lemmas.List.{get_or-set_other}
use Rattle.tables.specs.Tables.{outcome_at, reached_at, unreached_outcome}
use Rattle.tables.specs.Tallies.{tally}
use Rattle.tables.proofs.Tallying.{tally_le}
use Rattle.delays.specs.Delays.{Front}
use Rattle.delays.proofs.Reaches.{reach_tally, fresh_offer, fresh_tally}
use Rattle.delays.proofs.Steps.{marked, front_start, front_take, front_least, good_self}
use Rattle.delays.proofs.delay.least_delays.Goals as goal

pub loop-point-init : goal.loop-point-init
loop-point-init g c =
    let a = c.args in
    let t = a.task in
    let p = t.plan in
    let o = c.offer_delay in
    let q : _ → _ = λ x. (g.Q.Queue.model x).slots in
    let i = g.G.Grade.initial in
    let good = g.G.Order.as_good in
    let e = fresh_offer good i p.points p.source p.bound a.outcomes.now o.new.outcomes (q a.queue.now) (q o.new.queue) p.started c.requires.fresh o.ensures.offered in
    let f : Front i t.links.now p.points p.source p.bound p.source (length t.links.now) o.new.outcomes (q o.new.queue) =
    rw (e.0, e.1) (front_start i t.links.now p.points p.source p.bound a.outcomes.now (q a.queue.now) c.requires.outcomes_room c.requires.slots_room p.started c.requires.fresh) in
    record {
      front = (p.source, f);
      slots = refl;
      reached = sym (fresh_tally good i p.points p.source p.bound a.outcomes.now o.new.outcomes (q a.queue.now) (q o.new.queue) p.started c.requires.outcomes_room c.requires.fresh o.ensures.offered);
      number = o.ensures.number ∙ c.requires.none_taken;
      rest = λ v l. refl;
    }

pub overflow_add-reached : goal.overflow_add-reached
overflow_add-reached g c = let t = tally_le (reached_at c.loop-point.outcomes) c.args.task.plan.points in omega (arith, c.loop-point.invariant.reached)

pub relax-requires-clause-front : goal.relax-requires-clause-front
relax-requires-clause-front g c =
    let t = c.args.task in
    let p = t.plan in
    let q : _ → _ = λ x. (g.Q.Queue.model x).slots in
    let i = g.G.Grade.initial in
    let good = g.G.Order.as_good in
    let l = c.loop-point in
    let room : p.points ≤ length l.outcomes = search rules in
    (front_take good i (good_self good g.met.G.Order.total i) t.links.now p.points p.source p.bound l.invariant.front.0 c.in-Some.point l.outcomes (q l.queue) (q c.take.new.self) room l.invariant.front.1
    c.in-Some.ensures.takes.0 c.in-Some.ensures.chosen).1

-- the point taken is one more that is reached
taken_is : (g : _) (c : goal.After-outcomes-in-Some-2-1 g) → tally (reached_at c.relax.new.outcomes) c.args.task.plan.points ≡ tally (reached_at c.loop-point.outcomes) c.args.task.plan.points + 1
taken_is g c =
    let p = c.loop-point.invariant.front.1.pending c.in-Some.point c.in-Some.ensures.takes.0.1 in
    let os = c.loop-point.outcomes in
    let v = c.in-Some.point in
    reach_tally os c.relax.new.outcomes c.args.task.plan.points v (marked (outcome_at os v)) p.0 (search rules) p.1 refl c.relax.ensures.reached

pub loop-point-smaller : goal.loop-point-smaller
loop-point-smaller g c =
    let t = tally_le (reached_at c.relax.new.outcomes) c.args.task.plan.points in
    let e = taken_is g c in omega arith

pub loop-point-preserved : goal.loop-point-preserved
loop-point-preserved g c =
    let l = c.loop-point in
    let inv = l.invariant in
    let t = tally_le (reached_at l.outcomes) c.args.task.plan.points in
    let e = taken_is g c in
    let v = c.in-Some.point in
    let h = inv.front.1.pending v c.in-Some.ensures.takes.0.1 in
    record {
      front = (_, c.relax.ensures.front);
      slots = search rules;
      reached = omega (arith, inv.reached);
      number = omega (arith, c.relax.ensures.number, c.in-Some.ensures.takes.1, inv.reached, inv.number, c.args.task.plan.few);
      -- the point taken is one of the plan's, so the outcomes from there on stay
      rest = λ u b. c.relax.ensures.rest u b ∙ get_or-set_other l.outcomes v u (marked (outcome_at l.outcomes v)) unreached_outcome (λ z. omega (arith, z, b, h.0)) ∙ inv.rest u b;
    }

pub returns-clause-least : goal.returns-clause-least
returns-clause-least g c =
    let t = c.args.task in
    let p = t.plan in
    let l = c.loop-point in
    front_least g.G.Grade.initial t.links.now p.points p.source p.bound l.invariant.front.0 l.outcomes (g.Q.Queue.model l.queue).slots p.started t.joined c.in_default.ensures.takes.0.0 l.invariant.front.1
