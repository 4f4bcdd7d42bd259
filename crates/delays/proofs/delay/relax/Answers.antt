use Rattle.std.proofs.Common.{◌+◌, refl, ◌∙◌, arith}
use Rattle.tables.specs.Tables.{link_at, open_end, delay_at}
use Rattle.delays.specs.Delays.{LinkTried}
use Rattle.delays.proofs.Steps.{good_self, stepped}
use Rattle.delays.proofs.delay.relax.Goals as goal

pub loop-link-preserved : goal.loop-link-preserved
loop-link-preserved g c =
    let a = c.args in
    let p = a.task.plan in
    let links = a.task.links.now in
    let good = g.G.Order.as_good in
    let l = c.loop-link in
    let inv = l.invariant in
    let slots = (g.Q.Queue.model l.queue).slots in
    let e = c.try_link.ensures in
    let ends = open_end (link_at links l.link-index) a.from in
    let tried : LinkTried good g.G.Grade.initial p.bound ends (delay_at l.outcomes a.from + (link_at links l.link-index).delay) l.outcomes slots c.try_link.new.outcomes (g.Q.Queue.model c.try_link.new.queue).slots =
    rw inv.delay e.tried in
    let s = stepped good g.G.Grade.initial (good_self good g.met.G.Order.total g.G.Grade.initial) links p.points p.source p.bound a.from l.link-index
    l.outcomes c.try_link.new.outcomes slots (g.Q.Queue.model c.try_link.new.queue).slots
    (omega arith) (omega (arith, inv.slots)) a.task.joined c.requires.from_within c.loop-link-test.true (inv.reached a.from ∙ c.requires.from_reached) inv.front ends refl tried in
    record {
      front = s.front;
      slots = s.seated ∙ inv.slots;
      reached = λ v. s.reached v ∙ inv.reached v;
      delay = s.delay ∙ inv.delay;
      number = e.number ∙ inv.number;
      rest = λ v b. s.rest v b ∙ inv.rest v b;
    }
