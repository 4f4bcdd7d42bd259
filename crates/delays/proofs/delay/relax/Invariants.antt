use Rattle.std.proofs.Common.{◌≡◌, length}
use Rattle.tables.specs.Tables.{delay_at}
use Rattle.delays.specs.Delays.{Front, SameReached, Beyond}
use Rattle.delays.proofs.delay.relax.Given as goal

abbrev pub invariant-loop-link : goal.invariant-loop-link
invariant-loop-link g l =
    let q = g.Q.Queue.model in
    record {
      front : Front g.G.Grade.initial l.task.links.now l.task.plan.points l.task.plan.source l.task.plan.bound l.from l.link-index l.outcomes (q l.queue).slots;
      slots : length (q l.queue).slots ≡ length (q l.initial.queue).slots;
      reached : SameReached l.initial.outcomes l.outcomes;
      delay : delay_at l.outcomes l.from ≡ l.delay;
      number : (q l.queue).taken ≡ (q l.initial.queue).taken;
      rest : Beyond l.task.plan.points l.initial.outcomes l.outcomes;
    }
