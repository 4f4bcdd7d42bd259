use Rattle.std.proofs.Common.{sym, ◌∙◌, arith}
use Rattle.queues.proofs.Precedence.{leads_new, first_found}
use Rattle.queues.proofs.scan.first_waiting.Goals as goal
use Rattle.queues.proofs.scan.first_waiting.Goals.{then-ahead_at, else-ahead_at}

pub loop-i-preserved : goal.loop-i-preserved
loop-i-preserved g c =
    elim c.if-ahead_at.branch [
      | then-ahead_at w ↦ rw w.first-is (leads_new g.G.Order.as_good g.met.G.Order.total g.met.G.Order.transitive _ _ _ (sym c.ahead_at.ensures ∙ w.if-ahead_at.true) c.loop-i.invariant)
      | else-ahead_at w ↦ λ j h. grind arith
    ]

pub returns : goal.returns
returns g c =
    rw c.then_some.ensures (first_found g.G.Order.as_good g.met.G.Order.total g.met.G.Order.transitive _ _ _ _ c.loop-i-test.false c.loop-i.invariant c.waits_at.ensures)
