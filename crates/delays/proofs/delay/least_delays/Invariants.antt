use Rattle.std.proofs.Common.{◌≡◌, ℕ, ◌-◌, length}
use Rattle.tables.specs.Tables.{reached_at}
use Rattle.delays.specs.Delays.{Front, Beyond}
use Rattle.tables.specs.Tallies.{tally}
use Rattle.delays.proofs.delay.least_delays.Given as goal

abbrev pub invariant-loop-point : goal.invariant-loop-point
invariant-loop-point g l =
    let q = g.Q.Queue.model in
    record {
      front : (u : ℕ) × Front g.G.Grade.initial l.task.links.now l.task.plan.points l.task.plan.source l.task.plan.bound u (length l.task.links.now) l.outcomes (q l.queue).slots;
      slots : length (q l.queue).slots ≡ length (q l.initial.queue).slots;
      reached : l.reached ≡ tally (reached_at l.outcomes) l.task.plan.points;
      number : (q l.queue).taken ≡ l.reached;
      rest : Beyond l.task.plan.points l.initial.outcomes l.outcomes;
    }

abbrev pub decreases-loop-point : goal.decreases-loop-point
decreases-loop-point g l = l.task.plan.points - tally (reached_at l.outcomes) l.task.plan.points
