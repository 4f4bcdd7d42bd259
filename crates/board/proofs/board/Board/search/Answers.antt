use Rattle.std.proofs.Common.{length, Ok, sym, refl, subst}
use Rattle.board.specs.Boards.{BoardState}
use Rattle.board.specs.Routes.{Searches}
use Rattle.board.specs.Views.{view_of}
use Rattle.board.proofs.board.Board.search.Goals as goal

pub returns-clause-searches : goal.returns-clause-searches
returns-clause-searches g c =
    let slots = length (g.Q.Queue.model c.args.queue.now).slots in
    let queue = g.Q.Queue.model c.search.new.queue in
    let a = rw (c.len.ensures, c.as_slice.ensures) at c.in_ok-plan.ensures.answered in
    subst (λ (b : BoardState _). Searches g.G.Grade.initial (view_of c.args.self.now) slots c.args.source c.args.bound c.args.tolerance (Ok c.in_ok-plan.found) b queue)
    (sym c.set_standing.ensures)
    (a.0, (c.in_ok-plan.plan, a.1, a.2, a.3, refl))
