use Rattle.board.proofs.Reading.{reads_standing}
use Rattle.board.specs.Views.{view_of}
use Rattle.board.proofs.board.Board.read.Goals as goal

pub returns : goal.returns
returns g c =
    reads_standing g.G.Grade.initial (view_of c.args.self.now) c.in_ok-plan.plan c.args.point c.args.list.now c.read_by.new.list c.read_by.result c.in_ok-plan.ensures.ok_part c.in_ok-check_point.ensures.0 c.read_by.ensures
