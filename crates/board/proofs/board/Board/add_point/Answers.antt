use Rattle.std.proofs.Common.{refl}
use Rattle.std.proofs.lemmas.Result.{err_from_is_err_and}
use Rattle.board.proofs.board.Board.add_point.Goals as goal

pub returns-in_err-check_new_point : goal.returns-in_err-check_new_point
returns-in_err-check_new_point g c =
    let p = err_from_is_err_and c.from_residual.result c.from_residual.ensures.1 in
    rw (p.1, p.2) (c.in_err-check_new_point.ensures, refl)
