-- The board that a value of the code stands for.
use Rattle.stackup.specs.Views.{closed_of}
use Rattle.board.specs.Boards.{BoardState}
use Rattle.board.specs.declared.board.Board.{Board}

abbrev pub view_of : {G : Type 0} → Board G → BoardState G
view_of b = record {
  stack = closed_of b.stackup;
  points = b.points.used;
  points_free = b.points.free;
  links = b.links.used;
  links_free = b.links.free;
  labels = b.labels.now;
  outcomes = b.outcomes.now;
  standing = b.standing;
}
