-- Boards, by what they hold.
use Rattle.std.specs.Prelude.{List, [], None, Option}
use Rattle.stackup.specs.Stacks.{Stack}
use Rattle.tables.specs.declared.plan.Plan.{Plan}
use Rattle.tables.specs.declared.table.Label.{Label}
use Rattle.tables.specs.declared.table.Link.{Link}
use Rattle.tables.specs.declared.table.Outcome.{Outcome}
use Rattle.board.specs.declared.point.Point.{Point}

-- The stackup; points and links by number, and the places of their tables that are not used yet; the label and the
-- outcome table; and the figures of the search that stands. Used and free places together are every place of a table.
pub record BoardState (G : Type 0) : Type 0 where
  pub stack : Stack
  pub points : List Point
  pub points_free : List Point
  pub links : List Link
  pub links_free : List Link
  pub labels : List (Label G)
  pub outcomes : List Outcome
  pub standing : Option Plan

-- a board just opened has no points and no links, whatever its tables hold
abbrev pub new_board : {G : Type 0} → Stack → List Point → List Link → List (Label G) → List Outcome → BoardState G
new_board s ps ls labels os =
    record { stack = s; points = []; points_free = ps; links = []; links_free = ls; labels = labels; outcomes = os; standing = None }

-- the same board, on which another search stands, or none
abbrev pub with_standing : {G : Type 0} → BoardState G → Option Plan → BoardState G
with_standing b st = record {
  stack = b.stack;
  points = b.points;
  points_free = b.points_free;
  links = b.links;
  links_free = b.links_free;
  labels = b.labels;
  outcomes = b.outcomes;
  standing = st;
}
