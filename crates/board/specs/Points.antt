-- The points of a board.
use Rattle.std.specs.Prelude.{◌≡◌, ℕ, ◌<◌, List, length, slice_index_or}
use Rattle.board.specs.declared.point.Point.{Point}

abbrev pub no_point : Point
no_point = record { x = 0; y = 0; layer = 0 }

-- the point of a number
abbrev pub point_at : List Point → ℕ → Point
point_at ps i = slice_index_or ps i no_point

-- the point p has the number i
abbrev pub PointNo : List Point → Point → ℕ → Type 0
PointNo ps p i = (i < length ps) × (point_at ps i ≡ p)
