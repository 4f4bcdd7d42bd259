-- Little-endian numbers in a list of bytes.
use Rattle.std.specs.Prelude.{ℕ, zero, suc, ◌+◌, ◌*◌, List, slice_index}

-- the number of w bytes that stands at place i, the lowest byte first; a byte that is wanting counts as 0
abbrev pub number_at : ℕ → List ℕ → ℕ → ℕ
number_at zero bs i = 0
number_at (suc w) bs i = slice_index bs i + 256 * number_at w bs (i + 1)
