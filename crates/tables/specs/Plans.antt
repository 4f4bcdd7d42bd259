-- The figures of a search.
use Rattle.std.specs.Prelude.{ℕ, ◌+◌, ◌-◌, ◌*◌, ◌/◌, cond, nat_le}

-- how much a route may pass the bound, tolerance in thousandths
abbrev pub allowance_of : ℕ → ℕ → ℕ
allowance_of bound tolerance = bound * tolerance / 1000

-- the largest delay that a label may have
abbrev pub ceiling_of : ℕ → ℕ → ℕ
ceiling_of bound tolerance = bound + allowance_of bound tolerance

-- how many delays fall into one bucket
abbrev pub width_of : ℕ → ℕ → ℕ
width_of allowance points = cond (nat_le points 1) 1 (1 + allowance / (points - 1))

abbrev pub buckets_of : ℕ → ℕ → ℕ
buckets_of ceiling width = ceiling / width + 1

-- the label places that a search wants
abbrev pub places_of : ℕ → ℕ → ℕ → ℕ
places_of points bound tolerance = points * buckets_of (ceiling_of bound tolerance) (width_of (allowance_of bound tolerance) points)
