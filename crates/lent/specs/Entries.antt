-- The entries of a table.
use Rattle.std.specs.Prelude.{List}

-- those in use, by number, and those not used yet
pub record Entries (T : Type 0) : Type 0 where
  pub used : List T
  pub free : List T
