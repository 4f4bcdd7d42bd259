-- A search that is refused before its figures are known.
use Rattle.std.proofs.Common.{ℕ, arith}
use Rattle.faults.specs.declared.Fault.{Fault}
use Rattle.faults.specs.Checks.{Refused}
use Rattle.tables.specs.Searches.{plan_checks, search_checks}

pub refused_plan : (n source bound tolerance outcomes slots labels : ℕ) (f : Fault) → Refused (plan_checks n source bound tolerance) f → Refused (search_checks n source bound tolerance outcomes slots labels) f
refused_plan n source bound tolerance outcomes slots labels f r = grind arith
