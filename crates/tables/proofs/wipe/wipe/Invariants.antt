use Rattle.std.proofs.Common.{◌≡◌, take, replicate}
use Rattle.tables.proofs.wipe.wipe.Given as goal

abbrev pub invariant-loop-entry : goal.invariant-loop-entry
invariant-loop-entry g l = take l.entry-index l.entry-items ≡ replicate l.entry-index l.blank
