-- How the records of a board file come, one after the other.
use Rattle.std.specs.Prelude.{◌≡◌, ℕ, ◌≤◌, length, Some, None, Ok, Err, Option, Result}
use Rattle.faults.specs.declared.Fault.{Fault}
use Rattle.boardfile.specs.Format.{Reads}
use Rattle.boardfile.specs.declared.records.Record.{Record}
use Rattle.boardfile.specs.declared.records.Record.TheVariants.{Close}
use Rattle.boardfile.specs.declared.records.Stage.{Stage}
use Rattle.boardfile.specs.declared.records.Stage.TheVariants.{Routing}
use Rattle.filerun.specs.declared.records.Records.{Records}

-- the stage after a record
abbrev pub stage_after : Record → Stage → Stage
stage_after Close stage = Routing
stage_after r stage = stage

-- a record is followed by the one that begins where it ends, and a bad one by none
abbrev pub GoesOn : Records → Result Record Fault → Records → Type 0
GoesOn s (Ok r) t = Reads s.stage s.file.now s.at (Ok (r, t.at)) × (t.stage ≡ stage_after r s.stage)
GoesOn s (Err f) t = Reads s.stage s.file.now s.at (Err f) × (length t.file.now ≤ t.at)

-- what comes next of a file, and what is left of it then: nothing at the end, or the record at the place at hand
abbrev pub Comes : Records → Option (ℕ × Result Record Fault) → Records → Type 0
Comes s None t = (length s.file.now ≤ s.at) × (t ≡ s)
Comes s (Some p) t = (p.0 ≡ s.at) × (t.file.now ≡ s.file.now) × GoesOn s p.1 t
