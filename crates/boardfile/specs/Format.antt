-- The records of a board file.
use Rattle.std.specs.Prelude.{◌≡◌, ℕ, ◌+◌, cond, ◌&&◌, List, length, take, drop, Some, None, Ok, Err, Option, Result, ◌==◌, nat_le}
use Rattle.std.specs.Option.{option_map}
use Rattle.faults.specs.declared.Fault.{Fault}
use Rattle.faults.specs.declared.Fault.TheVariants.{BadRecord}
use Rattle.boardfile.specs.Little.{number_at}
use Rattle.boardfile.specs.declared.records.Stage.{Stage}
use Rattle.boardfile.specs.declared.records.Stage.TheVariants.{Stackup, Routing}
use Rattle.boardfile.specs.declared.records.Record.{Record}
use Rattle.boardfile.specs.declared.records.Record.TheVariants.{Layer, Span, Close, Point, Track, Via, Block, Free, Search}

-- the record that a kind k and a body bs stand for, if they stand for one at this stage
abbrev pub body_of : Stage → ℕ → List ℕ → Option Record
body_of Stackup k bs =
    cond (k == 1 && length bs == 5) (Some (Layer (number_at 1 bs 0) (number_at 2 bs 1) (number_at 2 bs 3)))
    (cond (k == 2 && length bs == 10) (Some (Span (number_at 1 bs 0) (number_at 1 bs 1) (number_at 4 bs 2) (number_at 4 bs 6)))
    (cond (k == 3 && length bs == 0) (Some Close) None))
body_of Routing k bs =
    cond (k == 4 && length bs == 5) (Some (Point (number_at 2 bs 0) (number_at 2 bs 2) (number_at 1 bs 4)))
    (cond (k == 5 && length bs == 6) (Some (Track (number_at 2 bs 0) (number_at 2 bs 2) (number_at 2 bs 4)))
    (cond (k == 6 && length bs == 6) (Some (Via (number_at 2 bs 0) (number_at 2 bs 2) (number_at 2 bs 4)))
    (cond (k == 7 && length bs == 2) (Some (Block (number_at 2 bs 0)))
    (cond (k == 8 && length bs == 2) (Some (Free (number_at 2 bs 0)))
    (cond (k == 9 && length bs == 8) (Some (Search (number_at 2 bs 0) (number_at 4 bs 2) (number_at 2 bs 6))) None)))))

-- the body of the record that begins at a place
abbrev pub body_at : List ℕ → ℕ → List ℕ
body_at bs at = take (number_at 2 bs at) (drop (at + 4) bs)

-- the record that begins at a place, if the whole of one stands there
abbrev pub record_at : Stage → List ℕ → ℕ → Option Record
record_at stage bs at =
    cond (nat_le (at + 4 + number_at 2 bs at) (length bs)) (body_of stage (number_at 2 bs (at + 2)) (body_at bs at)) None

-- the same with the place where the next record begins
abbrev pub entry_at : Stage → List ℕ → ℕ → Option (Record × ℕ)
entry_at stage bs at = option_map (λ r. (r, at + 4 + number_at 2 bs at)) (record_at stage bs at)

-- the answer of a read: the record with the place where the next begins, or the place of the bad one
abbrev pub Reads : Stage → List ℕ → ℕ → Result (Record × ℕ) Fault → Type 0
Reads stage bs at (Ok p) = (record_at stage bs at ≡ Some p.0) × (p.1 ≡ at + 4 + number_at 2 bs at)
Reads stage bs at (Err f) = (record_at stage bs at ≡ None) × (f ≡ BadRecord at)
