-- A reading by the figures of the search that stands is a reading.
use Rattle.std.proofs.Common.{◌≡◌, ℕ, List, Some, Ok, Err, Result, refl, inr}
use Rattle.faults.specs.declared.Fault.{Fault}
use Rattle.grades.specs.declared.key.Key.{Key}
use Rattle.tables.specs.declared.plan.Plan.{Plan}
use Rattle.board.specs.Boards.{BoardState}
use Rattle.board.specs.Edits.{point_check}
use Rattle.board.specs.Routes.{Reads, ReadsBy}

pub reads_standing : {G : Type 0} (initial : G) (b : BoardState G) (p : Plan) (v : ℕ) (list list' : List ℕ) (r : Result (Key G) Fault) → b.standing ≡ Some p
    → ((point_check b v).fails → ⊥) → ReadsBy initial b p v list r list' → Reads initial b v list r list'
reads_standing initial b p v list list' (Ok k) e known h = rw e ((known, h.0), (p, refl, h.1, h.2))
reads_standing initial b p v list list' (Err f) e known h = rw e (inr (known, h.0), h.1)
