-- What a search and a reading on a board answer, and what they leave.
use Rattle.std.specs.Prelude.{◌≡◌, ℕ, ◌+◌, ◌*◌, List, [], ◌∷◌, ◌++◌, length, drop, Some, None, Ok, Err, Option, Result, ◌≢◌}
use Rattle.faults.specs.declared.Fault.{Fault}
use Rattle.faults.specs.declared.Fault.TheVariants.{NotSearched, NoRoute}
use Rattle.faults.specs.Checks.{Check, Refused, Passed, if_fails}
use Rattle.grades.specs.declared.key.Key.{Key}
use Rattle.queues.specs.Slots.{Model}
use Rattle.search.specs.Answers.{Figures}
use Rattle.search.specs.Results.{Searched}
use Rattle.search.specs.Trails.{trail, list_check}
use Rattle.tables.specs.declared.plan.Plan.{Plan}
use Rattle.tables.specs.declared.table.Found.{Found}
use Rattle.tables.specs.declared.table.Label.{Label}
use Rattle.tables.specs.declared.table.Mark.TheVariants.{Kept}
use Rattle.tables.specs.declared.table.Outcome.{Outcome}
use Rattle.tables.specs.Searches.{search_checks}
use Rattle.tables.specs.Tables.{label_at, outcome_at}
use Rattle.board.specs.Boards.{BoardState}
use Rattle.board.specs.Edits.{point_check}

-- the board after a search that left these tables
abbrev pub with_search : {G : Type 0} → BoardState G → List (Label G) → List Outcome → Plan → BoardState G
with_search b labels outcomes p = record {
  stack = b.stack;
  points = b.points;
  points_free = b.points_free;
  links = b.links;
  links_free = b.links_free;
  labels = labels;
  outcomes = outcomes;
  standing = Some p;
}

-- the checks of a search with a queue of so many slots
abbrev pub board_checks : {G : Type 0} → BoardState G → ℕ → ℕ → ℕ → ℕ → List Check
board_checks b slots source bound tolerance = search_checks (length b.points) source bound tolerance (length b.outcomes) slots (length b.labels)

-- a search stands with the figures of the rules and its tables, or the call is refused and nothing changes
abbrev pub Searches : {G : Type 0} → G → BoardState G → ℕ → ℕ → ℕ → ℕ → Result Found Fault → BoardState G → Model G → Type 0
Searches initial b slots source bound tolerance (Ok f) c queue =
    Passed (board_checks b slots source bound tolerance)
    × ((p : Plan) × Figures (length b.points) source bound tolerance p × (f.width ≡ p.width)
    × Searched initial b.links (length b.points) source bound p.buckets b.labels b.outcomes f.reached f.taken c.labels c.outcomes queue
    × (c ≡ with_search b c.labels c.outcomes p))
Searches initial b slots source bound tolerance (Err f) c queue = Refused (board_checks b slots source bound tolerance) f × (c ≡ b)

-- a refused search leaves the queue as it was
abbrev pub Untouched : {Q : Type 0} → Result Found Fault → Q → Q → Type 0
Untouched (Ok f) queue queue' = Unit {0}
Untouched (Err f) queue queue' = queue' ≡ queue

-- the label given at a point: the one in its given bucket
abbrev pub given_label : {G : Type 0} → G → BoardState G → Plan → ℕ → Label G
given_label initial b p v = label_at initial b.labels (v * p.buckets + (outcome_at b.outcomes v).given)

-- the checks of a reading into a list of so many places, once a search stands
abbrev pub route_checks : {G : Type 0} → G → BoardState G → Plan → ℕ → ℕ → List Check
route_checks initial b p v room =
    if_fails ((given_label initial b p v).mark ≢ Kept) (NoRoute v)
    ∷ list_check (given_label initial b p v).key.count room ∷ []

-- by the figures p of the search that stands, a reading answers the key of the given label and writes the links of its route, source first, or is refused and writes nothing
abbrev pub ReadsBy : {G : Type 0} → G → BoardState G → Plan → ℕ → List ℕ → Result (Key G) Fault → List ℕ → Type 0
ReadsBy initial b p v list (Ok r) list' =
    Passed (route_checks initial b p v (length list)) × (r ≡ (given_label initial b p v).key)
    × (list' ≡ trail initial b.links p.buckets b.labels v (outcome_at b.outcomes v).given r.count ++ drop r.count list)
ReadsBy initial b p v list (Err f) list' = Refused (route_checks initial b p v (length list)) f × (list' ≡ list)

abbrev pub standing_checks : {G : Type 0} → G → BoardState G → Option Plan → ℕ → ℕ → List Check
standing_checks initial b None v room = if_fails (Unit {0}) NotSearched ∷ []
standing_checks initial b (Some p) v room = route_checks initial b p v room

abbrev pub read_checks : {G : Type 0} → G → BoardState G → ℕ → ℕ → List Check
read_checks initial b v room = point_check b v ∷ standing_checks initial b b.standing v room

-- a reading answers the given label's route and writes its links, source first, or is refused and writes nothing
abbrev pub Reads : {G : Type 0} → G → BoardState G → ℕ → List ℕ → Result (Key G) Fault → List ℕ → Type 0
Reads initial b v list (Ok r) list' =
    Passed (read_checks initial b v (length list))
    × ((p : Plan) × (b.standing ≡ Some p) × (r ≡ (given_label initial b p v).key)
    × (list' ≡ trail initial b.links p.buckets b.labels v (outcome_at b.outcomes v).given r.count ++ drop r.count list))
Reads initial b v list (Err f) list' = Refused (read_checks initial b v (length list)) f × (list' ≡ list)
