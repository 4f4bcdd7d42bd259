-- The links of a label's route.
use Rattle.std.specs.Prelude.{◌≡◌, ℕ, zero, suc, ◌+◌, ◌*◌, ◌<◌, cond, List, [], ◌∷◌, ◌++◌, length, drop, Ok, Err, Result, ◌==◌}
use Rattle.faults.specs.declared.Fault.{Fault}
use Rattle.faults.specs.declared.Fault.TheVariants.{ListTooShort}
use Rattle.faults.specs.Checks.{Check, Refused, Passed, if_fails}
use Rattle.tables.specs.declared.table.Label.{Label}
use Rattle.tables.specs.declared.table.Link.{Link}
use Rattle.tables.specs.Tables.{label_at, link_at}

-- the end of link k that is not v
abbrev pub end_before : List Link → ℕ → ℕ → ℕ
end_before links k v = cond ((link_at links k).from == v) (link_at links k).to (link_at links k).from

-- the last so many links of the route of the label at (v, b), the earliest first
abbrev pub trail : {G : Type 0} → G → List Link → ℕ → List (Label G) → ℕ → ℕ → ℕ → List ℕ
trail initial links buckets labels v b zero = []
trail initial links buckets labels v b (suc count) =
    let label = label_at initial labels (v * buckets + b) in
    trail initial links buckets labels (end_before links label.link v) label.earlier count ++ (label.link ∷ [])

-- a list has to have a place for each link
abbrev pub list_check : ℕ → ℕ → Check
list_check count room = if_fails (room < count) (ListTooShort count)

-- so many links are written at the front of a list and the other entries stay, or the list is too short and stays
abbrev pub Writes : ℕ → List ℕ → List ℕ → Result Unit Fault → List ℕ → Type 0
Writes count ks list (Ok u) list' = Passed (list_check count (length list) ∷ []) × (list' ≡ ks ++ drop count list)
Writes count ks list (Err f) list' = Refused (list_check count (length list) ∷ []) f × (list' ≡ list)
