-- One link more of a route that is written from its end.
use Rattle.std.proofs.Common.{◌≡◌, ℕ, suc, ◌+◌, ◌-◌, ◌*◌, ◌<◌, List, [], ◌∷◌, ◌++◌, length, take, set, sym, ap, ◌∙◌, append_assoc, arith}
use Rattle.std.specs.Prelude.{reverse}
use Rattle.std.proofs.lemmas.List.{reverse-append, take_more_set}
use Rattle.tables.specs.declared.table.Label.{Label}
use Rattle.tables.specs.declared.table.Link.{Link}
use Rattle.tables.specs.Tables.{label_at}
use Rattle.search.specs.Trails.{trail, end_before}

module _ {G : Type 0} (initial : G) (links : List Link) (buckets : ℕ) (labels : List (Label G)) where
  pub trail_more : (v b count i : ℕ) (list : List ℕ) → i < count → i < length list
      → trail initial links buckets labels v b (count - i) ++ reverse (take i list)
      ≡ trail initial links buckets labels (end_before links (label_at initial labels (v * buckets + b)).link v) (label_at initial labels (v * buckets + b)).earlier (count - (i + 1))
      ++ reverse (take (i + 1) (set list i (label_at initial labels (v * buckets + b)).link))
  trail_more v b count i list lt room =
      let label = label_at initial labels (v * buckets + b) in
      let rest = trail initial links buckets labels (end_before links label.link v) label.earlier (count - (i + 1)) in
      let s : count - i ≡ suc (count - (i + 1)) = omega arith in
      let written : reverse (take (i + 1) (set list i label.link)) ≡ label.link ∷ reverse (take i list) =
      ap reverse (take_more_set list i label.link room) ∙ reverse-append (take i list) (label.link ∷ []) in
      ap (λ (x : ℕ). trail initial links buckets labels v b x ++ reverse (take i list)) s
      ∙ append_assoc rest (label.link ∷ []) (reverse (take i list)) ∙ ap (λ (zs : List ℕ). rest ++ zs) (sym written)
