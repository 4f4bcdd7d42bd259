-- The bytes of each line: words and decimal numbers with a space between them, and byte 10 at the end.
use Rattle.std.specs.Prelude.{ℕ, List, [], ◌∷◌, ◌++◌, codes, decimal}
use Rattle.boardfile.specs.declared.line.Line.{Line}
use Rattle.boardfile.specs.declared.line.Line.TheVariants.{Refused, Summary, Route, Unreached}

-- a word and those after it, a space between two, and byte 10 at the end
abbrev pub spaced : List ℕ → List (List ℕ) → List ℕ
spaced w [] = w ++ (10 ∷ [])
spaced w (v ∷ vs) = w ++ (32 ∷ spaced v vs)

-- the bytes of a line
abbrev pub line_text : Line → List ℕ
line_text (Refused n f p) = spaced (codes "refused") (decimal n ∷ decimal f ∷ codes "at" ∷ decimal p ∷ [])
line_text (Summary w r t) = spaced (codes "width") (decimal w ∷ codes "reached" ∷ decimal r ∷ codes "taken" ∷ decimal t ∷ [])
line_text (Route p d c k) = spaced (decimal p) (decimal d ∷ decimal c ∷ decimal k ∷ [])
line_text (Unreached p) = spaced (decimal p) (codes "none" ∷ [])
