-- How a call is refused: its checks run in the order of a list, and the first that fails gives the fault.
use Rattle.std.specs.Prelude.{◌≡◌, ℕ, ◌<◌, ◌⊎◌, List, [], ◌∷◌, Ok, Err, Result}
use Rattle.faults.specs.declared.Fault.{Fault}
use Rattle.faults.specs.declared.Fault.TheVariants.{OutOfRange}

-- when a check fails, and which faults it may then give
pub record Check : Type 1 where
  pub fails : Type 0
  pub gives : Fault → Type 0

-- the first check that fails gives the fault
abbrev pub Refused : List Check → Fault → Type 0
Refused [] f = ⊥
Refused (c ∷ cs) f = (c.fails × c.gives f) ⊎ ((c.fails → ⊥) × Refused cs f)

-- no check fails
abbrev pub Passed : List Check → Type 0
Passed [] = Unit {0}
Passed (c ∷ cs) = (c.fails → ⊥) × Passed cs

-- the answer of a call that only checks
abbrev pub Checked : List Check → Result Unit Fault → Type 0
Checked cs (Ok u) = Passed cs
Checked cs (Err f) = Refused cs f

-- the answer of a call that checks, and gives a value where all checks pass
abbrev pub Gives : {T : Type 0} → List Check → T → Result T Fault → Type 0
Gives cs v (Ok x) = Passed cs × (x ≡ v)
Gives cs v (Err f) = Refused cs f

-- a check that gives one fault
abbrev pub if_fails : Type 0 → Fault → Check
if_fails P f = record { fails = P; gives = λ g. g ≡ f }

-- a number, the least and the most that it may be
abbrev pub Outside : ℕ × ℕ × ℕ → Type 0
Outside r = (r.0 < r.1) ⊎ (r.2 < r.0)

abbrev pub SomeOutside : List (ℕ × ℕ × ℕ) → Type 0
SomeOutside [] = ⊥
SomeOutside (r ∷ rs) = Outside r ⊎ SomeOutside rs

-- the fault tells one of the numbers that lie outside
abbrev pub TellsOutside : List (ℕ × ℕ × ℕ) → Fault → Type 0
TellsOutside [] f = ⊥
TellsOutside (r ∷ rs) f = ((f ≡ OutOfRange r.0) × Outside r) ⊎ TellsOutside rs f

-- numbers that have to lie in their ranges; which of several that do not is told is free
abbrev pub range_check : List (ℕ × ℕ × ℕ) → Check
range_check rs = record { fails = SomeOutside rs; gives = TellsOutside rs }
