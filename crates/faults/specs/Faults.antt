-- The number and the figure of each refusal.
use Rattle.std.specs.Prelude.{ℕ}
use Rattle.faults.specs.declared.Fault.{Fault}
use Rattle.faults.specs.declared.Fault.TheVariants.{Full, OutOfRange, NoLayer, PlaneLayer, Taken, NoPoint, NoLink, NotJoinable, TooShort, NotSearched, NoRoute, ListTooShort, BadRecord}

abbrev pub number_of : Fault → ℕ
number_of (Full n) = 1
number_of (OutOfRange n) = 2
number_of (NoLayer n) = 3
number_of (PlaneLayer n) = 4
number_of (Taken n) = 5
number_of (NoPoint n) = 6
number_of (NoLink n) = 7
number_of (NotJoinable n) = 8
number_of (TooShort n) = 9
number_of NotSearched = 10
number_of (NoRoute n) = 11
number_of (ListTooShort n) = 12
number_of (BadRecord n) = 13

abbrev pub figure_of : Fault → ℕ
figure_of (Full n) = n
figure_of (OutOfRange n) = n
figure_of (NoLayer n) = n
figure_of (PlaneLayer n) = n
figure_of (Taken n) = n
figure_of (NoPoint n) = n
figure_of (NoLink n) = n
figure_of (NotJoinable n) = n
figure_of (TooShort n) = n
figure_of NotSearched = 0
figure_of (NoRoute n) = n
figure_of (ListTooShort n) = n
figure_of (BadRecord n) = n
