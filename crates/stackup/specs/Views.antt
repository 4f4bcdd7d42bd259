-- The stackup that a value of the code stands for.
use Rattle.std.specs.Prelude.{vec_items}
use Rattle.stackup.specs.Stacks.{Stack}
use Rattle.stackup.specs.declared.stackup.Stackup.{Stackup}
use Rattle.stackup.specs.declared.stackup.ClosedStackup.{ClosedStackup}

abbrev pub stack_of : Stackup → Stack
stack_of s = record { layers = vec_items s.layers; spans = vec_items s.spans }

abbrev pub closed_of : ClosedStackup → Stack
closed_of c = stack_of c.stack
