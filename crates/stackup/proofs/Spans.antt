-- Spans stay between signal layers, one for each pair, when a span is added.
use Rattle.std.proofs.Common.{ℕ, [], ◌∷◌, ◌++◌, arith}
use Rattle.std.proofs.lemmas.Grind.{common_steps}
use Rattle.std.proofs.lemmas.Bool.Decides.{nat_tests}
use Rattle.faults.specs.Checks.{Passed}
use Rattle.stackup.specs.declared.layer.Span.{Span}
use Rattle.stackup.specs.Stacks.{Stack, OwnSpans, OneEach, span_checks}

pub own_more : (t : Stack) (s : Span) (d p : ℕ) → Passed (span_checks t s.low s.high d p) → OwnSpans t.layers t.spans → OwnSpans t.layers (t.spans ++ (s ∷ []))
own_more t s d p passed own k h = grind (arith, common_steps, nat_tests, passed, own k)

pub one_each_more : (t : Stack) (s : Span) (d p : ℕ) → Passed (span_checks t s.low s.high d p) → OneEach t.spans → OneEach (t.spans ++ (s ∷ []))
one_each_more t s d p passed one j k h = grind (arith, common_steps, passed, one j k)
