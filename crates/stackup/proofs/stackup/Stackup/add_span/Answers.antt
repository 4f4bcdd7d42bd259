use Rattle.std.proofs.Common.{refl}
use Rattle.std.proofs.lemmas.Result.{err_from_is_err_and}
use Rattle.stackup.specs.Views.{stack_of}
use Rattle.stackup.proofs.Spans.{own_more, one_each_more}
use Rattle.stackup.proofs.stackup.Stackup.add_span.Goals as goal

pub invariant_of-self-clause-own : goal.invariant_of-self-clause-own
invariant_of-self-clause-own c =
    rw c.push_reserved.ensures.items (own_more (stack_of c.args.self.now) _ _ _ c.in_ok-check_span.ensures c.args.self.now.own)

pub invariant_of-self-clause-single : goal.invariant_of-self-clause-single
invariant_of-self-clause-single c =
    rw c.push_reserved.ensures.items (one_each_more (stack_of c.args.self.now) _ _ _ c.in_ok-check_span.ensures c.args.self.now.single)

pub returns-in_err-check_span : goal.returns-in_err-check_span
returns-in_err-check_span c =
    let p = err_from_is_err_and c.from_residual.result c.from_residual.ensures.1 in rw (p.1, p.2) (c.in_err-check_span.ensures, refl)
