use Rattle.std.proofs.Common.{◌∙◌, ◌<◌, ap, arith, sym}
use Rattle.std.specs.Prelude.{is_some}
use Rattle.kilim_weave_code.proofs.Pieces.{copied_some, first_is}
use Rattle.kilim_weave_code.proofs.old.is_first.Goals as goal

pub returns : goal.returns
returns c =
    let lt : 0 < c.args.at = omega (arith, c.if-at-eq0.false) in
    c.is_some.ensures
    ∙ (sym (copied_some c.pausable_callee-callee.result)
    ∙ (ap is_some c.pausable_callee-callee.ensures ∙ first_is c.args.plan.now.program.now c.args.plan.now.method.now.code c.args.at c.entry_of-before.result.now lt c.entry_of-before.ensures))
