use Rattle.std.proofs.Common.{◌∙◌, List, ap, sym, refl, true, arith}
use Rattle.std.proofs.lemmas.List.{drop_all}
use Rattle.kilim_type_step.specs.Answers.{failing}
use Rattle.kilim_type_step.specs.Operands.{furthers_of}
use Rattle.kilim_type_step.specs.declared.operands.Also.{Also}
use Rattle.kilim_type_step.proofs.Rows.{failing_on}
use Rattle.kilim_type_step.proofs.apply.failing.Goals as goal

pub loop-more-preserved : goal.loop-more-preserved
loop-more-preserved c =
    failing_on c.args.program.now c.args.also.now c.args.state.now.stack c.loop-more.more-index _ true c.loop-more-test.true c.if-not-holds.ensures refl ∙ c.loop-more.invariant

pub returns : goal.returns
returns c =
    ap (λ (ys : List Also). failing c.args.program.now (furthers_of ys) c.args.state.now.stack) (sym (drop_all c.loop-more.more-index c.args.also.now (omega arith))) ∙ c.loop-more.invariant
