use Rattle.std.proofs.Common.{◌∙◌, ap, sym, arith, None}
use Rattle.std.proofs.lemmas.List.{drop_all}
use Rattle.kilim_isolation.specs.Mark.{locals_mixed}
use Rattle.kilim_isolation.proofs.Marks.{local_on}
use Rattle.kilim_isolation.proofs.mark.locals_mixed.Goals as goal

pub loop-at-preserved : goal.loop-at-preserved
loop-at-preserved c = local_on c.args.slots.now c.loop-at.mark c.local_mixed-mark.result c.loop-at.at None c.loop-at-test.true c.local_mixed-mark.ensures ∙ c.loop-at.invariant

pub returns : goal.returns
returns c = ap (locals_mixed c.loop-at.mark c.loop-at.at) (sym (drop_all c.loop-at.at c.args.slots.now (omega arith))) ∙ c.loop-at.invariant
