use Rattle.std.proofs.Common.{◌∙◌, ap, sym, arith}
use Rattle.std.proofs.lemmas.List.{drop_all}
use Rattle.kilim_isolation_graph.specs.Canonical.{is_among}
use Rattle.kilim_isolation_graph.proofs.Loops.{among_on}
use Rattle.kilim_isolation_graph.proofs.numbers.is_among.Goals as goal

pub loop-number-preserved : goal.loop-number-preserved
loop-number-preserved c = among_on c.args.numbers.now c.loop-number.number-index 0 c.args.wanted c.loop-number-test.true c.if-number-wanted.false ∙ c.loop-number.invariant

pub returns : goal.returns
returns c = ap (is_among c.args.wanted) (sym (drop_all c.loop-number.number-index c.args.numbers.now (omega arith))) ∙ c.loop-number.invariant
