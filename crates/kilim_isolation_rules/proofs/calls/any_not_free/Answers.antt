use Rattle.std.proofs.Common.{◌∙◌, ap, refl, sym, arith}
use Rattle.std.proofs.lemmas.List.{drop_all}
use Rattle.std.specs.List.{list_any}
use Rattle.kilim_isolation_rules.specs.Calls.{is_not_free}
use Rattle.kilim_isolation_rules.proofs.Every.{found_at, passed_at}
use Rattle.kilim_isolation_rules.proofs.calls.any_not_free.Goals as goal

pub returns-then-is_not_free : goal.returns-then-is_not_free
returns-then-is_not_free c = found_at (is_not_free c.args.program.now c.args.graph.now) c.args.arguments.now c.loop-argument.argument-index _ _ c.loop-argument-test.true refl (sym c.if-is_not_free.true ∙ c.is_not_free.ensures) c.loop-argument.invariant

pub loop-argument-preserved : goal.loop-argument-preserved
loop-argument-preserved c = passed_at (is_not_free c.args.program.now c.args.graph.now) c.args.arguments.now c.loop-argument.argument-index _ _ c.loop-argument-test.true refl (sym c.if-is_not_free.false ∙ c.is_not_free.ensures) c.loop-argument.invariant

pub returns : goal.returns
returns c = ap (list_any (is_not_free c.args.program.now c.args.graph.now)) (sym (drop_all c.loop-argument.argument-index c.args.arguments.now (omega arith))) ∙ c.loop-argument.invariant
