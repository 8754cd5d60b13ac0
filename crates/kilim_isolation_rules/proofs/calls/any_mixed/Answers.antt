use Rattle.std.proofs.Common.{◌∙◌, ap, refl, sym, arith}
use Rattle.std.proofs.lemmas.List.{drop_all}
use Rattle.std.specs.List.{list_any}
use Rattle.kilim_isolation_rules.specs.Calls.{is_mixed}
use Rattle.kilim_isolation_rules.proofs.Every.{found_at, passed_at}
use Rattle.kilim_isolation_rules.proofs.calls.any_mixed.Goals as goal

pub returns-then-is_mixed : goal.returns-then-is_mixed
returns-then-is_mixed c = found_at (is_mixed c.args.program.now) c.args.arguments.now c.loop-argument.argument-index _ _ c.loop-argument-test.true refl (sym c.if-is_mixed.true ∙ c.is_mixed.ensures) c.loop-argument.invariant

pub loop-argument-preserved : goal.loop-argument-preserved
loop-argument-preserved c = passed_at (is_mixed c.args.program.now) c.args.arguments.now c.loop-argument.argument-index _ _ c.loop-argument-test.true refl (sym c.if-is_mixed.false ∙ c.is_mixed.ensures) c.loop-argument.invariant

pub returns : goal.returns
returns c = ap (list_any (is_mixed c.args.program.now)) (sym (drop_all c.loop-argument.argument-index c.args.arguments.now (omega arith))) ∙ c.loop-argument.invariant
