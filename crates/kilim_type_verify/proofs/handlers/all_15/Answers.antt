use Rattle.std.proofs.Common.{◌∙◌, sym, ap, arith, refl}
use Rattle.std.proofs.lemmas.List.{drop_all}
use Rattle.std.specs.List.{list_all}
use Rattle.kilim_type_spec.specs.Faults.{rule_15}
use Rattle.kilim_type_verify.proofs.Every.{fails_at, holds_at}
use Rattle.kilim_type_verify.proofs.handlers.all_15.Goals as goal

pub returns-then-not-holds : goal.returns-then-not-holds
returns-then-not-holds c = fails_at (rule_15 c.args.program.now c.args.method.now c.args.at c.args.state.now) c.args.handlers.now c.loop-handler.handler-index _ _ c.loop-handler-test.true refl (sym c.if-not-holds.true ∙ c.in-Ok.ensures) c.loop-handler.invariant

pub loop-handler-preserved : goal.loop-handler-preserved
loop-handler-preserved c = holds_at (rule_15 c.args.program.now c.args.method.now c.args.at c.args.state.now) c.args.handlers.now c.loop-handler.handler-index _ _ c.loop-handler-test.true refl (sym c.if-not-holds.false ∙ c.in-Ok.ensures) c.loop-handler.invariant

pub returns : goal.returns
returns c = ap (list_all (rule_15 c.args.program.now c.args.method.now c.args.at c.args.state.now)) (sym (drop_all c.loop-handler.handler-index c.args.handlers.now (omega arith))) ∙ c.loop-handler.invariant
