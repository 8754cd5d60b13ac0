use Rattle.std.proofs.Common.{◌∙◌, sym, ap, arith, refl}
use Rattle.std.proofs.lemmas.List.{drop_all}
use Rattle.std.specs.List.{list_all}
use Rattle.kilim_type_spec.specs.Typed.{declared}
use Rattle.kilim_type_spec.specs.Faults.{flows_into_declared}
use Rattle.kilim_type_verify.proofs.Every.{fails_at, holds_at}
use Rattle.kilim_type_verify.proofs.flows.flow_to_all.Goals as goal

pub returns-then-not-flows_to : goal.returns-then-not-flows_to
returns-then-not-flows_to c = fails_at (λ to. flows_into_declared c.args.program.now c.args.from.now (declared c.args.method.now to)) c.args.places.now c.loop-at.at-index _ _ c.loop-at-test.true refl c.if-not-flows_to.ensures c.loop-at.invariant

pub loop-at-preserved : goal.loop-at-preserved
loop-at-preserved c = holds_at (λ to. flows_into_declared c.args.program.now c.args.from.now (declared c.args.method.now to)) c.args.places.now c.loop-at.at-index _ _ c.loop-at-test.true refl c.if-not-flows_to.ensures c.loop-at.invariant

pub returns : goal.returns
returns c = ap (list_all (λ to. flows_into_declared c.args.program.now c.args.from.now (declared c.args.method.now to))) (sym (drop_all c.loop-at.at-index c.args.places.now (omega arith))) ∙ c.loop-at.invariant
