use Rattle.std.proofs.Common.{Ok, ap, rules, sym, ◌∙◌}
use Rattle.std.specs.Prelude.{FitsSigned}
use Rattle.std.specs.Int.{w32}
use Rattle.std.proofs.lemmas.Int.{to_z-of_z}
use Rattle.kilim_fiber_laws.specs.woven_kin.Nexts.{Goes, arg_next}
use Rattle.kilim_run_model.specs.Lone.{arg_at}
use Rattle.kilim_fiber_body.specs.Body.{behind_at}
use Rattle.kilim_fiber_body.specs.declared.body.Came.TheVariants as came
use Rattle.kilim_fiber_body.proofs.Asking.{any_name, name_by}
use Rattle.kilim_fiber_body.proofs.asks.arg.Goals as goal

pub returns-in-Some-clause-comes : goal.returns-in-Some-clause-comes
returns-in-Some-clause-comes c =
    let fits : FitsSigned w32 c.in-Some.number = search rules in
    any_name c.args.body.now.heap (λ x. arg_next c.args.program.now (behind_at x c.args.body.now) (arg_at c.args.limits.now.args c.args.index.now)) c.go_on_with.new.body (Ok came.On)
    (ap (arg_next c.args.program.now (behind_at 0 c.args.body.now)) (sym c.arg_at.ensures ∙ c.in-Some.is) ∙ ap Goes (sym (simp to_z-of_z at c.go_on_with.ensures.stands)))

pub returns-in-None-clause-comes : goal.returns-in-None-clause-comes
returns-in-None-clause-comes c =
    name_by c.args.body.now.heap c.raise_called.new.body c.raise_called.result _ _ c.raise_called.ensures.comes
    (λ x. sym (ap (arg_next c.args.program.now (behind_at x c.args.body.now)) (sym c.arg_at.ensures ∙ c.in-None.is)))
