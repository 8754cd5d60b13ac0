use Rattle.std.proofs.Common.{[], Ok, not, Bool, ap, sym, ◌∙◌, rules}
use Rattle.kilim_type_spec.specs.Step.{Types, rule}
use Rattle.kilim_type_step.specs.Operands.{furthers_of}
use Rattle.kilim_type_step.proofs.Rows.{further_breaks, further_holds, passes_two}
use Rattle.kilim_type_step.proofs.apply.leave.Goals as goal

pub returns-in-Some : goal.returns-in-Some
returns-in-Some c =
    passes_two _ _ _ _ (sym c.if-not-has_operands.ensures) (sym c.if-not-all_meet.ensures)
    (further_breaks c.args.program.now (furthers_of c.args.also.now) c.args.state.now.stack _ c.in-Some.rule (sym c.in-Some.ensures))

pub returns-then-leaves_unset : goal.returns-then-leaves_unset
returns-then-leaves_unset c =
    passes_two _ _ _ _ (sym c.if-not-has_operands.ensures) (sym c.if-not-all_meet.ensures)
    (further_holds c.args.program.now (furthers_of c.args.also.now) c.args.state.now.stack _ (search rules) ∙ ap (λ (b : Bool). rule 11 (not b) (Ok (record c.args.state.now { stack = [] }))) (sym c.if-leaves_unset.ensures))

pub returns : goal.returns
returns c =
    passes_two _ _ _ _ (sym c.if-not-has_operands.ensures) (sym c.if-not-all_meet.ensures)
    (further_holds c.args.program.now (furthers_of c.args.also.now) c.args.state.now.stack _ (search rules)
    ∙ ap (λ (b : Bool). rule 11 (not b) (Ok (record c.args.state.now { stack = [] }))) (sym c.if-leaves_unset.ensures) ∙ ap (λ (f : Types). Ok f) (sym c.clear.ensures))
