use Rattle.std.proofs.Common.{◌∙◌, ap, sym}
use Rattle.kilim_isolation_graph.specs.declared.graph.Graph.{Graph}
use Rattle.kilim_isolation_rules.specs.declared.action.Action.{Action}
use Rattle.kilim_isolation_rules.specs.Actions.{deed_by}
use Rattle.kilim_isolation_rules.proofs.Acting.{acts}
use Rattle.kilim_isolation_rules.proofs.rules.deed_of.Goals as goal

pub returns-in-Ok-act : goal.returns-in-Ok-act
returns-in-Ok-act c f same =
    c.as_deed.ensures
    ∙ (c.in-Ok-act.ensures f same
    ∙ (ap (λ (g : Graph). deed_by c.args.program.now c.args.method.now g f c.action_of.result) c.in-Ok.ensures
    ∙ (ap (λ (a : Action). deed_by c.args.program.now c.args.method.now c.args.graph.now f a) c.action_of.ensures ∙ sym (acts c.args.program.now c.args.method.now c.args.graph.now f c.args.instr.now))))
