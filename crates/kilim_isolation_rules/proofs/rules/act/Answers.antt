use Rattle.std.proofs.Common.{◌∙◌, List, ap, sym}
use Rattle.kilim_program.specs.declared.verified.VType.{VType}
use Rattle.kilim_isolation_rules.specs.declared.action.Action.{Action}
use Rattle.kilim_isolation_rules.specs.Actions.{cast, deed_by}
use Rattle.kilim_isolation_rules.proofs.rules.act.Goals as goal

pub returns-in-Casts : goal.returns-in-Casts
returns-in-Casts c f same =
    c.casts.ensures c.args.graph.now
    ∙ (ap (λ (ts : List VType). cast c.args.program.now c.args.graph.now ts c.in-Casts.ty) (sym same)
    ∙ ap (λ (a : Action). deed_by c.args.program.now c.args.method.now c.args.graph.now f a) (sym c.in-Casts.is))
