use Rattle.kilim_type_spec.proofs.SameTypes.{flows_as_same, own_kinds}
use Rattle.kilim_type_spec.proofs.flows.assignable.Goals as goal

pub returns-in-Int : goal.returns-in-Int
returns-in-Int c = flows_as_same c.args.program.now c.args.from.now c.args.to.now c.is_same.result c.is_same.ensures (own_kinds c.args.to.now c.in-Int.is)
