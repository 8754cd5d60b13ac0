use Rattle.std.proofs.Common.{◌∙◌, ap}
use Rattle.kilim_type_spec.specs.TypedProgram.{TypedProgram}
use Rattle.kilim_weave.specs.Faults.{weave_fault}
use Rattle.kilim_weave.proofs.weaving.fault_of_typed.Goals as goal

pub returns : goal.returns
returns c = c.in_ok-fault.ensures ∙ ap (λ (t : TypedProgram). weave_fault t.program) c.typed.view_is
