use Rattle.std.proofs.Common.{◌∙◌, ap}
use Rattle.kilim_weave_spec.specs.Weight.{calls_in}
use Rattle.kilim_weave.proofs.Searching.{method_fault}
use Rattle.kilim_weave.proofs.faults.fault_of_method.Goals as goal

pub returns : goal.returns
returns c =
    method_fault c.args.program.now c.args.method.now c.args.id c.in-Ok.calls c.in-Ok-weight.weight c.is_too_long-too_long.result c.in-Ok-is_full.full c.fault_if-fault.result (c.in-Ok.ensures ∙ ap (calls_in c.args.program.now) c.as_slice.ensures) c.in-Ok-weight.ensures c.is_too_long-too_long.ensures c.in-Ok-is_full.ensures c.fault_if-fault.ensures
