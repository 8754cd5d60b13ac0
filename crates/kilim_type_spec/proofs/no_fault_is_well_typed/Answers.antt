use Rattle.kilim_type_spec.proofs.FromFaults.{no_fault_is_well_typed}
use Rattle.kilim_type_spec.proofs.no_fault_is_well_typed.Goals as goal

pub returns : goal.returns
returns c = no_fault_is_well_typed
