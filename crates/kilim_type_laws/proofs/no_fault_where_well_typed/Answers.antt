use Rattle.kilim_type_laws.proofs.WithoutFault.{no_fault_where_well_typed}
use Rattle.kilim_type_laws.proofs.no_fault_where_well_typed.Goals as goal

pub returns : goal.returns
returns c = no_fault_where_well_typed
