use Rattle.kilim_fiber_spec.proofs.alike.AllRows.{rows_from}
use Rattle.kilim_fiber_spec.proofs.alike.rows_are_alike.Goals as goal

pub returns : goal.returns
returns c = λ set W marks form facts fiber shared pauses. rows_from set W marks form facts shared fiber pauses
