use Rattle.kilim_run_journal.proofs.Preorder.{shapes_are_values}
use Rattle.kilim_run_journal.proofs.lines.shapes_are_values.Goals as goal

pub returns : goal.returns
returns c = shapes_are_values
