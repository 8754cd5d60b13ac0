use Rattle.kilim_weave_laws.proofs.woven_programs.Handled.{none_pauses_with_table}
use Rattle.kilim_weave_laws.proofs.woven_programs.none_pauses_with_table.Goals as goal

pub returns : goal.returns
returns c = none_pauses_with_table
