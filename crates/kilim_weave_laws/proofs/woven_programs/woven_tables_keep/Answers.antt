use Rattle.kilim_weave_laws.proofs.woven_programs.Tables.{woven_tables}
use Rattle.kilim_weave_laws.proofs.woven_programs.woven_tables_keep.Goals as goal

pub returns : goal.returns
returns c = woven_tables
