-- What the rows of the shape graphs rest on, from what every program keeps.
use Rattle.kilim_program.specs.Program.{Program}
use Rattle.kilim_program.specs.Keeps.{Keeps}
use Rattle.kilim_isolation_laws.specs.graph_rows.Facts.{ProgramKeeps}

abbrev pub ProgramsKeep : Type 0
ProgramsKeep = (p : Program) → Keeps p → ProgramKeeps p
