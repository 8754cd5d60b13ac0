-- The kinds of entries that the code counts.
use Rattle.std.specs.Prelude.{Bool}
use Rattle.kilim_run_journal.specs.declared.entry.Act.{Act}
use Rattle.kilim_command.specs.declared.line.Kind.{Kind}
use Rattle.kilim_command.specs.declared.line.Kind.TheVariants as kind
use Rattle.kilim_command.specs.DemoLine.{is_print, is_put, is_start, is_take}

abbrev pub is_of : Kind → Act → Bool
is_of kind.Start act = is_start act
is_of kind.Put act = is_put act
is_of kind.Take act = is_take act
is_of kind.Print act = is_print act
