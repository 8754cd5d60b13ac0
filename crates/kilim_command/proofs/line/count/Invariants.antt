use Rattle.std.proofs.Common.{◌≡◌, ◌≤◌, take}
use Rattle.kilim_command.specs.Kinds.{is_of}
use Rattle.kilim_command.specs.DemoLine.{how_many}
use Rattle.kilim_command.proofs.line.count.Given as goal

abbrev pub invariant-loop-entry : goal.invariant-loop-entry
invariant-loop-entry l = record {
  count : l.found ≡ how_many (is_of l.kind) (take l.entry-index l.journal);
  few : l.found ≤ l.entry-index;
}
