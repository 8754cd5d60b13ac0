use Rattle.std.proofs.Common.{◌≡◌, map, take}
use Rattle.std.specs.String.{string_bytes}
use Rattle.kilim_command.specs.Reads.{WereRead}
use Rattle.kilim_command.proofs.inputs.read_all.Given as goal

abbrev pub invariant-loop-name : goal.invariant-loop-name
invariant-loop-name g l = record {
  read : WereRead (g.F.Folder.contents l.fn.files) (map string_bytes (take l.name-index l.names)) l.read;
  contents : g.F.Folder.contents l.files ≡ g.F.Folder.contents l.fn.files;
  faults : g.F.Folder.faults l.files ≡ g.F.Folder.faults l.fn.files;
}
