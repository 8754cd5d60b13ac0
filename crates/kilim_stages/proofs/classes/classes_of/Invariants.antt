use Rattle.std.proofs.Common.{◌≡◌, map, take, drop}
use Rattle.std.specs.String.{string_bytes}
use Rattle.kilim_stages.specs.Reports.{first_fault}
use Rattle.kilim_stages.specs.ProgramOf.{AreFiles}
use Rattle.kilim_stages.proofs.classes.classes_of.Given as goal

abbrev pub invariant-loop-i : goal.invariant-loop-i
invariant-loop-i l = record {
  so_far : AreFiles (take l.i l.files) l.classes;
  others : first_fault (map string_bytes (drop l.i l.names)) (drop l.i l.files) ≡ first_fault (map string_bytes l.names) l.files;
}
