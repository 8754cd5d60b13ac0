use Rattle.std.proofs.Common.{◌≡◌, ◌+◌, ◌++◌, drop, length, map}
use Rattle.std.specs.String.{string_bytes}
use Rattle.kilim_image_command.specs.Programs.{names_from}
use Rattle.kilim_image_command.proofs.programs.numbered.Given as goal

abbrev pub invariant-loop-at : goal.invariant-loop-at
invariant-loop-at l = record {
  names : map string_bytes l.names.items ++ names_from (l.at + 1) (drop l.at l.files) ≡ names_from 1 l.files;
  many : length l.names.items ≡ l.at;
}
