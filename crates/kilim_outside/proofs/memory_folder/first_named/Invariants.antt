use Rattle.std.proofs.Common.{◌≡◌, drop, nat_eq}
use Rattle.std.specs.Prelude.{find}
use Rattle.std.specs.Cmp.Lexicographic.{pointwise}
use Rattle.kilim_outside.proofs.memory_folder.first_named.Given as goal

abbrev pub invariant-loop-file : goal.invariant-loop-file
invariant-loop-file l = find (λ file. pointwise nat_eq l.name file.name) (drop l.file-index l.files) ≡ find (λ file. pointwise nat_eq l.name file.name) l.files
