use Rattle.std.proofs.Common.{◌≡◌, take, length}
use Rattle.std.specs.List.{flat_map}
use Rattle.std.specs.Int.{w32}
use Rattle.kilim_image.specs.Text.{block}
use Rattle.kilim_image.proofs.writing.size_of_files.Given as goal

abbrev pub invariant-loop-file : goal.invariant-loop-file
invariant-loop-file l = l.size ≡ length (flat_map (block w32) (take l.file-index l.files))
