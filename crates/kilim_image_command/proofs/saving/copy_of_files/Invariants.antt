use Rattle.std.proofs.Common.{◌≡◌, take}
use Rattle.kilim_image_command.proofs.saving.copy_of_files.Given as goal

abbrev pub invariant-loop-file : goal.invariant-loop-file
invariant-loop-file l = l.copies ≡ take l.file-index l.files
