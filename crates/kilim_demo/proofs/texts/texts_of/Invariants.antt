use Rattle.std.proofs.Common.{◌≡◌, map, take}
use Rattle.kilim_class_file.specs.Text.{class_text}
use Rattle.kilim_demo.proofs.texts.texts_of.Given as goal

abbrev pub invariant-loop-file : goal.invariant-loop-file
invariant-loop-file l = l.texts ≡ map class_text (take l.file-index l.files)
