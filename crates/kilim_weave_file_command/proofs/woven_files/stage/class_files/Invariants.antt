use Rattle.std.proofs.Common.{take}
use Rattle.kilim_stages.specs.ProgramOf.{AreFiles}
use Rattle.kilim_weave_file_command.proofs.woven_files.stage.class_files.Given as goal

abbrev pub invariant-loop-i : goal.invariant-loop-i
invariant-loop-i l = AreFiles (take l.i l.files) l.classes
