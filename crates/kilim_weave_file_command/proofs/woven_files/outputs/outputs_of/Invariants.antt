use Rattle.std.proofs.Common.{take}
use Rattle.kilim_weave_file_command.specs.woven_files.WovenFiles.{AreOutputs}
use Rattle.kilim_weave_file_command.proofs.woven_files.outputs.outputs_of.Given as goal

abbrev pub invariant-loop-at : goal.invariant-loop-at
invariant-loop-at l = AreOutputs l.program l.program.classes (take l.at l.files) l.outputs
