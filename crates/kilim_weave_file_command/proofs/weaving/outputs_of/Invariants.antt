use Rattle.std.proofs.Common.{◌≡◌, map}
use Rattle.kilim_weave_file_command.specs.Weaving.{output_of}
use Rattle.kilim_weave_file_command.proofs.weaving.outputs_of.Given as goal

abbrev pub invariant-loop-file : goal.invariant-loop-file
invariant-loop-file l = l.outputs ≡ map (output_of l.to) l.yielded
