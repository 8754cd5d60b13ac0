use Rattle.std.proofs.Common.{◌≡◌, ◌+◌, ◌≤◌, drop}
use Rattle.std.specs.Prelude.{count_by}
use Rattle.kilim_program.specs.Names.{method_at}
use Rattle.kilim_weave_file_command.specs.woven_files.WovenFiles.{can_pause, pausables_of}
use Rattle.kilim_weave_file_command.proofs.woven_files.outputs.pausables_of.Given as goal

abbrev pub invariant-loop-id : goal.invariant-loop-id
invariant-loop-id l = (l.count + count_by (λ id. can_pause (method_at l.program id)) (drop l.id-index l.class.methods) ≡ pausables_of l.program l.class) × (l.count ≤ l.id-index)
