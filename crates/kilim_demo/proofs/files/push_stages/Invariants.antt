use Rattle.std.proofs.Common.{◌≡◌, ◌++◌, ◌+◌, drop}
use Rattle.kilim_demo.specs.Demo.{stage_files}
use Rattle.kilim_demo.proofs.files.push_stages.Given as goal

abbrev pub invariant-loop-index : goal.invariant-loop-index
invariant-loop-index l = l.files.items ++ stage_files (l.index + 1) l.messages (drop l.index l.stages) ≡ l.fn.files.items ++ stage_files 1 l.messages l.stages
