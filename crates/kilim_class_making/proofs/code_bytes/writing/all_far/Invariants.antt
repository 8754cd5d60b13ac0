use Rattle.std.proofs.Common.{drop}
use Rattle.std.specs.Int.{w32}
use Rattle.std.specs.List.{AllByRecursion}
use Rattle.kilim_class_code.specs.opcodes.Instr.{TargetFits}
use Rattle.kilim_class_making.proofs.code_bytes.writing.all_far.Given as goal

abbrev pub invariant-loop-to : goal.invariant-loop-to
invariant-loop-to l = AllByRecursion (TargetFits w32 l.at) (drop l.to-index l.targets) → AllByRecursion (TargetFits w32 l.at) l.targets
