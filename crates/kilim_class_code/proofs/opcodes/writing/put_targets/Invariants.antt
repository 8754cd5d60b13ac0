use Rattle.std.proofs.Common.{◌≡◌, ◌++◌, take}
use Rattle.std.specs.Int.{w32}
use Rattle.std.specs.List.{flat_map}
use Rattle.kilim_class_code.specs.opcodes.Instr.{target_text}
use Rattle.kilim_class_code.proofs.opcodes.writing.put_targets.Given as goal

abbrev pub invariant-loop-to : goal.invariant-loop-to
invariant-loop-to l = l.into.items ≡ l.fn.into.items ++ flat_map (target_text w32 l.at) (take l.to-index l.targets)
