use Rattle.std.proofs.Common.{◌≡◌, ◌++◌, take}
use Rattle.std.specs.List.{flat_map}
use Rattle.kilim_class_code.specs.opcodes.Instr.{pair_text}
use Rattle.kilim_class_code.proofs.opcodes.writing.put_pairs.Given as goal

abbrev pub invariant-loop-pair : goal.invariant-loop-pair
invariant-loop-pair l = l.into.items ≡ l.fn.into.items ++ flat_map (pair_text l.at) (take l.pair-index l.pairs)
