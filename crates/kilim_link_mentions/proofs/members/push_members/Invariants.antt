use Rattle.std.proofs.Common.{◌≡◌, ◌++◌, take}
use Rattle.std.specs.List.{flat_map}
use Rattle.kilim_link_spec.specs.Mentions.{members_of_operand, operand_of}
use Rattle.kilim_link_mentions.proofs.members.push_members.Given as goal

abbrev pub invariant-loop-instr : goal.invariant-loop-instr
invariant-loop-instr l = l.into ≡ l.fn.into ++ flat_map (λ p. members_of_operand (operand_of l.pool p.1)) (take l.instr-index l.instrs)
