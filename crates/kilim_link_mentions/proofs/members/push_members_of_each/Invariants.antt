use Rattle.std.proofs.Common.{◌≡◌, ◌++◌, take}
use Rattle.std.specs.List.{flat_map}
use Rattle.kilim_link_spec.specs.Mentions.{instrs_of, members_of_operand, operand_of}
use Rattle.kilim_link_mentions.proofs.members.push_members_of_each.Given as goal

abbrev pub invariant-loop-method : goal.invariant-loop-method
invariant-loop-method l = l.into ≡ l.fn.into ++ flat_map (λ m. flat_map (λ p. members_of_operand (operand_of l.pool p.1)) (instrs_of m)) (take l.method-index l.methods)
