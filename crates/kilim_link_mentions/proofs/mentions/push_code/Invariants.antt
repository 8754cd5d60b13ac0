use Rattle.std.proofs.Common.{◌≡◌, ◌++◌, take}
use Rattle.std.specs.List.{flat_map}
use Rattle.kilim_link_spec.specs.Mentions.{mentions_of_instr}
use Rattle.kilim_link_mentions.proofs.mentions.push_code.Given as goal

abbrev pub invariant-loop-instr : goal.invariant-loop-instr
invariant-loop-instr l = l.into ≡ l.fn.into ++ flat_map (λ p. mentions_of_instr l.pool p.1) (take l.instr-index l.instrs)
