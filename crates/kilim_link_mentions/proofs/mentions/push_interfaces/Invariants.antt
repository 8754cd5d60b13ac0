use Rattle.std.proofs.Common.{◌≡◌, ◌++◌, map, take}
use Rattle.kilim_link_spec.specs.declared.named.Mention.TheVariants.{OfClass}
use Rattle.kilim_link_spec.specs.declared.named.Named.TheVariants.{AClass}
use Rattle.kilim_link_spec.specs.World.{class_text}
use Rattle.kilim_link_mentions.proofs.mentions.push_interfaces.Given as goal

abbrev pub invariant-loop-index : goal.invariant-loop-index
invariant-loop-index l = l.into ≡ l.fn.into ++ map (λ name. OfClass (AClass name)) (map (class_text l.pool) (take l.index-index l.interfaces))
