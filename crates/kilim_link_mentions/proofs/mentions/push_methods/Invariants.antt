use Rattle.std.proofs.Common.{◌≡◌, ◌++◌, take}
use Rattle.std.specs.List.{flat_map}
use Rattle.kilim_link_spec.specs.Mentions.{mentions_of_method}
use Rattle.kilim_link_mentions.proofs.mentions.push_methods.Given as goal

abbrev pub invariant-loop-method : goal.invariant-loop-method
invariant-loop-method l = l.into ≡ l.fn.into ++ flat_map (mentions_of_method l.file) (take l.method-index l.methods)
