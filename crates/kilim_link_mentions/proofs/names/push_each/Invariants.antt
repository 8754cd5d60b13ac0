use Rattle.std.proofs.Common.{◌≡◌, ◌++◌, take}
use Rattle.std.specs.List.{flat_map}
use Rattle.kilim_link_spec.specs.Types.{type_names}
use Rattle.kilim_link_mentions.proofs.names.push_each.Given as goal

abbrev pub invariant-loop-found : goal.invariant-loop-found
invariant-loop-found l = l.into ≡ l.fn.into ++ flat_map type_names (take l.found-index l.types)
