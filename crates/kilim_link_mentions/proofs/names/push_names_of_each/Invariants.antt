use Rattle.std.proofs.Common.{◌≡◌, ◌++◌, take}
use Rattle.std.specs.List.{flat_map}
use Rattle.kilim_link_spec.specs.Mentions.{names_mentioned}
use Rattle.kilim_link_mentions.proofs.names.push_names_of_each.Given as goal

abbrev pub invariant-loop-mention : goal.invariant-loop-mention
invariant-loop-mention l = l.into ≡ l.fn.into ++ flat_map names_mentioned (take l.mention-index l.mentions)
