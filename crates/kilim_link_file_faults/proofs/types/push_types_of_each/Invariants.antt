use Rattle.std.proofs.Common.{◌≡◌, ◌++◌, map, take}
use Rattle.std.specs.List.{flat_map}
use Rattle.kilim_link_spec.specs.Mentions.{types_mentioned}
use Rattle.kilim_link_file_faults.specs.Shapes.{shape_of}
use Rattle.kilim_link_file_faults.proofs.types.push_types_of_each.Given as goal

abbrev pub invariant-loop-mention : goal.invariant-loop-mention
invariant-loop-mention l = l.into.items ≡ l.fn.into.items ++ flat_map (λ m. map shape_of (types_mentioned m)) (take l.mention-index l.mentions)
