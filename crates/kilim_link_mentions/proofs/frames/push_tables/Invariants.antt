use Rattle.std.proofs.Common.{◌≡◌, ◌++◌, take}
use Rattle.std.specs.List.{flat_map}
use Rattle.kilim_link_spec.specs.Frames.{table_in}
use Rattle.kilim_link_spec.specs.Mentions.{mentions_of_slot, slots_of_frame}
use Rattle.kilim_link_mentions.proofs.frames.push_tables.Given as goal

abbrev pub invariant-loop-attribute : goal.invariant-loop-attribute
invariant-loop-attribute l = l.into ≡ l.fn.into ++ flat_map (λ f. flat_map (mentions_of_slot l.pool) (slots_of_frame f)) (flat_map (λ a. table_in a.info) (take l.attribute-index l.attributes))
