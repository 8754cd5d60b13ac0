use Rattle.std.proofs.Common.{◌≡◌, ◌++◌, take}
use Rattle.std.specs.List.{flat_map}
use Rattle.kilim_link_spec.specs.Mentions.{mentions_of_slot, slots_of_frame}
use Rattle.kilim_link_mentions.proofs.frames.push_each_frame.Given as goal

abbrev pub invariant-loop-frame : goal.invariant-loop-frame
invariant-loop-frame l = l.into ≡ l.fn.into ++ flat_map (λ f. flat_map (mentions_of_slot l.pool) (slots_of_frame f)) (take l.frame-index l.frames)
