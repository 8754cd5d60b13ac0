use Rattle.std.proofs.Common.{◌≡◌, ◌++◌, map, take, option_map}
use Rattle.kilim_link_spec.specs.Types.{type_in}
use Rattle.kilim_link_spec.specs.Frames.{slot_of_type}
use Rattle.kilim_link_members.proofs.frames.begin.push_arguments.Given as goal

abbrev pub invariant-loop-text : goal.invariant-loop-text
invariant-loop-text l = l.into ≡ l.fn.into ++ map (λ f. option_map slot_of_type (type_in l.world f)) (take l.text-index l.params)
