use Rattle.std.proofs.Common.{◌≡◌, map, take}
use Rattle.kilim_weave_spec.specs.Woven.{moved_type}
use Rattle.kilim_weave_pieces.specs.Places.{at_in}
use Rattle.kilim_weave_code.proofs.frames.moved_types.Given as goal

abbrev pub invariant-loop-at : goal.invariant-loop-at
invariant-loop-at l = l.moved.items ≡ map (moved_type (at_in l.fn.places)) (take l.at l.fn.types)
