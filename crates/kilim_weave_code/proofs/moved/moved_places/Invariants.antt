use Rattle.std.proofs.Common.{◌≡◌, map, take}
use Rattle.kilim_weave_pieces.specs.Places.{at_in}
use Rattle.kilim_weave_code.proofs.moved.moved_places.Given as goal

abbrev pub invariant-loop-target : goal.invariant-loop-target
invariant-loop-target l = l.all ≡ map (at_in l.fn.places) (take l.target-index l.fn.targets)
