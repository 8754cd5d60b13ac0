use Rattle.std.proofs.Common.{◌≡◌, drop}
use Rattle.kilim_link_spec.specs.Types.{each_of}
use Rattle.kilim_link_spec.specs.Code.{place_of}
use Rattle.kilim_link_code.specs.Each.{behind}
use Rattle.kilim_link_code.proofs.places.places_of.Given as goal

abbrev pub invariant-loop-to : goal.invariant-loop-to
invariant-loop-to l = behind l.places (each_of place_of (drop l.to-index l.targets)) ≡ each_of place_of l.targets
