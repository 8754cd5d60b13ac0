use Rattle.std.proofs.Common.{◌≡◌, drop}
use Rattle.std.specs.List.{list_any}
use Rattle.kilim_link_spec.specs.World.{declared_methods}
use Rattle.kilim_link_override_faults.specs.Parts.{other_differs, passes_at}
use Rattle.kilim_link_override_faults.proofs.overrides.differs_at_any.Given as goal

abbrev pub invariant-loop-place : goal.invariant-loop-place
invariant-loop-place l =
    list_any (passes_at (other_differs l.world l.class l.method l.above) (declared_methods l.world l.above)) (drop l.place-index l.places)
    ≡ list_any (passes_at (other_differs l.world l.class l.method l.above) (declared_methods l.world l.above)) l.places
