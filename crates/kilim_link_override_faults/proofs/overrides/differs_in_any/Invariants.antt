use Rattle.std.proofs.Common.{◌≡◌, drop}
use Rattle.std.specs.List.{list_any}
use Rattle.kilim_link_override_faults.specs.Parts.{differs_in}
use Rattle.kilim_link_override_faults.proofs.overrides.differs_in_any.Given as goal

abbrev pub invariant-loop-above : goal.invariant-loop-above
invariant-loop-above l = list_any (differs_in l.world l.class l.method) (drop l.above-index l.ancestors) ≡ list_any (differs_in l.world l.class l.method) l.ancestors
