use Rattle.std.proofs.Common.{◌≡◌, drop}
use Rattle.std.specs.List.{list_any}
use Rattle.kilim_link_override_faults.specs.Parts.{stands_in}
use Rattle.kilim_link_override_faults.proofs.abstracts.stands_in_any.Given as goal

abbrev pub invariant-loop-class : goal.invariant-loop-class
invariant-loop-class l = list_any (stands_in l.world l.signature.name l.signature.descriptor) (drop l.class-index l.classes) ≡ list_any (stands_in l.world l.signature.name l.signature.descriptor) l.classes
