use Rattle.std.proofs.Common.{◌≡◌, take}
use Rattle.kilim_type_spec.specs.Parts.{joined}
use Rattle.kilim_type_spec.proofs.shared.SharedTypes.types.Given as goal

abbrev pub invariant-loop-part : goal.invariant-loop-part
invariant-loop-part l = l.types.items ≡ joined (take l.part-index l.parts)
