use Rattle.std.proofs.Common.{◌≡◌, drop}
use Rattle.kilim_type_spec.specs.Parts.{joined}
use Rattle.kilim_type_spec.proofs.shared.are_of.Given as goal

abbrev pub invariant-loop-part : goal.invariant-loop-part
invariant-loop-part l = joined (drop l.part-index l.parts) ≡ l.left → joined l.parts ≡ l.types
