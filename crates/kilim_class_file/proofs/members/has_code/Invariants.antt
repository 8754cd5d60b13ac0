use Rattle.std.proofs.Common.{◌≡◌, drop}
use Rattle.kilim_class_file.specs.Parts.{has_code}
use Rattle.kilim_class_file.proofs.members.has_code.Given as goal

abbrev pub invariant-loop-attribute : goal.invariant-loop-attribute
invariant-loop-attribute l = has_code (drop l.attribute-index l.attributes) ≡ has_code l.attributes
