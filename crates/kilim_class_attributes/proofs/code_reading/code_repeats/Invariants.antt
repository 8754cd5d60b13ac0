use Rattle.std.proofs.Common.{◌≡◌, drop}
use Rattle.kilim_class_attributes.specs.Codes.{code_repeats}
use Rattle.kilim_class_attributes.proofs.code_reading.code_repeats.Given as goal

abbrev pub invariant-loop-attribute : goal.invariant-loop-attribute
invariant-loop-attribute l = code_repeats l.form (drop l.attribute-index l.before) ≡ code_repeats l.form l.before
