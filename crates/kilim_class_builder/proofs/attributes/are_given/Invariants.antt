use Rattle.std.proofs.Common.{◌≡◌, drop}
use Rattle.std.specs.List.{list_any}
use Rattle.kilim_class_builder.specs.Members.{is_given}
use Rattle.kilim_class_builder.proofs.attributes.are_given.Given as goal

abbrev pub invariant-loop-q : goal.invariant-loop-q
invariant-loop-q l = list_any is_given (drop l.q-index l.qs) ≡ list_any is_given l.qs
