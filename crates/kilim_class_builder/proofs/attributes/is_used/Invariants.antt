use Rattle.std.proofs.Common.{◌≡◌, drop}
use Rattle.std.specs.List.{list_any}
use Rattle.kilim_class_builder.specs.Members.{is_some_of}
use Rattle.kilim_class_builder.proofs.attributes.is_used.Given as goal

abbrev pub invariant-loop-other : goal.invariant-loop-other
invariant-loop-other l = list_any (is_some_of l.q) (drop l.other-index l.qs) ≡ list_any (is_some_of l.q) l.qs
