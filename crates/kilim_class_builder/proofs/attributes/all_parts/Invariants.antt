use Rattle.std.proofs.Common.{◌≡◌, ◌++◌, drop}
use Rattle.std.specs.List.{flat_map}
use Rattle.kilim_class_builder.specs.Members.{all_parts, parameter_parts}
use Rattle.kilim_class_builder.proofs.attributes.all_parts.Given as goal

abbrev pub invariant-loop-q : goal.invariant-loop-q
invariant-loop-q l = l.parts.items ++ flat_map (parameter_parts l.types.free l.types.cuttable l.types.safe) (drop l.q-index l.qs) ≡ all_parts l.types.free l.types.cuttable l.types.safe l.qs
