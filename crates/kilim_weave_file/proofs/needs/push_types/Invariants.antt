use Rattle.std.proofs.Common.{◌≡◌, ◌++◌, drop}
use Rattle.std.specs.List.{flat_map}
use Rattle.kilim_weave_file_spec.specs.FullFrames.{type_needs}
use Rattle.kilim_weave_file.proofs.needs.push_types.Given as goal

abbrev pub invariant-loop-ty : goal.invariant-loop-ty
invariant-loop-ty l = l.into ++ flat_map (type_needs l.program) (drop l.ty-index l.types) ≡ l.fn.into ++ flat_map (type_needs l.program) l.types
