use Rattle.std.proofs.Common.{◌≡◌, ◌++◌, take}
use Rattle.std.specs.List.{flat_map}
use Rattle.kilim_program.specs.Names.{descriptor}
use Rattle.kilim_link_views.proofs.built_in.push_types.Given as goal

abbrev pub invariant-loop-ty : goal.invariant-loop-ty
invariant-loop-ty l = l.text.items ≡ l.fn.text.items ++ flat_map (descriptor l.program) (take l.ty-index l.types)
