use Rattle.std.proofs.Common.{◌≡◌, ◌++◌, ◌-◌}
use Rattle.kilim_program.specs.Names.{array_descriptor, base_descriptor}
use Rattle.kilim_link_views.proofs.built_in.push_type.Given as goal

abbrev pub invariant-loop : goal.invariant-loop
invariant-loop l = l.text.items ++ array_descriptor (l.ty.dims - l.counter) (base_descriptor l.program l.ty.base) ≡ l.fn.text.items ++ array_descriptor l.ty.dims (base_descriptor l.program l.ty.base)
