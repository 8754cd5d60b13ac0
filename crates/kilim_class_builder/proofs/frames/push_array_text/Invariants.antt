use Rattle.std.proofs.Common.{◌≡◌, ◌++◌, ◌-◌}
use Rattle.kilim_program.specs.Names.{array_descriptor}
use Rattle.kilim_class_builder.specs.Frames.{base_text}
use Rattle.kilim_class_builder.proofs.frames.push_array_text.Given as goal

abbrev pub invariant-loop : goal.invariant-loop
invariant-loop l = l.out.items ++ array_descriptor (l.ty.dims - l.counter) (base_text l.pool l.ty.base) ≡ l.fn.out.items ++ array_descriptor l.ty.dims (base_text l.pool l.ty.base)
