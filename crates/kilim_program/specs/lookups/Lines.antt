-- Words for walks along superclasses.
use Rattle.std.specs.Prelude.{ℕ, Option}
use Rattle.std.specs.List.{flat_map}
use Rattle.kilim_program.specs.declared.class.Method.{Method}
use Rattle.kilim_program.specs.declared.names.ClassId.{ClassId}
use Rattle.kilim_program.specs.declared.names.MethodId.{MethodId}
use Rattle.kilim_program.specs.Program.{Program}
use Rattle.kilim_program.specs.Names.{first_that, line_up_to, method_at, methods_of}
use Rattle.kilim_program.specs.Same.{answers}

-- the method that is selected among those of so many classes, from one up
abbrev pub selected_of : Program → Method → ℕ → ClassId → Option MethodId
selected_of p named most c = first_that (λ m. answers named (method_at p m)) (flat_map (methods_of p) (line_up_to p most c))
