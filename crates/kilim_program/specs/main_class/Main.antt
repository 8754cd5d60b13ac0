-- The main class of a run, by its name.
use Rattle.std.specs.Prelude.{ℕ, Bool, if◌then◌else◌, List, Option, Some, None}
use Rattle.kilim_program.specs.declared.names.ClassId.{ClassId}
use Rattle.kilim_program.specs.declared.names.MethodId.{MethodId}
use Rattle.kilim_program.specs.Names.{◌>>=◌, class_named, method_at}
use Rattle.kilim_program.specs.Program.{Program}
use Rattle.kilim_program.specs.Members.{is_fit_main, is_own_constructor}

abbrev pub if_fit : Program → Option ClassId → Option ClassId
if_fit p None = None
if_fit p (Some c) = if is_fit_main p c then Some c else None

-- the class of that name, the first one where there were several, if it is fit to be the main class
abbrev pub fit_class_named : Program → List ℕ → Option ClassId
fit_class_named p name = if_fit p (class_named p name)

-- the constructor, if there is one, is of the files and isn't static
abbrev pub own_in : Program → Option MethodId → Bool
own_in p o = is_own_constructor (o >>= method_at p)
