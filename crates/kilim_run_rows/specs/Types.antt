-- What a reference refers to.
use Rattle.std.specs.Prelude.{Bool, true, false, is_some, Option, Some, None, codes}
use Rattle.std.specs.FinMap.{get}
use Rattle.kilim_program.specs.declared.ty.Ty.{Ty}
use Rattle.kilim_program.specs.declared.value.Value.{Value}
use Rattle.kilim_program.specs.declared.value.Value.TheVariants.{Int, Long, Null, Ref, Text, Box, Fiber}
use Rattle.kilim_program.specs.Program.{Program}
use Rattle.kilim_run_state.specs.declared.value.Object.{Object}
use Rattle.kilim_run_state.specs.Machine.{Objects}
use Rattle.kilim_program.specs.Members.{named_type}

-- a reference, to an object that is in the heap where it is to one
abbrev pub is_found : Value → Objects → Bool
is_found (Int x) heap = false
is_found (Long x) heap = false
is_found Null heap = true
is_found (Ref n) heap = is_some (get heap n)
is_found (Text units) heap = true
is_found (Box box) heap = true
is_found Fiber heap = true

abbrev pub class_of : Option Object → Option (Option Ty)
class_of None = None
class_of (Some object) = Some (Some object.class)

-- the class or array type of what a reference refers to, none of null; nothing of what is no reference
abbrev pub type_at : Program → Value → Objects → Option (Option Ty)
type_at p (Int x) heap = None
type_at p (Long x) heap = None
type_at p Null heap = Some None
type_at p (Ref n) heap = class_of (get heap n)
type_at p (Text units) heap = Some (named_type p (codes "java/lang/String"))
type_at p (Box box) heap = Some (named_type p (codes "kilim/Mailbox"))
type_at p Fiber heap = Some (named_type p (codes "kilim/Fiber"))
