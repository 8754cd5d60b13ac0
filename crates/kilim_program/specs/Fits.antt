-- Which type fits which (JVMS 4.10.1.2 and 5.1): whether a reference to an object or an array of the one may stand where
-- the other is declared. Verification asks it of what flows, `checkcast`, `instanceof` and `aastore` of what is there.
use Rattle.std.specs.Prelude.{ℕ, zero, suc, Bool, true, false, ◌||◌, ◌&&◌, ◌==◌, List, codes}
use Rattle.std.specs.List.{list_any}
use Rattle.std.specs.Str.{bytes_eq}
use Rattle.kilim_program.specs.declared.names.ClassId.{ClassId}
use Rattle.kilim_program.specs.declared.ty.Base.{Base}
use Rattle.kilim_program.specs.declared.ty.Base.TheVariants as base
use Rattle.kilim_program.specs.declared.ty.Ty.{Ty}
use Rattle.kilim_program.specs.Program.{Program}
use Rattle.kilim_program.specs.Names.{line_of, class_name}
use Rattle.kilim_program.specs.Kinds.{is_message}
use Rattle.kilim_program.specs.Same.{same_base}

abbrev pub is_named : Program → List ℕ → ClassId → Bool
is_named p name c = bytes_eq (class_name p c) name

abbrev pub is_reference_base : Base → Bool
is_reference_base (base.Class c) = true
is_reference_base b = false

-- a class to itself and its superclasses, every class to `java/lang/Object`, an implementer to `kilim/Message`
abbrev pub class_assignable : Program → ClassId → ClassId → Bool
class_assignable p a b =
    list_any (λ c. c.0 == b.0) (line_of p a)
    || (is_named p (codes "java/lang/Object") b
    || (is_named p (codes "kilim/Message") b && list_any (is_message p) (line_of p a)))

-- a primitive type to itself alone
abbrev pub base_assignable : Program → Base → Base → Bool
base_assignable p (base.Class a) (base.Class b) = class_assignable p a b
base_assignable p a b = same_base a b

abbrev pub is_object_base : Program → Base → Bool
is_object_base p (base.Class b) = is_named p (codes "java/lang/Object") b
is_object_base p b = false

-- Types by their dimensions and bases: an array to an array of what its elements are assignable to, and to
-- `java/lang/Object`.
abbrev pub type_assignable : Program → ℕ → Base → ℕ → Base → Bool
type_assignable p zero a zero b = base_assignable p a b
type_assignable p zero a (suc n) b = false
type_assignable p (suc m) a zero b = is_object_base p b
type_assignable p (suc m) a (suc n) b = type_assignable p m a n b

unfoldable pub fits_type : Program → Ty → Ty → Bool
fits_type p a b = type_assignable p a.dims a.base b.dims b.base
