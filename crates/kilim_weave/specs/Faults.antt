-- The methods that can't be woven (own).
use Rattle.std.specs.Prelude.{ℕ, Bool, true, false, ◌||◌, ◌&&◌, nat_lt, List, [], ◌∷◌, Option, Some, None, length}
use Rattle.kilim_class_mutf8.specs.Spelling.{spelling}
use Rattle.kilim_program.specs.declared.class.Method.{Method}
use Rattle.kilim_program.specs.declared.names.MethodId.{MethodId}
use Rattle.kilim_program.specs.Names.{method_at}
use Rattle.kilim_program.specs.Program.{Program}
use Rattle.kilim_program.specs.Same.{argument_slots}
use Rattle.kilim_link_spec.specs.World.{method_descriptor}
use Rattle.kilim_isolation_pauses.specs.Pausing.{all_methods}
use Rattle.kilim_weave_spec.specs.Form.{has_calls}
use Rattle.kilim_weave_spec.specs.Weight.{weight}
use Rattle.kilim_weave.specs.declared.fault.WeaveFault.{WeaveFault}
use Rattle.kilim_weave.specs.declared.fault.WeaveFault.TheVariants.{TooLong, ArgumentsFull}

-- a method with pausable calls, whose woven code might be so long that a jump doesn't reach each place of it
abbrev pub is_too_long : Program → Method → Bool
is_too_long p m = has_calls p m && nat_lt 32767 (weight p m)

-- a pausable method, to whose arguments the fiber can't be added: by their slots, or by the bytes of its descriptor
abbrev pub is_full : Program → Method → Bool
is_full p m = m.pausable && (nat_lt 254 (argument_slots m) || nat_lt 65522 (length (spelling (method_descriptor p m))))

-- of both faults the lower
abbrev pub fault_if : (is_too_long is_full : Bool) → MethodId → ℕ → Option WeaveFault
fault_if true full id weight = Some (TooLong id weight)
fault_if false true id weight = Some (ArgumentsFull id)
fault_if false false id weight = None

abbrev pub fault_of_method : Program → MethodId → Method → Option WeaveFault
fault_of_method p id m = fault_if (is_too_long p m) (is_full p m) id (weight p m)

abbrev pub fault_if_there : Program → MethodId → Option Method → Option WeaveFault
fault_if_there p id None = None
fault_if_there p id (Some m) = fault_of_method p id m

abbrev pub fault_of : Program → MethodId → Option WeaveFault
fault_of p id = fault_if_there p id (method_at p id)

abbrev pub or_later : Option WeaveFault → Option WeaveFault → Option WeaveFault
or_later None later = later
or_later (Some fault) later = Some fault

abbrev pub first_fault : Program → List MethodId → Option WeaveFault
first_fault p [] = None
first_fault p (id ∷ ids) = or_later (fault_of p id) (first_fault p ids)

-- the first, by class and then by number
abbrev pub weave_fault : Program → Option WeaveFault
weave_fault p = first_fault p (all_methods p)
