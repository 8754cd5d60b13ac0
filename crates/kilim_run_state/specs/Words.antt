-- What the calls of a heap say of the map from places to objects.
use Rattle.std.specs.Prelude.{ℕ, ◌==◌, if◌then◌else◌, List, [], ◌∷◌, Option, Some, None, IsSome, length, slice_get, slice_set}
use Rattle.std.specs.FinMap.{get, insert}
use Rattle.kilim_program.specs.declared.names.FieldId.{FieldId}
use Rattle.kilim_program.specs.declared.ty.Ty.{Ty}
use Rattle.kilim_run_state.specs.declared.value.Object.{Object}
use Rattle.kilim_program.specs.declared.value.Value.{Value}
use Rattle.kilim_run_state.specs.Machine.{Objects}
use Rattle.kilim_program.specs.Names.{◌>>=◌}
use Rattle.kilim_run_state.specs.Shapes.{field_in}

-- an object stands there
abbrev pub IsThere : Objects → ℕ → Type 0
IsThere heap at = IsSome (get heap at)

-- the class, the number of elements, a field and an element of the object at a place
abbrev pub class_at : Objects → ℕ → Option Ty
class_at heap at = get heap at >>= λ (o : Object). Some o.class

abbrev pub length_at : Objects → ℕ → Option ℕ
length_at heap at = get heap at >>= λ (o : Object). Some (length o.elements)

abbrev pub field_at : Objects → ℕ → FieldId → Option Value
field_at heap at f = get heap at >>= λ (o : Object). field_in o.fields f

abbrev pub element_at : Objects → ℕ → ℕ → Option Value
element_at heap at i = get heap at >>= λ (o : Object). slice_get o.elements i

-- another value in the first field of that name
abbrev pub with_field_in : List (FieldId × Value) → FieldId → Value → List (FieldId × Value)
with_field_in [] f v = []
with_field_in (e ∷ es) f v = if e.0.0 == f.0 then (e.0, v) ∷ es else e ∷ with_field_in es f v

abbrev pub changed_to : Objects → ℕ → Option Object → (Object → Object) → Objects
changed_to heap at None g = heap
changed_to heap at (Some o) g = insert heap at (g o)

abbrev pub changed : Objects → ℕ → (Object → Object) → Objects
changed heap at g = changed_to heap at (get heap at) g

-- a field and an element of an object, where there is one
abbrev pub field_from : Option Object → FieldId → Option Value
field_from o f = o >>= λ (x : Object). field_in x.fields f

abbrev pub element_from : Option Object → ℕ → Option Value
element_from o i = o >>= λ (x : Object). slice_get x.elements i

-- an object that is changed, where there is one
abbrev pub changed_one : (Object → Object) → Option Object → Option Object
changed_one g None = None
changed_one g (Some o) = Some (g o)

-- the heap with another value in a field or an element
abbrev pub with_field : Objects → ℕ → FieldId → Value → Objects
with_field heap at f v = changed heap at (λ o. record o { fields = with_field_in o.fields f v })

abbrev pub with_element : Objects → ℕ → ℕ → Value → Objects
with_element heap at i v = changed heap at (λ o. record o { elements = slice_set o.elements i v })
