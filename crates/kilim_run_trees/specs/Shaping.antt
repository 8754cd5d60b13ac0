-- What a tree has to be so that it has a shape.
use Rattle.std.specs.Prelude.{◌≡◌, ℕ, ◌==◌, if◌then◌else◌, List, [], ◌∷◌, ◌++◌, Option, Some, None, map, ◌↔◌}
use Rattle.std.specs.List.{AllByRecursion}
use Rattle.std.specs.FinMap.{get}
use Rattle.kilim_program.specs.declared.class.Program.{Program}
use Rattle.kilim_program.specs.declared.names.FieldId.{FieldId}
use Rattle.kilim_run_state.specs.declared.value.Object.{Object}
use Rattle.kilim_program.specs.declared.value.Value.{Value}
use Rattle.kilim_program.specs.declared.value.Value.TheVariants.{Fiber}
use Rattle.kilim_run_state.specs.Machine.{Objects}
use Rattle.kilim_run_state.specs.Shapes.{shape_of, field_in, fields_in_order}
use Rattle.kilim_run_trees.specs.Moved.{IsTooLarge}

abbrev pub field_values : List (FieldId × Value) → List Value
field_values [] = []
field_values (e ∷ es) = e.1 ∷ field_values es

-- the values of an object, in its own order
abbrev pub held : Object → List Value
held o = field_values o.fields ++ o.elements

-- those that a program finds in it, in the program's order
abbrev pub found : Program → Object → List (Option Value)
found p o = if o.class.dims == 0 then map (field_in o.fields) (fields_in_order p o.class.base) else map (λ (v : Value). Some v) o.elements

abbrev pub IsShown : Value → Type 0
IsShown Fiber = ⊥
IsShown v = Unit {0}

-- the object has exactly the fields of its class, in order, or elements alone, and no fiber
pub record Suits (p : Program) (o : Object) : Type 0 where
  pub in_order : found p o ≡ map (λ (v : Value). Some v) (held o)
  pub shown : AllByRecursion IsShown (held o)

abbrev pub AllSuit : Program → Objects → Type 0
AllSuit p heap = (n : ℕ) (o : Object) → get heap n ≡ Some o → Suits p o

-- a tree is too large exactly where it has no shape
abbrev pub SizesAgree : Type 0
SizesAgree = (p : Program) (heap : Objects) (root : ℕ) → AllSuit p heap → (IsTooLarge heap root ↔ (shape_of p heap root ≡ None))
