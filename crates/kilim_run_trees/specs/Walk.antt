-- The objects of a tree in preorder.
use Rattle.std.specs.Prelude.{◌≡◌, ℕ, suc, List, [], ◌∷◌, ◌++◌, Some, IsSome}
use Rattle.std.specs.List.{AllByRecursion, flat_map}
use Rattle.std.specs.FinMap.{get}
use Rattle.kilim_program.specs.declared.names.FieldId.{FieldId}
use Rattle.kilim_run_state.specs.declared.value.Object.{Object}
use Rattle.kilim_program.specs.declared.value.Value.{Value}
use Rattle.kilim_program.specs.declared.value.Value.TheVariants.{Int, Long, Null, Ref, Text, Box, Fiber}
use Rattle.kilim_run_state.specs.Machine.{Objects}

-- the references of a value, of fields, of elements and of an object, in order
abbrev pub value_refs : Value → List ℕ
value_refs (Int n) = []
value_refs (Long n) = []
value_refs Null = []
value_refs (Ref n) = n ∷ []
value_refs (Text units) = []
value_refs (Box box) = []
value_refs Fiber = []

abbrev pub field_refs : List (FieldId × Value) → List ℕ
field_refs es = flat_map (λ e. value_refs e.1) es

abbrev pub element_refs : List Value → List ℕ
element_refs vs = flat_map value_refs vs

abbrev pub refs : Object → List ℕ
refs o = field_refs o.fields ++ element_refs o.elements

-- other names in the references
abbrev pub renamed_value : (ℕ → ℕ) → Value → Value
renamed_value f (Int n) = Int n
renamed_value f (Long n) = Long n
renamed_value f Null = Null
renamed_value f (Ref n) = Ref (f n)
renamed_value f (Text units) = Text units
renamed_value f (Box box) = Box box
renamed_value f Fiber = Fiber

abbrev pub renamed_fields : (ℕ → ℕ) → List (FieldId × Value) → List (FieldId × Value)
renamed_fields f [] = []
renamed_fields f (e ∷ es) = (e.0, renamed_value f e.1) ∷ renamed_fields f es

abbrev pub renamed_elements : (ℕ → ℕ) → List Value → List Value
renamed_elements f [] = []
renamed_elements f (v ∷ vs) = renamed_value f v ∷ renamed_elements f vs

abbrev pub renamed : (ℕ → ℕ) → Object → Object
renamed f o = record { class = o.class; fields = renamed_fields f o.fields; elements = renamed_elements f o.elements }

-- Places that are still to be visited; then objects with their places, in the order of visits; then the places
-- that are left to be visited. After an object those come that it refers to.
abbrev pub Leads : List ℕ → List (ℕ × Object) → List ℕ → Type 0
Leads from [] to = from ≡ to
Leads [] (e ∷ es) to = ⊥
Leads (n ∷ ns) (e ∷ es) to = (n ≡ e.0) × Leads (refs e.1 ++ ns) es to

abbrev pub AreIn : Objects → List (ℕ × Object) → Type 0
AreIn heap es = AllByRecursion (λ e. get heap e.0 ≡ Some e.1) es

-- The objects below a place, itself first, in preorder, each as often as it is met.
pub record IsTree (heap : Objects) (root : ℕ) (es : List (ℕ × Object)) : Type 0 where
  pub leads : Leads (root ∷ []) es []
  pub are_in : AreIn heap es

-- each object that is met below a place is there
abbrev pub AllThere : Objects → ℕ → Type 0
AllThere heap root = (es : List (ℕ × Object)) (n : ℕ) (ns : List ℕ) → Leads (root ∷ []) es (n ∷ ns) → AreIn heap es → IsSome (get heap n)

abbrev pub places : List (ℕ × Object) → List ℕ
places [] = []
places (e ∷ es) = e.0 ∷ places es

abbrev pub objects : List (ℕ × Object) → List Object
objects [] = []
objects (e ∷ es) = e.1 ∷ objects es

-- the objects of a list at the numbers from one on
abbrev pub numbered : ℕ → List Object → List (ℕ × Object)
numbered n [] = []
numbered n (o ∷ os) = (n, o) ∷ numbered (suc n) os

-- a list of objects in preorder, whose references are places in the list
abbrev pub IsPreorder : List Object → Type 0
IsPreorder os = Leads (0 ∷ []) (numbered 0 os) []
