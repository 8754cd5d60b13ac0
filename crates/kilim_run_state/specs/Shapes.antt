-- A tree without the names of its objects. The objects are found by a look-up, so one definition serves heaps and lists.
use Rattle.std.specs.Prelude.{ℕ, zero, suc, Bool, true, false, ◌==◌, nat_le, if◌then◌else◌, List, [], ◌∷◌, ◌++◌, Option, Some, None, count_by}
use Rattle.std.specs.FinMap.{get}
use Rattle.kilim_program.specs.Program.{Program}
use Rattle.kilim_program.specs.declared.names.FieldId.{FieldId}
use Rattle.kilim_program.specs.declared.ty.Base.{Base}
use Rattle.kilim_program.specs.declared.ty.Base.TheVariants as base
use Rattle.kilim_run_state.specs.declared.value.Object.{Object}
use Rattle.kilim_run_state.specs.declared.value.Token.{Token}
use Rattle.kilim_run_state.specs.declared.value.Token.TheVariants as token
use Rattle.kilim_program.specs.declared.value.Value.{Value}
use Rattle.kilim_program.specs.declared.value.Value.TheVariants.{Int, Long, Null, Ref, Text, Box, Fiber}
use Rattle.kilim_program.specs.Names.{◌>>=◌}
use Rattle.kilim_run_state.specs.Machine.{Objects}
use Rattle.kilim_program.specs.Members.{object_fields, shown_name}

-- the most objects of a tree that is put or started
unfoldable pub tree_limit : ℕ
tree_limit = 65536

-- the value of a field in an object, by the first entry of that field
abbrev pub field_in : List (FieldId × Value) → FieldId → Option Value
field_in [] f = None
field_in (entry ∷ entries) f = if entry.0.0 == f.0 then Some entry.1 else field_in entries f

-- the lists of all of them joined, where each has one
abbrev pub joined_tokens : {A : Type 0} → (A → Option (List Token)) → List A → Option (List Token)
joined_tokens tokens [] = Some []
joined_tokens tokens (x ∷ xs) = do
  first ← tokens x
  others ← joined_tokens tokens xs
  Some (first ++ others)

-- the fields that an object of a type has, in their order
abbrev pub fields_in_order : Program → Base → List FieldId
fields_in_order p (base.Class c) = object_fields p c
fields_in_order p b = []

-- the fields of an object, or the elements of an array, by the tokens of each
abbrev pub content_tokens : Program → (Value → Option (List Token)) → Object → Option (List Token)
content_tokens p tokens object =
    if object.class.dims == 0 then joined_tokens (λ f. field_in object.fields f >>= tokens) (fields_in_order p object.class.base) else joined_tokens tokens object.elements

-- a value's tokens in preorder; objects lie at most so deep below each other
abbrev pub value_tokens : Program → (ℕ → Option Object) → ℕ → Value → Option (List Token)
value_tokens p look depth (Int n) = Some (token.Int n ∷ [])
value_tokens p look depth (Long n) = Some (token.Long n ∷ [])
value_tokens p look depth Null = Some (token.Null ∷ [])
value_tokens p look depth (Text units) = Some (token.Text units ∷ [])
value_tokens p look depth (Box box) = Some (token.Box box ∷ [])
value_tokens p look depth Fiber = None
value_tokens p look zero (Ref n) = None
value_tokens p look (suc depth) (Ref n) = do
  object ← look n
  content ← content_tokens p (value_tokens p look depth) object
  Some (token.Open (shown_name p object.class) ∷ (content ++ token.Close ∷ []))

abbrev pub is_open : Token → Bool
is_open (token.Open name) = true
is_open t = false

-- The shape of what is below a name: its objects in preorder, each as often as it is met. There is one where
-- at most 65,536 objects are met. Objects that lie deeper below each other than that are more than that, so the
-- bound on the depth cuts nothing off. There is none, either, where an object or a field that is named isn't there, which
-- verified code never meets: a put then ends as one of too large a tree does.
unfoldable pub shape_by : Program → (ℕ → Option Object) → ℕ → Option (List Token)
shape_by p look n = do
  tokens ← value_tokens p look tree_limit (Ref n)
  if nat_le (count_by is_open tokens) tree_limit then Some tokens else None

-- in a heap
abbrev pub shape_of : Program → Objects → ℕ → Option (List Token)
shape_of p heap n = shape_by p (λ m. get heap m) n
