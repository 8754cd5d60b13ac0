-- An object as its class declares it is so under other names.
use Rattle.std.proofs.Common.{◌≡◌, ℕ, Bool, true, false, List, [], ◌∷◌, ◌++◌, Option, Some, None, map, refl, ap, subst, ◌∙◌}
use Rattle.std.specs.Prelude.{◌==◌, if◌then◌else◌}
use Rattle.std.specs.List.{AllByRecursion}
use Rattle.kilim_program.specs.Program.{Program}
use Rattle.kilim_program.specs.declared.names.FieldId.{FieldId}
use Rattle.kilim_program.specs.declared.ty.Ty.{Ty}
use Rattle.kilim_program.specs.declared.value.Value.{Value}
use Rattle.kilim_program.specs.declared.value.Value.TheVariants.{Int, Long, Null, Ref, Text, Box, Fiber}
use Rattle.kilim_run_state.specs.declared.value.Object.{Object}
use Rattle.kilim_run_state.specs.Shapes.{field_in, fields_in_order}
use Rattle.kilim_run_state.specs.Trees.{with_keys, object_of}
use Rattle.kilim_run_model.specs.Kept.{Finds, IsFormed}
use Rattle.kilim_run_model.specs.kin.Kin.{Names, IsKin, AreKin, FieldsKin, ObjectsKin}
use Rattle.kilim_run_model.proofs.kin.Renamed.{renamed, kin_is}
use Rattle.kilim_run_trees.specs.Walk as walk
use Rattle.kilim_run_trees.specs.Shaping.{field_values, held, IsShown, Suits}
use Rattle.kilim_run_trees.proofs.Formed.{object_suits}

-- ---- other values in place of an object's

abbrev pub with_values : (Value → Value) → List (FieldId × Value) → List (FieldId × Value)
with_values r [] = []
with_values r (e ∷ es) = (e.0, r e.1) ∷ with_values r es

abbrev pub with_elements : (Value → Value) → List Value → List Value
with_elements r [] = []
with_elements r (v ∷ vs) = r v ∷ with_elements r vs

abbrev pub mapped : (Value → Value) → Object → Object
mapped r o = record { class = o.class; fields = with_values r o.fields; elements = with_elements r o.elements }

abbrev changed : (Value → Value) → Option Value → Option Value
changed r None = None
changed r (Some v) = Some (r v)

module _ (r : Value → Value) where
  field_mapped : (f : FieldId) (es : List (FieldId × Value)) → field_in (with_values r es) f ≡ changed r (field_in es f)
  field_mapped f [] = refl
  field_mapped f (e ∷ es) = elim (e.0.0 == f.0) as (λ (b : Bool). (if b then Some (r e.1) else field_in (with_values r es) f) ≡ changed r (if b then Some e.1 else field_in es f)) [
    | true ↦ refl
    | false ↦ field_mapped f es
  ]

  finds_mapped : (es : List (FieldId × Value)) (fs : List FieldId) (vs : List Value) → Finds es fs vs → Finds (with_values r es) fs (with_elements r vs)
  finds_mapped es [] [] w = tt
  finds_mapped es (f ∷ fs) (v ∷ vs) w = (field_mapped f es ∙ ap (changed r) w.0, finds_mapped es fs vs w.1)
  finds_mapped es [] (v ∷ vs) w = absurd w
  finds_mapped es (f ∷ fs) [] w = absurd w

  keys_mapped : (fs : List FieldId) (vs : List Value) → with_values r (with_keys fs vs) ≡ with_keys fs (with_elements r vs)
  keys_mapped [] vs = refl
  keys_mapped (f ∷ fs) [] = refl
  keys_mapped (f ∷ fs) (v ∷ vs) = ap (λ (es : List (FieldId × Value)). (f, r v) ∷ es) (keys_mapped fs vs)

  object_mapped : (p : Program) (ty : Ty) (vs : List Value) → mapped r (object_of p ty vs) ≡ object_of p ty (with_elements r vs)
  object_mapped p ty vs = elim (ty.dims == 0) as
      (λ (b : Bool). mapped r (if b then record { class = ty; fields = with_keys (fields_in_order p ty.base) vs; elements = [] } else record { class = ty; fields = []; elements = vs })
      ≡ (if b then record { class = ty; fields = with_keys (fields_in_order p ty.base) (with_elements r vs); elements = [] } else record { class = ty; fields = []; elements = with_elements r vs })) [
        | true ↦ ap (λ (es : List (FieldId × Value)). record { class = ty; fields = es; elements = [] }) (keys_mapped (fields_in_order p ty.base) vs)
        | false ↦ refl
      ]

  pub formed_mapped : (p : Program) (o : Object) → IsFormed p o → IsFormed p (mapped r o)
  formed_mapped p o w = record {
    named = w.named;
    values = with_elements r w.values;
    is = ap (mapped r) w.is ∙ object_mapped p o.class w.values;
    finds = λ plain. finds_mapped o.fields (fields_in_order p o.class.base) w.values (w.finds plain);
  }

-- ---- of a heap and another one

fields_are : (of : Names) (es ds : List (FieldId × Value)) → FieldsKin of es ds → with_values (renamed of) es ≡ ds
fields_are of [] [] w = refl
fields_are of (e ∷ es) (d ∷ ds) w = λ i. (w.0 i, kin_is of e.1 d.1 w.1 i) ∷ fields_are of es ds w.2 i
fields_are of _ _ w = absurd w

elements_are : (of : Names) (vs ws : List Value) → AreKin of vs ws → with_elements (renamed of) vs ≡ ws
elements_are of [] [] w = refl
elements_are of (v ∷ vs) (u ∷ us) w = λ i. kin_is of v u w.0 i ∷ elements_are of vs us w.1 i
elements_are of _ _ w = absurd w

pub object_is : (of : Names) (o q : Object) → ObjectsKin of o q → mapped (renamed of) o ≡ q
object_is of o q w = λ i. record { class = w.class i; fields = fields_are of o.fields q.fields w.fields i; elements = elements_are of o.elements q.elements w.elements i }

pub formed_kin : (of : Names) (p : Program) (o q : Object) → ObjectsKin of o q → IsFormed p o → IsFormed p q
formed_kin of p o q w f = subst (IsFormed p) (object_is of o q w) (formed_mapped (renamed of) p o f)

-- ---- no fiber

shown_kin : (of : Names) (v w : Value) → IsKin of v w → IsShown v → IsShown w
shown_kin of v (Int b) e s = tt
shown_kin of v (Long b) e s = tt
shown_kin of v Null e s = tt
shown_kin of v (Ref b) e s = tt
shown_kin of v (Text b) e s = tt
shown_kin of v (Box b) e s = tt
shown_kin of Fiber Fiber e s = s
shown_kin of (Int a) Fiber e s = absurd e
shown_kin of (Long a) Fiber e s = absurd e
shown_kin of Null Fiber e s = absurd e
shown_kin of (Ref a) Fiber e s = absurd e
shown_kin of (Text a) Fiber e s = absurd e
shown_kin of (Box a) Fiber e s = absurd e

all_shown : (of : Names) (vs ws : List Value) → AreKin of vs ws → AllByRecursion IsShown vs → AllByRecursion IsShown ws
all_shown of [] [] e s = tt
all_shown of (v ∷ vs) (w ∷ ws) e s = (shown_kin of v w e.0 s.0, all_shown of vs ws e.1 s.1)
all_shown of _ _ e s = absurd e

held_kin : (of : Names) (es ds : List (FieldId × Value)) (vs ws : List Value) → FieldsKin of es ds → AreKin of vs ws → AreKin of (field_values es ++ vs) (field_values ds ++ ws)
held_kin of [] [] vs ws e d = d
held_kin of (a ∷ es) (b ∷ ds) vs ws e d = (e.1, held_kin of es ds vs ws e.2 d)
held_kin of _ _ vs ws e d = absurd e

pub shown_object : (of : Names) (o q : Object) → ObjectsKin of o q → AllByRecursion IsShown (held o) → AllByRecursion IsShown (held q)
shown_object of o q e s = all_shown of (held o) (held q) (held_kin of o.fields q.fields o.elements q.elements e.fields e.elements) s

-- ---- what is formed and holds no fiber has just the fields of its class

found_are : (es : List (FieldId × Value)) (fs : List FieldId) (vs : List Value) → Finds es fs vs → map (field_in es) fs ≡ map (λ (v : Value). Some v) vs
found_are es [] [] w = refl
found_are es (f ∷ fs) (v ∷ vs) w = λ i. w.0 i ∷ found_are es fs vs w.1 i
found_are es [] (v ∷ vs) w = absurd w
found_are es (f ∷ fs) [] w = absurd w

back_values : (ty : Ty) (fs : List FieldId) (vs : List Value) (es : List (FieldId × Value)) → Finds es fs vs → es ≡ with_keys fs vs → field_values es ≡ vs
back_values ty fs vs es w e = ap field_values e ∙ keys fs vs es w
  where
    keys : (fs : List FieldId) (vs : List Value) (es : List (FieldId × Value)) → Finds es fs vs → field_values (with_keys fs vs) ≡ vs
    keys [] [] es w = refl
    keys (f ∷ fs) (v ∷ vs) es w = ap (λ (us : List Value). v ∷ us) (keys fs vs es w.1)
    keys [] (v ∷ vs) es w = absurd w
    keys (f ∷ fs) [] es w = absurd w

abbrev made : Program → Ty → List Value → Bool → Object
made p ty vs b = if b then record { class = ty; fields = with_keys (fields_in_order p ty.base) vs; elements = [] } else record { class = ty; fields = []; elements = vs }

values_shown : (p : Program) (o : Object) (w : IsFormed p o) → AllByRecursion IsShown (held o) → AllByRecursion IsShown w.values
values_shown p o w s = by (o.class.dims == 0) refl
  where
    front : (xs ys : List Value) → AllByRecursion IsShown (xs ++ ys) → AllByRecursion IsShown xs
    front [] ys a = tt
    front (x ∷ xs) ys a = (a.0, front xs ys a.1)

    by : (b : Bool) → (o.class.dims == 0) ≡ b → AllByRecursion IsShown w.values
    by true e =
        let fields : o.fields ≡ with_keys (fields_in_order p o.class.base) w.values = ap (λ (x : Object). x.fields) w.is ∙ ap (λ (b : Bool). (made p o.class w.values b).fields) e in
        subst (AllByRecursion IsShown) (back_values o.class (fields_in_order p o.class.base) w.values o.fields (w.finds e) fields) (front (field_values o.fields) o.elements s)
    by false e =
        let fields : o.fields ≡ [] = ap (λ (x : Object). x.fields) w.is ∙ ap (λ (b : Bool). (made p o.class w.values b).fields) e in
        let elements : o.elements ≡ w.values = ap (λ (x : Object). x.elements) w.is ∙ ap (λ (b : Bool). (made p o.class w.values b).elements) e in
        subst (AllByRecursion IsShown) elements (subst (λ (es : List (FieldId × Value)). AllByRecursion IsShown (field_values es ++ o.elements)) fields s)

pub formed_suits : (p : Program) (o : Object) → IsFormed p o → AllByRecursion IsShown (held o) → Suits p o
formed_suits p o w s = object_suits p o w.values w.is (λ plain. found_are o.fields (fields_in_order p o.class.base) w.values (w.finds plain)) (values_shown p o w s)

-- ---- of a tree on its own

fields_renamed : (f : ℕ → ℕ) (es : List (FieldId × Value)) → with_values (walk.renamed_value f) es ≡ walk.renamed_fields f es
fields_renamed f [] = refl
fields_renamed f (e ∷ es) = ap (λ (ds : List (FieldId × Value)). (e.0, walk.renamed_value f e.1) ∷ ds) (fields_renamed f es)

elements_renamed : (f : ℕ → ℕ) (vs : List Value) → with_elements (walk.renamed_value f) vs ≡ walk.renamed_elements f vs
elements_renamed f [] = refl
elements_renamed f (v ∷ vs) = ap (λ (ws : List Value). walk.renamed_value f v ∷ ws) (elements_renamed f vs)

pub formed_renamed : (f : ℕ → ℕ) (p : Program) (o : Object) → IsFormed p o → IsFormed p (walk.renamed f o)
formed_renamed f p o w =
    subst (IsFormed p) (λ i. record { class = o.class; fields = fields_renamed f o.fields i; elements = elements_renamed f o.elements i }) (formed_mapped (walk.renamed_value f) p o w)
