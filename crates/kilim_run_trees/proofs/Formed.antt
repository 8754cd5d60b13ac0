-- An object as its class declares it has just its fields, in order, or its elements.
use Rattle.std.proofs.Common.{◌≡◌, suc, Bool, true, false, List, [], ◌∷◌, ◌++◌, Some, length, map, refl, sym, ap, subst, ◌∙◌, inl, inr, arith}
use Rattle.std.specs.Prelude.{◌==◌, if◌then◌else◌}
use Rattle.std.specs.List.{AllByRecursion}
use Rattle.std.proofs.lemmas.Bool.{cases_Bool}
use Rattle.std.proofs.lemmas.List.{append-nil}
use Rattle.kilim_program.specs.Program.{Program}
use Rattle.kilim_program.specs.declared.names.FieldId.{FieldId}
use Rattle.kilim_program.specs.declared.value.Value.{Value}
use Rattle.kilim_run_state.specs.declared.value.Object.{Object}
use Rattle.kilim_run_state.specs.Shapes.{field_in, fields_in_order}
use Rattle.kilim_run_state.specs.Trees.{object_of, with_keys}
use Rattle.kilim_run_trees.specs.Shaping.{field_values, held, found, IsShown, Suits}

picked_true : {A : Type 0} (b : Bool) (x y : A) → b ≡ true → (if b then x else y) ≡ x
picked_true true x y h = refl
picked_true false x y h = absurd cc

picked_false : {A : Type 0} (b : Bool) (x y : A) → b ≡ false → (if b then x else y) ≡ y
picked_false false x y h = refl
picked_false true x y h = absurd cc

length_mapped : {A B : Type 0} (f : A → B) (xs : List A) → length (map f xs) ≡ length xs
length_mapped f [] = refl
length_mapped f (x ∷ xs) = ap suc (length_mapped f xs)

keys_values : (fs : List FieldId) (vs : List Value) → length fs ≡ length vs → field_values (with_keys fs vs) ≡ vs
keys_values [] [] e = refl
keys_values [] (v ∷ vs) e = absurd (omega arith)
keys_values (f ∷ fs) [] e = absurd (omega arith)
keys_values (f ∷ fs) (v ∷ vs) e = let e' : length fs ≡ length vs = omega arith in ap (λ ws. v ∷ ws) (keys_values fs vs e')

suits_by : (p : Program) (o : Object) (values : List Value) → found p o ≡ map (λ (v : Value). Some v) values → held o ≡ values → AllByRecursion IsShown values → Suits p o
suits_by p o values f h shown = record {
  in_order = f ∙ ap (map (λ (v : Value). Some v)) (sym h);
  shown = subst (AllByRecursion IsShown) (sym h) shown;
}

instance_suits : (p : Program) (o : Object) (values : List Value) → (o.class.dims == 0) ≡ true → o ≡ object_of p o.class values → map (field_in o.fields) (fields_in_order p o.class.base) ≡ map (λ (v : Value). Some v) values → AllByRecursion IsShown values → Suits p o
instance_suits p o values h e finds shown =
    let made : Object = record { class = o.class; fields = with_keys (fields_in_order p o.class.base) values; elements = [] } in
    let is : o ≡ made = e ∙ picked_true (o.class.dims == 0) made (record { class = o.class; fields = []; elements = values }) h in
    let fields : o.fields ≡ with_keys (fields_in_order p o.class.base) values = ap (λ (x : Object). x.fields) is in
    let elements : o.elements ≡ [] = ap (λ (x : Object). x.elements) is in
    let long : length (fields_in_order p o.class.base) ≡ length values = sym (length_mapped (field_in o.fields) (fields_in_order p o.class.base)) ∙ (ap length finds ∙ length_mapped (λ (v : Value). Some v) values) in
    let own : field_values o.fields ≡ values = ap field_values fields ∙ keys_values (fields_in_order p o.class.base) values long in
    suits_by p o values
    (picked_true (o.class.dims == 0) (map (field_in o.fields) (fields_in_order p o.class.base)) (map (λ (v : Value). Some v) o.elements) h ∙ finds)
    (ap (λ es. field_values o.fields ++ es) elements ∙ (append-nil (field_values o.fields) ∙ own))
    shown

array_suits : (p : Program) (o : Object) (values : List Value) → (o.class.dims == 0) ≡ false → o ≡ object_of p o.class values → AllByRecursion IsShown values → Suits p o
array_suits p o values h e shown =
    let made : Object = record { class = o.class; fields = []; elements = values } in
    let is : o ≡ made = e ∙ picked_false (o.class.dims == 0) (record { class = o.class; fields = with_keys (fields_in_order p o.class.base) values; elements = [] }) made h in
    let fields : o.fields ≡ [] = ap (λ (x : Object). x.fields) is in
    let elements : o.elements ≡ values = ap (λ (x : Object). x.elements) is in
    suits_by p o values
    (picked_false (o.class.dims == 0) (map (field_in o.fields) (fields_in_order p o.class.base)) (map (λ (v : Value). Some v) o.elements) h ∙ ap (map (λ (v : Value). Some v)) elements)
    (ap (λ fs. field_values fs ++ o.elements) fields ∙ elements)
    shown

-- what is made of its type and values, finds each of its fields and holds no fiber
pub object_suits : (p : Program) (o : Object) (values : List Value) → o ≡ object_of p o.class values → ((o.class.dims == 0) ≡ true → map (field_in o.fields) (fields_in_order p o.class.base) ≡ map (λ (v : Value). Some v) values) → AllByRecursion IsShown values → Suits p o
object_suits p o values e finds shown =
    elim (cases_Bool (o.class.dims == 0)) [
      | inl h ↦ instance_suits p o values h e (finds h) shown
      | inr h ↦ array_suits p o values h e shown
    ]
