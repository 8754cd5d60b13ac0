-- Each object of a heap that fits is as its class says, and all that is below one is there.
use Rattle.std.proofs.Common.{◌≡◌, ℕ, zero, suc, Bool, true, false, cond, eqb, List, [], ◌∷◌, ◌++◌, map, Option, Some, None, refl, sym, ap, subst, ◌∙◌, arith, rules}
use Rattle.std.specs.Prelude.{IsSome}
use Rattle.std.specs.List.{AllByRecursion, list_all}
use Rattle.std.specs.FinMap.{get}
use Rattle.std.proofs.lemmas.Bool.{and_parts, eqb-true, false_from_ne_true}
use Rattle.kilim_program.specs.declared.class.Field.{Field}
use Rattle.kilim_program.specs.declared.names.FieldId.{FieldId}
use Rattle.kilim_program.specs.declared.ty.Base.{Base}
use Rattle.kilim_program.specs.declared.ty.Base.TheVariants as base
use Rattle.kilim_program.specs.declared.ty.Ty.{Ty}
use Rattle.kilim_program.specs.declared.value.Value.{Value}
use Rattle.kilim_program.specs.declared.value.Value.TheVariants.{Int, Long, Null, Ref, Text, Box, Fiber}
use Rattle.kilim_program.specs.Keeps.{Keeps}
use Rattle.kilim_program.specs.Members.{object_fields}
use Rattle.kilim_program.specs.Names.{field_of}
use Rattle.kilim_program.specs.Program.{Program}
use Rattle.kilim_run_state.specs.declared.value.Object.{Object}
use Rattle.kilim_run_state.specs.Machine.{Objects}
use Rattle.kilim_run_state.specs.Shapes.{field_in, fields_in_order}
use Rattle.kilim_run_trees.specs.Shaping.{AllSuit, IsShown, field_values, held}
use Rattle.kilim_run_trees.specs.Walk.{AllThere, AreIn, Leads, element_refs, field_refs, refs, value_refs}
use Rattle.kilim_run_model.specs.Kept.{Finds}
use Rattle.kilim_type_sound.specs.Fits.{Classes, ContentFits, FieldFits, FieldsFit, HeapFits, is_of, is_value_of}
use Rattle.kilim_isolation_laws.proofs.tree_types.Formed.{finds_of, values_of}

-- ---- all that is below an object of a closed heap is there

abbrev pub IsClosed : Objects → Type 0
IsClosed h = (n : ℕ) (o : Object) → get h n ≡ Some o → AllByRecursion (λ (m : ℕ). IsSome (get h m)) (refs o)

joined : (P : ℕ → Type 0) (xs ys : List ℕ) → AllByRecursion P xs → AllByRecursion P ys → AllByRecursion P (xs ++ ys)
joined P [] ys a b = b
joined P (x ∷ xs) ys a b = (a.0, joined P xs ys a.1 b)

there_from : (h : Objects) → IsClosed h → (from : List ℕ) (es : List (ℕ × Object)) (n : ℕ) (ns : List ℕ) → AllByRecursion (λ (m : ℕ). IsSome (get h m)) from → Leads from es (n ∷ ns) → AreIn h es → IsSome (get h n)
there_from h closed from [] n ns all leads are = (subst (AllByRecursion (λ (m : ℕ). IsSome (get h m))) leads all).0
there_from h closed [] (e ∷ es) n ns all leads are = absurd leads
there_from h closed (m ∷ ms) (e ∷ es) n ns all leads are = there_from h closed (refs e.1 ++ ms) es n ns (joined (λ (k : ℕ). IsSome (get h k)) (refs e.1) ms (closed e.0 e.1 are.0) all.1) leads.1 are.1

some_of : (o : Option Object) (x : Object) → o ≡ Some x → IsSome o
some_of o x e = subst (λ (o : Option Object). IsSome o) (sym e) (search rules)

pub all_there : (h : Objects) → IsClosed h → (n : ℕ) (o : Object) → get h n ≡ Some o → AllThere h n
all_there h closed n o at es m ms leads are = there_from h closed (n ∷ []) es m ms (some_of (get h n) o at, tt) leads are

-- ---- fields in their order

finds_map : (xs : List (FieldId × Value)) (fs : List FieldId) (vs : List Value) → Finds xs fs vs → map (field_in xs) fs ≡ map (λ (v : Value). Some v) vs
finds_map xs [] [] f = refl
finds_map xs [] (v ∷ vs) f = absurd f
finds_map xs (g ∷ gs) [] f = absurd f
finds_map xs (g ∷ gs) (v ∷ vs) f = ap (λ (o : Option Value). o ∷ map (field_in xs) gs) f.0 ∙ ap (λ (os : List (Option Value)). Some v ∷ os) (finds_map xs gs vs f.1)

same_values : (es : List (FieldId × Value)) → values_of es ≡ field_values es
same_values [] = refl
same_values (e ∷ es) = ap (λ (vs : List Value). e.1 ∷ vs) (same_values es)

nothing_more : (vs : List Value) → vs ++ [] ≡ vs
nothing_more [] = refl
nothing_more (v ∷ vs) = ap (λ (ws : List Value). v ∷ ws) (nothing_more vs)

module _ (p : Program) (keeps : Keeps p) (of : Classes) where
  abbrev found_by : ℕ → Base → Object → List (Option Value)
  found_by d b o = cond (eqb d 0) (map (field_in o.fields) (fields_in_order p b)) (map (λ (v : Value). Some v) o.elements)

  abbrev shown_values : Object → List (Option Value)
  shown_values o = map (λ (v : Value). Some v) (held o)

  in_order : (d : ℕ) (b : Base) (o : Object) → ContentFits p of d b o → found_by d b o ≡ shown_values o
  in_order zero (base.Class c) o f =
      finds_map o.fields (object_fields p c) (values_of o.fields) (finds_of p keeps of c o.fields f.1)
      ∙ ap (λ (vs : List Value). map (λ (v : Value). Some v) vs) (same_values o.fields ∙ (sym (nothing_more (field_values o.fields)) ∙ ap (λ (es : List Value). field_values o.fields ++ es) (sym f.2)))
  in_order (suc d) b o f =
      let no : eqb (suc d) 0 ≡ false = false_from_ne_true (eqb (suc d) 0) (λ e. absurd (let z = eqb-true (suc d) 0 e in omega (arith, z))) in
      ap (λ (z : Bool). cond z (map (field_in o.fields) (fields_in_order p b)) (map (λ (v : Value). Some v) o.elements)) no
      ∙ ap (λ (fs : List (FieldId × Value)). map (λ (v : Value). Some v) (field_values fs ++ o.elements)) (sym f.0)
  in_order zero base.Bool o f = absurd f
  in_order zero base.Byte o f = absurd f
  in_order zero base.Char o f = absurd f
  in_order zero base.Short o f = absurd f
  in_order zero base.Int o f = absurd f
  in_order zero base.Long o f = absurd f

  module _ (h : Objects) (heap : HeapFits p of h) (known : (n : ℕ) (c : Ty) → of n ≡ Some c → IsSome (get h n)) where
    abbrev There : List ℕ → Type 0
    There ns = AllByRecursion (λ (n : ℕ). IsSome (get h n)) ns

    ref_there : (ty : Ty) (n : ℕ) → is_of p (of n) ty ≡ true → IsSome (get h n)
    ref_there ty n e = by (of n) refl e
      where
        by : (o : Option Ty) → of n ≡ o → is_of p o ty ≡ true → IsSome (get h n)
        by None at z = absurd (cc)
        by (Some c) at z = known n c at

    value_there : (ty : Ty) (v : Value) → is_value_of p of ty v ≡ true → There (value_refs v)
    value_there ty (Int x) e = tt
    value_there ty (Long x) e = tt
    value_there ty Null e = tt
    value_there ty (Ref n) e = (ref_there ty n e, tt)
    value_there ty (Text units) e = tt
    value_there ty (Box box) e = tt
    value_there ty Fiber e = tt

    field_there : (o : Option Field) (v : Value) → FieldFits p of o v → There (value_refs v)
    field_there None v f = absurd f
    field_there (Some field) v f = value_there field.ty v f

    fields_there : (fs : List FieldId) (es : List (FieldId × Value)) → FieldsFit p of fs es → There (field_refs es)
    fields_there [] [] f = tt
    fields_there [] (e ∷ es) f = absurd f
    fields_there (g ∷ gs) [] f = absurd f
    fields_there (g ∷ gs) (e ∷ es) f = joined (λ (n : ℕ). IsSome (get h n)) (value_refs e.1) (field_refs es) (field_there (field_of p g) e.1 f.1) (fields_there gs es f.2)

    elements_there : (ty : Ty) (vs : List Value) → list_all (is_value_of p of ty) vs ≡ true → There (element_refs vs)
    elements_there ty [] e = tt
    elements_there ty (v ∷ vs) e =
        let parts = and_parts (is_value_of p of ty v) (list_all (is_value_of p of ty) vs) e in
        joined (λ (n : ℕ). IsSome (get h n)) (value_refs v) (element_refs vs) (value_there ty v parts.0) (elements_there ty vs parts.1)

    content_there : (d : ℕ) (b : Base) (o : Object) → ContentFits p of d b o → There (refs o)
    content_there zero (base.Class c) o f = joined (λ (n : ℕ). IsSome (get h n)) (field_refs o.fields) (element_refs o.elements) (fields_there (object_fields p c) o.fields f.1) (subst (λ (vs : List Value). There (element_refs vs)) (sym f.2) tt)
    content_there (suc d) b o f = joined (λ (n : ℕ). IsSome (get h n)) (field_refs o.fields) (element_refs o.elements) (subst (λ (es : List (FieldId × Value)). There (field_refs es)) (sym f.0) tt) (elements_there (record { dims = d; base = b }) o.elements f.1)
    content_there zero base.Bool o f = absurd f
    content_there zero base.Byte o f = absurd f
    content_there zero base.Char o f = absurd f
    content_there zero base.Short o f = absurd f
    content_there zero base.Int o f = absurd f
    content_there zero base.Long o f = absurd f

    pub closed : IsClosed h
    closed n o at = content_there o.class.dims o.class.base o (heap.objects n o at)

    pub suits : ((n : ℕ) (o : Object) → get h n ≡ Some o → AllByRecursion IsShown (held o)) → AllSuit p h
    suits shown n o at = record { in_order = in_order o.class.dims o.class.base o (heap.objects n o at); shown = shown n o at }
