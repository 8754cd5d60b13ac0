-- What is built of a shape that the declared types allow: each object is a tree object, its content fits, and it is named once.
use Rattle.std.proofs.Common.{◌≡◌, inl, inr, ℕ, zero, suc, ◌+◌, ◌-◌, Bool, true, false, not, ◌||◌, cond, eqb, List, [], ◌∷◌, ◌++◌, filter, length, Option, Some, None, refl, sym, ap, subst, ◌∙◌, true≢false, arith}
use Rattle.std.specs.Prelude.{if◌then◌else◌, slice_get}
use Rattle.std.specs.List.{list_all}
use Rattle.std.proofs.lemmas.Bool.{and_from, and_parts, eqb-true, ne_eqb}
use Rattle.kilim_program.specs.declared.class.Class.{Class}
use Rattle.kilim_program.specs.declared.class.Field.{Field}
use Rattle.kilim_program.specs.declared.class.Method.{Method}
use Rattle.kilim_program.specs.declared.names.ClassId.{ClassId}
use Rattle.kilim_program.specs.declared.names.FieldId.{FieldId}
use Rattle.kilim_program.specs.declared.ty.Base.{Base}
use Rattle.kilim_program.specs.declared.ty.Base.TheVariants as base
use Rattle.kilim_program.specs.declared.ty.Kind.{Kind}
use Rattle.kilim_program.specs.declared.ty.Kind.TheVariants as kind
use Rattle.kilim_program.specs.declared.ty.Qualifier.TheVariants as qualifier
use Rattle.kilim_program.specs.declared.ty.Ty.{Ty}
use Rattle.kilim_program.specs.declared.value.Value.{Value}
use Rattle.kilim_program.specs.declared.value.Value.TheVariants.{Ref}
use Rattle.kilim_program.specs.Program.{Program}
use Rattle.kilim_program.specs.Fits.{fits_type}
use Rattle.kilim_program.specs.Kinds.{class_kind, is_marked, is_message}
use Rattle.kilim_program.specs.Names.{class_at, class_name, field_of, is_task}
use Rattle.kilim_run_state.specs.declared.value.Object.{Object}
use Rattle.kilim_run_state.specs.declared.value.Token.{Token}
use Rattle.kilim_run_machine.specs.Does.{element_type}
use Rattle.kilim_program.specs.Members.{is_instance_field, object_fields}
use Rattle.kilim_run_state.specs.Shapes.{field_in}
use Rattle.kilim_run_state.specs.Trees.{Awaits, Fields, Elements, Root, OfMessage, OfTask, built, content_types, field_types, is_root, is_root_class, is_whole_class, object_of, value_fits, with_keys}
use Rattle.kilim_isolation_laws.specs.graph_rows.Facts.{ProgramKeeps}
use Rattle.kilim_isolation_laws.specs.graph_rows.Holds.{Sort, Tree, Trees, field_sort, field_sort_of, is_tree_sort, object_sort, sort_by, stuff_of, type_sort}
use Rattle.kilim_isolation_laws.proofs.heaps.Contents.{AreShared, FitsBy, array_types, content_shared, leaf_fits, leaf_none, ref_fits}
use Rattle.kilim_isolation_laws.proofs.heaps.Owned.{Owned, at_first, at_left, at_parts, at_right, at_split, behind_first, leaf_owned, more_owned, no_values, object_at, object_owned, of_array, place_of, these_held}
use Rattle.kilim_isolation_laws.proofs.heaps.Reading.{IsLeaf, built_is}
use Rattle.kilim_isolation_laws.proofs.heaps.Sorts.{IsShared, class_value, object_shared, whole_name}

none_some : {A : Type 0} (x : A) → None ≡ Some x → ⊥
none_some x e = cc

-- the sorts of types of objects depend on no method
a_method : Method
a_method = record {
  name = [];
  owner = record { 0 = 0 };
  params = [];
  result = None;
  is_static = false;
  is_private = false;
  is_abstract = false;
  built_in = false;
  pausable = false;
  receiver = qualifier.Safe;
  qualifiers = [];
  max_stack = 0;
  max_locals = 0;
  code_length = 0;
  code = [];
  frames = [];
  handlers = [];
}

kept_all : (test : FieldId → Bool) (fs : List FieldId) → list_all test (filter test fs) ≡ true
kept_all test [] = refl
kept_all test (f ∷ fs) = by (test f) refl (kept_all test fs)
  where
    by : (z : Bool) → test f ≡ z → list_all test (filter test fs) ≡ true → list_all test (cond z (f ∷ filter test fs) (filter test fs)) ≡ true
    by true e rest = and_from (test f) (list_all test (filter test fs)) e rest
    by false e rest = rest

module _ (p : Program) where
  -- these names, one behind the other, are of the classes of these objects
  abbrev pub Placed : (ℕ → Option Ty) → ℕ → List Object → Type 0
  Placed of base os = (n : ℕ) (o : Object) → object_at base os n ≡ Some o → of n ≡ Some o.class

  -- a tree object, whose content fits
  pub record IsSorted (of : ℕ → Option Ty) (o : Object) : Type 0 where
    pub tree : is_tree_sort (object_sort p o.class) ≡ true
    pub fields : (f : FieldId) (v : Value) → field_in o.fields f ≡ Some v → FitsBy p of (field_sort p f) v × IsShared (field_sort p f)
    pub elements : (k : ℕ) (v : Value) → slice_get o.elements k ≡ Some v → FitsBy p of (type_sort p (element_type o.class)) v × IsShared (type_sort p (element_type o.class))

  abbrev pub AllSorted : (ℕ → Option Ty) → ℕ → List Object → Type 0
  AllSorted of base os = (n : ℕ) (o : Object) → object_at base os n ≡ Some o → IsSorted of o

  abbrev Taken : (ℕ → Option Ty) → Awaits → List Value → Type 0
  Taken of (Fields []) [] = Unit {0}
  Taken of (Fields []) (v ∷ vs) = ⊥
  Taken of (Fields (ty ∷ tys)) [] = ⊥
  Taken of (Fields (ty ∷ tys)) (v ∷ vs) = FitsBy p of (type_sort p ty) v × Taken of (Fields tys) vs
  Taken of (Elements ty) vs = (k : ℕ) (v : Value) → slice_get vs k ≡ Some v → FitsBy p of (type_sort p ty) v

  record One (base : ℕ) (ty : Ty) (v : Value) (os : List Object) : Type 0 where
    owned : Owned base (v ∷ []) os
    fits : (of : ℕ → Option Ty) → Placed of base os → IsShared (type_sort p ty) → FitsBy p of (type_sort p ty) v × AllSorted of base os

  record Many (base : ℕ) (a : Awaits) (vs : List Value) (os : List Object) : Type 0 where
    owned : Owned base vs os
    fits : (of : ℕ → Option Ty) → Placed of base os → AreShared p a → Taken of a vs × AllSorted of base os

  -- ---- an object of its content

  keyed_fits : (of : ℕ → Option Ty) (fs : List FieldId) (vs : List Value) (f : FieldId) (v : Value) → list_all (is_instance_field p) fs ≡ true → AreShared p (Fields (field_types p fs)) → Taken of (Fields (field_types p fs)) vs → field_in (with_keys fs vs) f ≡ Some v →
      FitsBy p of (field_sort p f) v × IsShared (field_sort p f)
  keyed_fits of [] vs f v all shared taken e = absurd (none_some v e)
  keyed_fits of (g ∷ gs) vs f v all shared taken e =
      let parts = and_parts (is_instance_field p g) (list_all (is_instance_field p) gs) all in
      by (field_of p g) refl vs parts.0 shared taken e (λ ws s t d. keyed_fits of gs ws f v parts.1 s t d)
    where
      by : (o : Option Field) → field_of p g ≡ o → (vs : List Value) → (elim o [ None ↦ false | Some field ↦ not field.is_static ]) ≡ true → AreShared p (Fields (elim o [ None ↦ field_types p gs | Some field ↦ field.ty ∷ field_types p gs ])) →
          Taken of (Fields (elim o [ None ↦ field_types p gs | Some field ↦ field.ty ∷ field_types p gs ])) vs → field_in (with_keys (g ∷ gs) vs) f ≡ Some v →
          ((ws : List Value) → AreShared p (Fields (field_types p gs)) → Taken of (Fields (field_types p gs)) ws → field_in (with_keys gs ws) f ≡ Some v → FitsBy p of (field_sort p f) v × IsShared (field_sort p f)) →
          FitsBy p of (field_sort p f) v × IsShared (field_sort p f)
      by None is vs own shared taken e again = absurd (true≢false (sym own))
      by (Some field) is [] own shared taken e again = absurd taken
      by (Some field) is (w ∷ ws) own shared taken e again = test (eqb g.0 f.0) refl e
        where
          here : eqb g.0 f.0 ≡ true → w ≡ v → FitsBy p of (field_sort p f) v × IsShared (field_sort p f)
          here same value =
              let sort_is : type_sort p field.ty ≡ field_sort p f = ap (field_sort_of p) (sym is) ∙ ap (λ (n : ℕ). field_sort_of p (slice_get p.fields n)) (eqb-true g.0 f.0 same) in
              (subst (λ (s : Sort). FitsBy p of s v) sort_is (subst (FitsBy p of (type_sort p field.ty)) value taken.0), subst IsShared sort_is shared.0)

          test : (b : Bool) → eqb g.0 f.0 ≡ b → cond b (Some w) (field_in (with_keys gs ws) f) ≡ Some v → FitsBy p of (field_sort p f) v × IsShared (field_sort p f)
          test true same d = here same (value_same w v d)
            where
              value_same : (a b : Value) → Some a ≡ Some b → a ≡ b
              value_same a b d = cc
          test false other d = again ws shared.1 taken.1 d

  made_sorted : (of : ℕ → Option Ty) (d : ℕ) (b : Base) (vs : List Value) → is_whole_class p (record { dims = d; base = b }) ≡ true → is_tree_sort (object_sort p (record { dims = d; base = b })) ≡ true → AreShared p (content_types p (record { dims = d; base = b })) →
      Taken of (content_types p (record { dims = d; base = b })) vs → IsSorted of (object_of p (record { dims = d; base = b }) vs)
  made_sorted of zero (base.Class c) vs whole tree shared taken = record {
    tree = tree;
    fields = λ f v e. keyed_fits of (object_fields p c) vs f v (kept_all (is_instance_field p) _) shared taken e;
    elements = λ k v e. absurd (none_some v e);
  }
  made_sorted of (suc d) b vs whole tree shared taken = subst (IsSorted of) (sym (of_array p d b vs)) (record {
    tree = tree;
    fields = λ f v e. absurd (none_some v e);
    elements = λ k v e. subst (λ (n : ℕ). FitsBy p of (type_sort p (record { dims = n; base = b })) v × IsShared (type_sort p (record { dims = n; base = b }))) (let n : d ≡ suc d - 1 = omega arith in n) (all k v e, all_shared);
  })
    where
      all : (k : ℕ) (v : Value) → slice_get vs k ≡ Some v → FitsBy p of (type_sort p (record { dims = d; base = b })) v
      all = subst (λ (a : Awaits). Taken of a vs) (array_types p d b) taken

      all_shared : IsShared (type_sort p (record { dims = d; base = b }))
      all_shared = subst (AreShared p) (array_types p d b) shared
  made_sorted of zero base.Bool vs whole tree shared taken = absurd (true≢false (sym whole))
  made_sorted of zero base.Byte vs whole tree shared taken = absurd (true≢false (sym whole))
  made_sorted of zero base.Char vs whole tree shared taken = absurd (true≢false (sym whole))
  made_sorted of zero base.Short vs whole tree shared taken = absurd (true≢false (sym whole))
  made_sorted of zero base.Int vs whole tree shared taken = absurd (true≢false (sym whole))
  made_sorted of zero base.Long vs whole tree shared taken = absurd (true≢false (sym whole))

  class_by : (d : ℕ) (b : Base) (vs : List Value) → (object_of p (record { dims = d; base = b }) vs).class ≡ record { dims = d; base = b }
  class_by zero b vs = refl
  class_by (suc d) b vs = ap (λ (o : Object). o.class) (of_array p d b vs)

  pub class_of_made : (ty : Ty) (vs : List Value) → (object_of p ty vs).class ≡ ty
  class_of_made ty vs = class_by ty.dims ty.base vs

  module _ (k : ProgramKeeps p) where
    no_objects : (of : ℕ → Option Ty) (base : ℕ) → AllSorted of base []
    no_objects of base n o e = absurd (none_some o e)

    -- an object of a tree class, and what is below it
    below_sorted : (of : ℕ → Option Ty) (base : ℕ) (ty : Ty) (vs : List Value) (os : List Object) → is_whole_class p ty ≡ true → is_tree_sort (object_sort p ty) ≡ true → Many (suc base) (content_types p ty) vs os → Placed of base (object_of p ty vs ∷ os) →
        AllSorted of base (object_of p ty vs ∷ os)
    below_sorted of base ty vs os whole tree many placed n o e =
        let shared = content_shared p k ty.dims ty.base whole tree in
        let inner = many.fits of (λ n o e. placed n o (behind_first base (object_of p ty vs) os n o e)) shared in
        elim (at_parts base (object_of p ty vs) os n o e) [
          | inl t ↦ subst (IsSorted of) t.1 (made_sorted of ty.dims ty.base vs whole tree shared inner.0)
          | inr later ↦ inner.1 n o later
        ]

    object_of_owned : (base : ℕ) (ty : Ty) (vs : List Value) (os : List Object) → Owned (suc base) vs os → Owned base (Ref base ∷ []) (object_of p ty vs ∷ os)
    object_of_owned base ty vs os owned = object_owned base (place_of p ty.dims ty.base) (object_of p ty vs) vs os (these_held p ty.dims ty.base vs) owned

    leaves : (base : ℕ) (ty : Ty) (t : Token) (v : Value) → IsLeaf t v → value_fits p ty t ≡ true → One base ty v []
    leaves base ty t v is fit = record { owned = leaf_owned base v (leaf_none p t v is); fits = λ of placed shared. (leaf_fits p of ty t v is fit, no_objects of base) }

    opens : (base : ℕ) (ty found : Ty) (vs : List Value) (os : List Object) → fits_type p found ty ≡ true → is_whole_class p found ≡ true → Many (suc base) (content_types p found) vs os → One base ty (Ref base) (object_of p found vs ∷ os)
    opens base ty found vs os fit whole many = record {
      owned = object_of_owned base found vs os many.owned;
      fits = λ of placed shared.
          let s = object_shared p k.flow a_method found ty fit whole shared in
          let here = placed base (object_of p found vs) (at_first base (object_of p found vs) os) ∙ ap (λ (c : Ty). Some c) (class_of_made found vs) in
          (ref_fits p of found base (type_sort p ty) s.0 s.1 here, below_sorted of base found vs os whole s.1 many placed);
    }

    no_fields : (base : ℕ) → Many base (Fields []) [] []
    no_fields base = record { owned = no_values base; fits = λ of placed shared. (tt, no_objects of base) }

    no_elements : (base : ℕ) (ty : Ty) → Many base (Elements ty) [] []
    no_elements base ty = record { owned = no_values base; fits = λ of placed shared. ((λ j v e. absurd (none_some v e)), no_objects of base) }

    joined : (of : ℕ → Option Ty) (base : ℕ) (os qs : List Object) → AllSorted of base os → AllSorted of (base + length os) qs → AllSorted of base (os ++ qs)
    joined of base os qs a b n o e = elim (at_split base os qs n o e) [ inl l ↦ a n o l | inr r ↦ b n o r ]

    fields : (base : ℕ) (ty : Ty) (tys : List Ty) (v : Value) (vs : List Value) (os qs : List Object) → One base ty v os → Many (base + length os) (Fields tys) vs qs → Many base (Fields (ty ∷ tys)) (v ∷ vs) (os ++ qs)
    fields base ty tys v vs os qs one many = record {
      owned = more_owned base v vs os qs one.owned many.owned;
      fits = λ of placed shared.
          let a = one.fits of (λ n o e. placed n o (at_left base os qs n o e)) shared.0 in
          let b = many.fits of (λ n o e. placed n o (at_right base os qs n o e)) shared.1 in
          ((a.0, b.0), joined of base os qs a.1 b.1);
    }

    all_taken : (of : ℕ → Option Ty) (ty : Ty) (v : Value) (vs : List Value) → FitsBy p of (type_sort p ty) v → Taken of (Elements ty) vs → Taken of (Elements ty) (v ∷ vs)
    all_taken of ty v vs here rest zero w e = subst (FitsBy p of (type_sort p ty)) (value_is v w e) here
      where
        value_is : (a b : Value) → Some a ≡ Some b → a ≡ b
        value_is a b e = cc
    all_taken of ty v vs here rest (suc j) w e = rest j w e

    elements : (base : ℕ) (ty : Ty) (v : Value) (vs : List Value) (os qs : List Object) → One base ty v os → Many (base + length os) (Elements ty) vs qs → Many base (Elements ty) (v ∷ vs) (os ++ qs)
    elements base ty v vs os qs one many = record {
      owned = more_owned base v vs os qs one.owned many.owned;
      fits = λ of placed shared.
          let a = one.fits of (λ n o e. placed n o (at_left base os qs n o e)) shared in
          let b = many.fits of (λ n o e. placed n o (at_right base os qs n o e)) shared in
          (all_taken of ty v vs a.0 b.0, joined of base os qs a.1 b.1);
    }

    -- ---- the root

    root_class : (root : Root) (c : ClassId) → is_root_class p root c ≡ true → (is_task p c || is_message p c) ≡ true
    root_class OfTask c e = ap (λ (b : Bool). b || is_message p c) e
    root_class OfMessage c e = or_right (is_task p c) (is_message p c) (by (class_at p c) e)
      where
        by : (o : Option Class) → (elim o [ None ↦ false | Some class ↦ class.message ]) ≡ true → is_marked o ≡ true
        by None e = e
        by (Some class) e = e

        or_right : (a b : Bool) → b ≡ true → (a || b) ≡ true
        or_right true b e = refl
        or_right false b e = e

    root_by : (root : Root) (d : ℕ) (b : Base) → is_root p root (record { dims = d; base = b }) ≡ true → is_whole_class p (record { dims = d; base = b }) ≡ true → object_sort p (record { dims = d; base = b }) ≡ Tree 0 Trees
    root_by root zero (base.Class c) e whole =
        let tree : class_kind p c ≡ kind.Tree =
        class_value p (class_name p c) (if is_task p c || is_message p c then kind.Tree else kind.Private) (whole_name p c whole) ∙ ap (λ (b : Bool). if b then kind.Tree else kind.Private) (root_class root c e) in
        ap (sort_by p (record { dims = 0; base = base.Class c })) tree ∙ ap (λ (z : Kind). Tree 0 (stuff_of p (base.Class c) z)) tree
    root_by root (suc d) b e whole = absurd (true≢false (sym (and_parts (eqb (suc d) 0) _ e).0 ∙ ne_eqb (suc d) 0 (λ s. omega (arith, s))))
    root_by root zero base.Bool e whole = absurd (true≢false (sym e))
    root_by root zero base.Byte e whole = absurd (true≢false (sym e))
    root_by root zero base.Char e whole = absurd (true≢false (sym e))
    root_by root zero base.Short e whole = absurd (true≢false (sym e))
    root_by root zero base.Int e whole = absurd (true≢false (sym e))
    root_by root zero base.Long e whole = absurd (true≢false (sym e))

    pub record IsTreeOf (base : ℕ) (objects : List Object) : Type 0 where
      pub owned : Owned base (Ref base ∷ []) objects
      pub sorted : (of : ℕ → Option Ty) → Placed of base objects → AllSorted of base objects
      pub first : Object
      pub at : object_at base objects base ≡ Some first
      pub root : object_sort p first.class ≡ Tree 0 Trees

    pub tree_built : (root : Root) (base : ℕ) (shape : List Token) (objects : List Object) → built p root base shape ≡ Some objects → IsTreeOf base objects
    tree_built root base shape objects e =
        let b = built_is p One Many leaves opens no_fields no_elements fields elements root base shape objects e in
        let sort = root_by root b.ty.dims b.ty.base b.kind b.whole in
        subst (λ (os : List Object). IsTreeOf base os) (sym b.is) (record {
          owned = object_of_owned base b.ty b.values b.rest b.holds.owned;
          sorted = λ of placed. below_sorted of base b.ty b.values b.rest b.whole (ap is_tree_sort sort) b.holds placed;
          first = object_of p b.ty b.values;
          at = at_first base (object_of p b.ty b.values) b.rest;
          root = ap (object_sort p) (class_of_made b.ty b.values) ∙ sort;
        })
