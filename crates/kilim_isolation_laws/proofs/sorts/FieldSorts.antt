-- An object of a class may hold what its fields are declared to hold.
use Rattle.std.proofs.Common.{◌≡◌, ◌⊎◌, inl, inr, ℕ, zero, suc, ◌+◌, Bool, true, false, true≢false, cond, eqb, List, [], ◌∷◌, ◌++◌, length, map, reverse, filter, Option, Some, None, refl, sym, ap, subst, ◌∙◌, arith}
use Rattle.std.specs.Prelude.{◌&&◌, ◌||◌, not, slice_get, codes}
use Rattle.std.specs.List.{flat_map}
use Rattle.std.specs.Str.{bytes_eq}
use Rattle.std.proofs.lemmas.Bool.{and_parts, eqb-true, eq-eqb}
use Rattle.kilim_program.specs.declared.class.Class.{Class}
use Rattle.kilim_program.specs.declared.class.Field.{Field}
use Rattle.kilim_program.specs.declared.names.ClassId.{ClassId}
use Rattle.kilim_program.specs.declared.names.FieldId.{FieldId}
use Rattle.kilim_program.specs.declared.ty.Base.{Base}
use Rattle.kilim_program.specs.declared.ty.Base.TheVariants as base
use Rattle.kilim_program.specs.declared.ty.Kind.{Kind}
use Rattle.kilim_program.specs.declared.ty.Kind.TheVariants as kind
use Rattle.kilim_program.specs.declared.ty.Ty.{Ty}
use Rattle.kilim_program.specs.declared.value.Value.{Value}
use Rattle.kilim_program.specs.Program.{Program}
use Rattle.kilim_program.specs.BuiltIn.{class_id, class_type}
use Rattle.kilim_program.specs.Kinds.{class_kind, field_may_hold, is_private_kind, is_task_type, is_tree_kind, is_value_kind, kind_of}
use Rattle.kilim_program.specs.Fits.{is_named}
use Rattle.kilim_program.specs.Keeps.{Keeps, fields_fit, members_are_owned, owned_from}
use Rattle.kilim_program.specs.Names.{class_at, field_of, fields_of, line_of}
use Rattle.kilim_program.specs.Members.{is_instance_field, object_fields}
use Rattle.kilim_run_state.specs.Objects.{first_field, new_object}
use Rattle.kilim_run_state.specs.Shapes.{field_in}
use Rattle.std.proofs.lemmas.Grind.{flat_map-append}
use Rattle.std.proofs.lemmas.List.{reverse-append}
use Rattle.kilim_lemmas.proofs.Texts.{text_is}
use Rattle.kilim_type_laws.proofs.members.ClassMethods.{IsAmong, any_among, owner_is}
use Rattle.kilim_type_laws.proofs.members.FromKeeps.{all_at}
use Rattle.kilim_type_laws.proofs.members.Through.{each_at, object_at, object_top}
use Rattle.kilim_isolation_laws.proofs.sorts.Lines.{in_line}
use Rattle.kilim_type_spec.specs.Step as type
use Rattle.kilim_isolation_laws.specs.graph_rows.Holds.{MayHold, Wide, Word, field_sort, field_sort_of, object_sort, sort_by, sort_of_vtype, type_sort}

among_either : {A : Type 0} (x : A) (xs ys : List A) → IsAmong x (xs ++ ys) → IsAmong x xs ⊎ IsAmong x ys
among_either x [] ys i = inr i
among_either x (z ∷ xs) ys (inl e) = inl (inl e)
among_either x (z ∷ xs) ys (inr i) = elim (among_either x xs ys i) [ inl j ↦ inl (inr j) | inr j ↦ inr j ]

among_filter : {A : Type 0} (keep : A → Bool) (x : A) (xs : List A) → IsAmong x (filter keep xs) → IsAmong x xs
among_filter keep x [] i = i
among_filter {A} keep x (y ∷ xs) i = by (keep y) i (λ j. among_filter keep x xs j)
  where
    by : (z : Bool) → IsAmong x (cond z (y ∷ filter keep xs) (filter keep xs)) → (IsAmong x (filter keep xs) → IsAmong x xs) → (x ≡ y) ⊎ IsAmong x xs
    by true (inl e) again = inl e
    by true (inr j) again = inr (again j)
    by false j again = inr (again j)

among_flat : (f : ClassId → List FieldId) (ds : List ClassId) (x : FieldId) → IsAmong x (flat_map f (reverse ds)) → (d : ClassId) × IsAmong d ds × IsAmong x (f d)
among_flat f [] x i = absurd i
among_flat f (d ∷ ds) x i = by (among_either x (flat_map f (reverse ds)) (f d ++ []) (subst (λ (ys : List FieldId). IsAmong x ys) (ap (flat_map f) (reverse-append (d ∷ []) ds) ∙ flat_map-append f (reverse ds) (d ∷ [])) i)) (λ j. among_flat f ds x j)
  where
    by : IsAmong x (flat_map f (reverse ds)) ⊎ IsAmong x (f d ++ []) → (IsAmong x (flat_map f (reverse ds)) → (e : ClassId) × IsAmong e ds × IsAmong x (f e)) → (e : ClassId) × IsAmong e (d ∷ ds) × IsAmong x (f e)
    by (inl j) again = let r = again j in (r.0, inr r.1, r.2)
    by (inr j) again = elim (among_either x (f d) [] j) [ inl k ↦ (d, inl refl, k) | inr k ↦ absurd k ]

to_numbers : (x : FieldId) (fs : List FieldId) → IsAmong x fs → IsAmong x.0 (map (λ (f : FieldId). f.0) fs)
to_numbers x [] i = absurd i
to_numbers x (f ∷ fs) (inl e) = inl (ap (λ (y : FieldId). y.0) e)
to_numbers x (f ∷ fs) (inr i) = inr (to_numbers x fs i)

-- a field that is found is one of those that were written
among_found : (p : Program) (fs : List FieldId) (k : FieldId) (v : Value) → field_in (map (first_field p) fs) k ≡ Some v → IsAmong k fs
among_found p [] k v e = absurd (cc)
among_found p (f ∷ fs) k v e = by (eqb f.0 k.0) refl e (λ later. among_found p fs k v later)
  where
    by : (z : Bool) → eqb f.0 k.0 ≡ z → cond z (Some (first_field p f).1) (field_in (map (first_field p) fs) k) ≡ Some v → (field_in (map (first_field p) fs) k ≡ Some v → IsAmong k fs) → (k ≡ f) ⊎ IsAmong k fs
    by true same e again = inl (ap field_id (sym (eqb-true f.0 k.0 same)))
      where
        field_id : ℕ → FieldId
        field_id n = record { 0 = n }
    by false same e again = inr (again e)

-- ---- what a field of a class of some kind may hold

module _ (p : Program) where
  -- of the holder's sort, and of the field's
  held : (c : ClassId) (ty : Ty) (holder : Kind) → class_kind p c ≡ holder → field_may_hold p holder ty ≡ true → MayHold (object_sort p (class_type c.0)) (type_sort p ty)
  held c ty holder e may = by_dims ty.dims ty.base refl refl
    where
      objects : (h k : Kind) → class_kind p c ≡ h → kind_of p ty ≡ k → field_may_hold p h ty ≡ true → MayHold (sort_by p (class_type c.0) h) (sort_by p ty k)
      objects kind.Value k eh ek m = absurd (true≢false (sym m))
      objects kind.Tree kind.Value eh ek m = tt
      objects kind.Tree kind.Tree eh ek m = tt
      objects kind.Tree kind.Private eh ek m = absurd (let z : (false || (false && not (is_task_type p ty))) ≡ true = subst (λ (k : Kind). (is_value_kind k || (is_tree_kind k && not (is_task_type p ty))) ≡ true) ek m in true≢false (sym z))
      objects kind.Private kind.Value eh ek m = tt
      objects kind.Private kind.Private eh ek m = tt
      objects kind.Private kind.Tree eh ek m = absurd (let z : (false || false) ≡ true = subst (λ (k : Kind). (is_value_kind k || is_private_kind k) ≡ true) ek m in true≢false (sym z))

      object : MayHold (object_sort p (class_type c.0)) (object_sort p ty)
      object = subst (λ (h : Kind). MayHold (sort_by p (class_type c.0) h) (object_sort p ty)) (sym e) (objects holder (kind_of p ty) e refl may)

      words : (h : Kind) → class_kind p c ≡ h → MayHold (sort_by p (class_type c.0) h) Word × MayHold (sort_by p (class_type c.0) h) Wide
      words kind.Value eh = (tt, tt)
      words kind.Tree eh = (tt, tt)
      words kind.Private eh = (tt, tt)

      word : MayHold (object_sort p (class_type c.0)) Word × MayHold (object_sort p (class_type c.0)) Wide
      word = words (class_kind p c) refl

      by_dims : (d : ℕ) (b : Base) → ty.dims ≡ d → ty.base ≡ b → MayHold (object_sort p (class_type c.0)) (sort_of_vtype p (type.dims_vtype ty ty.dims))
      by_dims (suc d) b ed eb = subst (λ (d : ℕ). MayHold (object_sort p (class_type c.0)) (sort_of_vtype p (type.dims_vtype ty d))) (sym ed) object
      by_dims zero b ed eb = subst (λ (d : ℕ). MayHold (object_sort p (class_type c.0)) (sort_of_vtype p (type.dims_vtype ty d))) (sym ed) (subst (λ (b : Base). MayHold (object_sort p (class_type c.0)) (sort_of_vtype p (type.base_vtype ty b))) (sym eb) (by_base b))
        where
          by_base : (b : Base) → MayHold (object_sort p (class_type c.0)) (sort_of_vtype p (type.base_vtype ty b))
          by_base (base.Class k) = object
          by_base base.Long = word.1
          by_base base.Bool = word.0
          by_base base.Byte = word.0
          by_base base.Char = word.0
          by_base base.Short = word.0
          by_base base.Int = word.0

module _ (p : Program) (keeps : Keeps p) where
  numbers_of : (c : ClassId) (class : Class) → class_at p c ≡ Some class → map (λ (f : FieldId). f.0) class.fields ≡ owned_from (λ (f : Field). f.owner) c 0 p.fields
  unfolding members_are_owned
  numbers_of c class at =
      let one = each_at (λ (k : ClassId) (class : Class). bytes_eq (map (λ (f : FieldId). f.0) class.fields) (owned_from (λ (f : Field). f.owner) k 0 p.fields) && bytes_eq (map (λ m. m.0) class.methods) (owned_from (λ m. m.owner) k 0 p.methods)) 0 p.classes c.0 class keeps.members at in
      let number : 0 + c.0 ≡ c.0 = omega arith in
      let same = text_is (map (λ (f : FieldId). f.0) class.fields) (owned_from (λ (f : Field). f.owner) (class_id (0 + c.0)) 0 p.fields) (and_parts (bytes_eq (map (λ (f : FieldId). f.0) class.fields) (owned_from (λ (f : Field). f.owner) (class_id (0 + c.0)) 0 p.fields)) _ one).0 in
      same ∙ ap (λ (k : ℕ). owned_from (λ (f : Field). f.owner) (class_id k) 0 p.fields) number

  owner_of : (d : ClassId) (x : FieldId) → IsAmong x (fields_of p d) → (f : Field) × (field_of p x ≡ Some f) × (f.owner ≡ d)
  owner_of d x i = by (class_at p d) refl i
    where
      by : (o : Option Class) → class_at p d ≡ o → IsAmong x (elim o [ None ↦ [] | Some class ↦ class.fields ]) → (f : Field) × (field_of p x ≡ Some f) × (f.owner ≡ d)
      by None at i = absurd i
      by (Some class) at i =
          let j = subst (λ (ns : List ℕ). IsAmong x.0 ns) (numbers_of d class at) (to_numbers x class.fields i) in
          let r = owner_is (λ (f : Field). f.owner) d p.fields 0 x.0 j in
          let number : r.0 ≡ x.0 = (let e = r.2 in omega (arith, e)) in
          (r.1, ap (λ (k : ℕ). slice_get p.fields k) (sym number) ∙ r.3, ap (λ (k : ℕ). class_id k) r.4)

  not_of_object : (d : ClassId) (x : FieldId) → IsAmong x (fields_of p d) → is_named p (codes "java/lang/Object") d ≡ true → ⊥
  not_of_object d x i o =
      let top = object_top p.form (length keeps.built_in.own_classes) (length keeps.built_in.own_methods) in
      let none : fields_of p d ≡ [] = ap (λ (o : Option Class). elim o [ None ↦ [] | Some class ↦ class.fields ]) (object_at p keeps d o) ∙ top.fields in
      subst (λ (fs : List FieldId). IsAmong x fs) none i

  -- a field that a class declares or inherits
  pub field_held : (c : ClassId) (x : FieldId) → IsAmong x (object_fields p c) → MayHold (object_sort p (class_type c.0)) (field_sort p x)
  unfolding fields_fit
  field_held c x i =
      let w = among_flat (fields_of p) (line_of p c) x (among_filter (is_instance_field p) x (flat_map (fields_of p) (reverse (line_of p c))) i) in
      let f = owner_of w.0 x w.2 in
      let l = any_among (λ (d : ClassId). eqb d.0 w.0.0) (line_of p c) w.0 w.1 (eq-eqb w.0.0 w.0.0 refl) in
      let may = all_at (λ (f : Field). field_may_hold p (class_kind p f.owner) f.ty) p.fields x.0 f.0 keeps.fields f.1 in
      let here : field_may_hold p (class_kind p w.0) f.0.ty ≡ true = subst (λ (d : ClassId). field_may_hold p (class_kind p d) f.0.ty ≡ true) f.2 may in
      subst (λ (o : Option Field). MayHold (object_sort p (class_type c.0)) (field_sort_of p o)) (sym f.1)
      (elim (in_line p keeps (length p.classes) c w.0 l) [
        | inl e ↦ held p c f.0.ty (class_kind p w.0) (sym e) here
        | inr o ↦ absurd (not_of_object w.0 x w.2 o)
      ])

  pub new_fields : (c : ClassId) (k : FieldId) (v : Value) → field_in (new_object p c).fields k ≡ Some v → MayHold (object_sort p (class_type c.0)) (field_sort p k)
  new_fields c k v e = field_held c k (among_found p (object_fields p c) k v e)
