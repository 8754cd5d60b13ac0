-- All of it.
use Rattle.std.proofs.Common.{◌≡◌, ℕ, zero, suc, ◌+◌, ◌<◌, Bool, true, false, cond, eqb, not, List, [], ◌∷◌, ◌++◌, length, map, Option, Some, None, refl, ap, subst, ◌∙◌, arith, ltb-true, ne_eqb}
use Rattle.std.specs.Prelude.{◌&&◌, ◌||◌, slice_get, codes}
use Rattle.std.specs.List.{list_all, list_any, flat_map}
use Rattle.std.specs.Str.{bytes_eq}
use Rattle.std.proofs.lemmas.Bool.{and_parts, and_from}
use Rattle.std.proofs.lemmas.Option.{slice_get_within}
use Rattle.kilim_program.specs.declared.class.Class.{Class}
use Rattle.kilim_program.specs.declared.class.Field.{Field}
use Rattle.kilim_program.specs.declared.class.Form.{Form}
use Rattle.kilim_program.specs.declared.class.Form.TheVariants.{Plain, Woven}
use Rattle.kilim_program.specs.declared.names.ClassId.{ClassId}
use Rattle.kilim_program.specs.declared.ty.Kind.{Kind}
use Rattle.kilim_program.specs.declared.ty.Kind.TheVariants.{Value, Tree, Private}
use Rattle.kilim_program.specs.BuiltIn.{built_in_classes_in, class_id}
use Rattle.kilim_program.specs.Keeps.{Keeps, all_types, ancestors_of, class_ids_there, each_class_from, fields_fit, has_class, has_superclass, has_type, ids_are_places, is_object, line_above, none_is_both, none_is_its_ancestor, superclass_fits, superclass_of, superclasses_fit, types_of_method}
use Rattle.kilim_program.specs.Kinds.{class_kind, field_may_hold, is_marked, is_message, is_private_kind, is_value_class}
use Rattle.kilim_program.specs.Names.{◌>>=◌, class_at, class_name, is_named_task, is_task, line_of, line_up_to}
use Rattle.kilim_program.specs.Program.{Program}
use Rattle.kilim_lemmas.proofs.Lists.{get_last, get_right}
use Rattle.kilim_weave_spec.specs.Form.{WovenForm, first_class}
use Rattle.kilim_type_laws.proofs.members.FromKeeps.{all_at}
use Rattle.kilim_type_laws.proofs.members.Through.{up}
use Rattle.kilim_weave_laws.proofs.woven_programs.Naming.{all_parts}
use Rattle.kilim_weave_laws.proofs.woven_programs.Theorem.{fiber_parts, first_is, grown, how_many}
use Rattle.kilim_weave_laws.proofs.woven_programs.classes.Listing.{each_joined, each_kept}
use Rattle.kilim_weave_laws.specs.woven_programs.kinds.Law.{WovenKindsKeep}
use Rattle.kilim_weave_laws.proofs.woven_programs.kinds.Lines.{IsIn, ancestors_same, any_alike, class_kind_same, hold_same, message_same, name_same, task_same, whole_same}

never : {A : Type 0} (xs : List A) → list_any (λ x. false) xs ≡ false
never [] = refl
never (x ∷ xs) = never xs

object_in : (form : Form) (a b : ℕ) → (c : Class) × (slice_get (built_in_classes_in form a b) 0 ≡ Some c) × (c.superclass ≡ None) × (c.name ≡ codes "java/lang/Object") × (c.message ≡ false)
object_in Plain a b = (_, refl, refl, refl, refl)
object_in Woven a b = (_, refl, refl, refl, refl)

not_both : (x y : Bool) → y ≡ false → not (x && y) ≡ true
not_both x true e = absurd (cc)
not_both true false e = refl
not_both false false e = refl

or_true : (x y : Bool) → y ≡ true → (x || y) ≡ true
or_true true y e = refl
or_true false y e = e

all_with : {A : Type 0} (f g : A → Bool) (xs : List A) → ((k : ℕ) (x : A) → slice_get xs k ≡ Some x → g x ≡ f x) → list_all f xs ≡ true → list_all g xs ≡ true
all_with f g [] same h = refl
all_with f g (x ∷ xs) same h = let p = and_parts (f x) _ h in and_from (g x) _ (same 0 x refl ∙ p.0) (all_with f g xs (λ k y e. same (suc k) y e) p.1)

map_at : {A B : Type 0} (f : A → B) (xs : List A) (k : ℕ) (x : A) → slice_get xs k ≡ Some x → slice_get (map f xs) k ≡ Some (f x)
map_at f [] k x e = absurd (cc)
map_at f (y ∷ xs) zero x e = let s : y ≡ x = cc in ap (λ z. Some (f z)) s
map_at f (y ∷ xs) (suc k) x e = map_at f xs k x e

module _ (P W : Program) (counted : List (List Bool)) (keeps : Keeps P) (plainly : P.form ≡ Plain) (form : WovenForm P W counted) where
  abbrev fiber : Class
  fiber = fiber_parts P W counted keeps plainly form

  abbrev more : W.classes ≡ P.classes ++ fiber ∷ []
  more = grown P W counted keeps plainly form

  abbrev last : ClassId
  last = class_id (0 + length P.classes)

  abbrev object : ClassId
  object = class_id (first_class P)

  object_is_in : first_class P < length P.classes
  object_is_in = let e = first_is P W counted keeps plainly form in let n = how_many P W counted keeps plainly form in omega (arith, e, n)

  fiber_there : class_at W last ≡ Some fiber
  fiber_there =
      let number : 0 + length P.classes ≡ length P.classes = omega arith in
      ap (λ (n : ℕ). slice_get W.classes n) number ∙ (ap (λ (cs : List Class). slice_get cs (length P.classes)) more ∙ get_last P.classes fiber)

  -- what holds of each class of the plain program and of the fiber, holds of each
  each_woven : (f g : ClassId → Class → Bool) → ((c : ClassId) (class : Class) → IsIn P W keeps fiber more c → class_at P c ≡ Some class → f c class ≡ true → g c class ≡ true) → g last fiber ≡ true → each_class_from f 0 P.classes ≡ true → each_class_from g 0 W.classes ≡ true
  each_woven f g kept ends h =
      ap (each_class_from g 0) more
      ∙ each_joined g 0 P.classes (fiber ∷ [])
      (each_kept f g 0 P.classes (λ k x e. let number : 0 + k ≡ k = omega arith in let less = slice_get_within P.classes k x e in kept (class_id (0 + k)) x (omega (arith, less)) (ap (λ (n : ℕ). slice_get P.classes n) number ∙ e)) h)
      (and_from (g last fiber) true ends refl)

  -- ---- lines

  ancestors : none_is_its_ancestor W ≡ true
  unfolding none_is_its_ancestor
  ancestors =
      each_woven (λ c class. not (list_any (λ d. eqb d.0 c.0) (ancestors_of P c))) (λ c class. not (list_any (λ d. eqb d.0 c.0) (ancestors_of W c)))
      (λ c class less at h. ap (λ (ds : List ClassId). not (list_any (λ d. eqb d.0 c.0) ds)) (ancestors_same P W keeps fiber more c less) ∙ h)
      (ap not none) keeps.ancestors
    where
      none : list_any (λ d. eqb d.0 last.0) (ancestors_of W last) ≡ false
      none =
          ap (λ (o : Option Class). list_any (λ d. eqb d.0 last.0) (line_above W (superclass_of o))) fiber_there
          ∙ (ap (list_any (λ d. eqb d.0 last.0)) (whole_same P W keeps fiber more object object_is_in)
          ∙ (any_alike P W keeps fiber more (λ d. eqb d.0 last.0) (λ d. false) (λ d less. ne_eqb d.0 last.0 (λ e. omega (arith, e, less))) (length P.classes) object object_is_in
          ∙ never (line_of P object)))

  both : none_is_both W ≡ true
  unfolding none_is_both
  both =
      each_woven (λ c class. not (is_task P c && is_message P c)) (λ c class. not (is_task W c && is_message W c))
      (λ c class less at h. ap (λ (b : Bool). not (b && is_message W c)) (task_same P W keeps fiber more c less) ∙ (ap (λ (b : Bool). not (is_task P c && b)) (message_same P W keeps fiber more c less) ∙ h))
      (not_both (is_task W last) (is_message W last) (ap is_marked fiber_there)) keeps.both

  -- ---- superclasses

  object_there : (c : Class) × (class_at P object ≡ Some c) × (c.superclass ≡ None) × (c.name ≡ codes "java/lang/Object") × (c.message ≡ false)
  object_there =
      let own = length keeps.built_in.own_classes in
      let o = object_in P.form own (length keeps.built_in.own_methods) in
      let e = first_is P W counted keeps plainly form in (
        o.0,
        ap (λ (cs : List Class). slice_get cs (first_class P)) keeps.built_in.classes
            ∙ (get_right keeps.built_in.own_classes (built_in_classes_in P.form own (length keeps.built_in.own_methods)) (first_class P) 0 (omega (arith, e)) ∙ o.1),
        o.2,
        o.3,
        o.4,
      )

  -- `java/lang/Object` has no superclass and is private
  object_is_private : is_private_kind (class_kind P object) ≡ true
  object_is_private =
      let o = object_there in
      ap (λ (n : List ℕ). is_private_kind (cond (is_value_class n) Value (cond (is_task P object || is_message P object) Tree Private)))
      (named ∙ o.3)
      ∙ (ap (λ (b : Bool). is_private_kind (cond (b || is_message P object) Tree Private)) no_task
      ∙ ap (λ (b : Bool). is_private_kind (cond b Tree Private)) (ap is_marked o.1 ∙ o.4))
    where
      named : class_name P object ≡ object_there.0.name
      named = ap (λ (o : Option Class). elim o [ None ↦ [] | Some class ↦ class.name ]) object_there.1

      no_task : is_task P object ≡ false
      no_task =
          let number : length P.classes ≡ suc (length keeps.built_in.own_classes + 17) = (let n = how_many P W counted keeps plainly form in omega (arith, n)) in
          ap (λ (n : ℕ). list_any (is_named_task P) (line_up_to P n object)) number
          ∙ (ap (λ (o : Option ClassId). list_any (is_named_task P) (object ∷ elim o [ None ↦ [] | Some u ↦ line_up_to P (length keeps.built_in.own_classes + 17) u ])) up_none
          ∙ (ap (λ (n : List ℕ). bytes_eq n (codes "kilim/Task") || false) (named ∙ object_there.3)))
        where
          up_none : up P object ≡ None
          up_none = ap (λ (o : Option Class). o >>= λ (class : Class). class.superclass) object_there.1 ∙ object_there.2

  superclass_there : (c : ClassId) (class : Class) → class_at P c ≡ Some class → (u : ClassId) → class.superclass ≡ Some u → IsIn P W keeps fiber more u
  unfolding ids_are_places
  superclass_there c class at u e =
      let all = (and_parts (list_all (class_ids_there P) P.classes) _ keeps.ids).0 in
      let here = (and_parts (has_superclass P class.superclass) _ (all_at (class_ids_there P) P.classes c.0 class all at)).0 in
      ltb-true u.0 (length P.classes) (subst (λ (o : Option ClassId). has_superclass P o ≡ true) e here)

  object_same : (c : ClassId) → IsIn P W keeps fiber more c → is_object W c ≡ is_object P c
  object_same c less = ap (λ (n : List ℕ). bytes_eq n (codes "java/lang/Object")) (name_same P W keeps fiber more c less)

  superclass_kept : (c : ClassId) (o : Option ClassId) → IsIn P W keeps fiber more c → ((u : ClassId) → o ≡ Some u → IsIn P W keeps fiber more u) → superclass_fits P c o ≡ true → superclass_fits W c o ≡ true
  superclass_kept c None less above h = object_same c less ∙ h
  superclass_kept c (Some u) less above h =
      let in_it = above u refl in
      let same = message_same P W keeps fiber more in
      let kinds = class_kind_same P W keeps fiber more in
      ap (λ (b : Bool). cond b (is_object W u || is_message W u) (not (is_private_kind (class_kind W c)) || is_private_kind (class_kind W u))) (same c less)
      ∙ (ap (λ (b : Bool). cond (is_message P c) (b || is_message W u) (not (is_private_kind (class_kind W c)) || is_private_kind (class_kind W u))) (object_same u in_it)
      ∙ (ap (λ (b : Bool). cond (is_message P c) (is_object P u || b) (not (is_private_kind (class_kind W c)) || is_private_kind (class_kind W u))) (same u in_it)
      ∙ (ap (λ (k : Kind). cond (is_message P c) (is_object P u || is_message P u) (not (is_private_kind k) || is_private_kind (class_kind W u))) (kinds c less)
      ∙ (ap (λ (k : Kind). cond (is_message P c) (is_object P u || is_message P u) (not (is_private_kind (class_kind P c)) || is_private_kind k)) (kinds u in_it) ∙ h))))

  superclasses : superclasses_fit W ≡ true
  unfolding superclasses_fit
  superclasses =
      each_woven (λ c class. superclass_fits P c class.superclass) (λ c class. superclass_fits W c class.superclass)
      (λ c class less at h. superclass_kept c class.superclass less (λ u e. superclass_there c class at u e) h)
      (ap (λ (b : Bool). cond b (is_object W object || is_message W object) (not (is_private_kind (class_kind W last)) || is_private_kind (class_kind W object))) (ap is_marked fiber_there)
      ∙ or_true (not (is_private_kind (class_kind W last))) (is_private_kind (class_kind W object)) (ap is_private_kind (class_kind_same P W keeps fiber more object object_is_in) ∙ object_is_private))
      keeps.superclasses

  -- ---- fields

  fields : fields_fit W ≡ true
  unfolding fields_fit ids_are_places
  fields =
      let i = (and_parts (list_all (class_ids_there P) P.classes) _ keeps.ids).1 in
      let j = and_parts (list_all (λ f. has_class P f.owner) P.fields) _ i in
      let k = (and_parts _ (list_all (has_type P) (all_types P)) j.1).1 in
      let types = (all_parts (has_type P) (map (λ f. f.ty) P.fields) (flat_map types_of_method P.methods) k).0 in
      ap (list_all (λ (f : Field). field_may_hold W (class_kind W f.owner) f.ty)) form.fields
      ∙ all_with (λ (f : Field). field_may_hold P (class_kind P f.owner) f.ty) (λ (f : Field). field_may_hold W (class_kind W f.owner) f.ty) P.fields
      (λ n f e.
      let less = ltb-true f.owner.0 (length P.classes) (all_at (λ (f : Field). has_class P f.owner) P.fields n f j.0 e) in
      let there = all_at (has_type P) (map (λ (f : Field). f.ty) P.fields) n f.ty types (map_at (λ (f : Field). f.ty) P.fields n f e) in
      ap (λ (k : Kind). field_may_hold W k f.ty) (class_kind_same P W keeps fiber more f.owner less) ∙ hold_same P W keeps fiber more (class_kind P f.owner) f.ty there)
      keeps.fields

pub woven_kinds : WovenKindsKeep
woven_kinds p w counted keeps plainly form = record {
  ancestors = ancestors p w counted keeps plainly form;
  both = both p w counted keeps plainly form;
  superclasses = superclasses p w counted keeps plainly form;
  fields = fields p w counted keeps plainly form;
}
