-- All of it.
use Rattle.std.proofs.Common.{◌≡◌, Bool, true, false, List, [], ◌∷◌, ◌++◌, Option, Some, None, refl, sym, ap, subst, ◌∙◌, eqb, not}
use Rattle.std.specs.Prelude.{◌||◌, nat_lt, slice_get, codes}
use Rattle.std.specs.List.{list_all}
use Rattle.std.specs.Str.{bytes_eq}
use Rattle.std.proofs.lemmas.Bool.{and_parts, and_from}
use Rattle.kilim_program.specs.declared.class.Class.{Class}
use Rattle.kilim_program.specs.declared.class.Field.{Field}
use Rattle.kilim_program.specs.declared.class.Form.TheVariants.{Plain}
use Rattle.kilim_program.specs.declared.names.ClassId.{ClassId}
use Rattle.kilim_program.specs.declared.ty.Base.{Base}
use Rattle.kilim_program.specs.declared.ty.Base.TheVariants as base
use Rattle.kilim_program.specs.declared.ty.Ty.{Ty}
use Rattle.kilim_program.specs.declared.value.Value.{Value}
use Rattle.kilim_program.specs.declared.value.Value.TheVariants.{Int, Long, Text}
use Rattle.kilim_program.specs.Keeps.{Keeps, begins_as_array, constant_fits, constants_fit, is_object, is_open_superclass, is_string_base, none_is_named_as_array, own_class_fits, own_classes_fit, own_count}
use Rattle.kilim_program.specs.BuiltIn.{is_exception}
use Rattle.kilim_program.specs.Names.{class_at, class_name, is_named_task}
use Rattle.kilim_lemmas.proofs.Lists.{get_left}
use Rattle.kilim_program.specs.Program.{Program}
use Rattle.kilim_weave_spec.specs.Form.{WovenForm}
use Rattle.kilim_weave_laws.proofs.woven_programs.ClassLists.{named_kept}
use Rattle.kilim_weave_laws.proofs.woven_programs.Theorem.{fiber_parts, grown}
use Rattle.kilim_weave_laws.specs.woven_programs.classes.Law.{WovenClassesKeep}
use Rattle.kilim_weave_laws.proofs.woven_programs.classes.BuiltIns.{ends, files_after, files_before, own_after, own_before}
use Rattle.kilim_weave_laws.proofs.woven_programs.classes.Differing.{members, names}
use Rattle.kilim_weave_laws.proofs.woven_programs.classes.Listing.{all_joined, all_kept}

or_kept : (a b c d : Bool) → (a ≡ true → b ≡ true) → (c ≡ true → d ≡ true) → (a || c) ≡ true → (b || d) ≡ true
or_kept true b c d k l h = ap (λ (z : Bool). z || d) (k refl)
or_kept false true c d k l h = refl
or_kept false false c d k l h = l h

module _ (P W : Program) (counted : List (List Bool)) (keeps : Keeps P) (plainly : P.form ≡ Plain) (form : WovenForm P W counted) where
  abbrev fiber : Class
  fiber = fiber_parts P W counted keeps plainly form

  abbrev more : W.classes ≡ P.classes ++ fiber ∷ []
  more = grown P W counted keeps plainly form

  class_names : none_is_named_as_array W ≡ true
  unfolding none_is_named_as_array
  class_names = ap (list_all (λ (c : Class). not (begins_as_array c.name))) more ∙ all_joined (λ (c : Class). not (begins_as_array c.name)) P.classes (fiber ∷ []) keeps.class_names refl

  -- a class of exceptions has its name
  exception_kept : (up : ClassId) → is_exception (class_name P up) ≡ true → is_exception (class_name W up) ≡ true
  exception_kept up h = by (class_at P up) refl h
    where
      by : (o : Option Class) → class_at P up ≡ o → is_exception (elim o [ None ↦ [] | Some class ↦ class.name ]) ≡ true → is_exception (class_name W up) ≡ true
      by None at h = absurd (cc)
      by (Some class) at h =
          ap (λ (o : Option Class). is_exception (elim o [ None ↦ [] | Some class ↦ class.name ])) (ap (λ (cs : List Class). slice_get cs up.0) more ∙ get_left P.classes (fiber ∷ []) up.0 class at) ∙ h

  open_kept : (up : Option ClassId) → is_open_superclass P up ≡ true → is_open_superclass W up ≡ true
  open_kept None h = absurd (cc)
  open_kept (Some up) h =
      or_kept (nat_lt up.0 (own_count P)) (nat_lt up.0 (own_count W)) (is_object P up || (is_named_task P up || is_exception (class_name P up))) (is_object W up || (is_named_task W up || is_exception (class_name W up)))
      (λ e. ap (nat_lt up.0) (own_after P W counted keeps plainly form ∙ sym (own_before P W counted keeps plainly form)) ∙ e)
      (λ e. or_kept (is_object P up) (is_object W up) (is_named_task P up || is_exception (class_name P up)) (is_named_task W up || is_exception (class_name W up))
      (λ h. named_kept P W fiber more (codes "java/lang/Object") up refl h)
      (λ f. or_kept (is_named_task P up) (is_named_task W up) (is_exception (class_name P up)) (is_exception (class_name W up))
      (λ h. named_kept P W fiber more (codes "kilim/Task") up refl h) (exception_kept up) f) e)
      h

  fits_kept : (c : Class) → own_class_fits P c ≡ true → own_class_fits W c ≡ true
  fits_kept c h =
      let p = and_parts (not (bytes_eq c.name (codes "kilim/Fiber"))) _ h in
      and_from (not (bytes_eq c.name (codes "kilim/Fiber"))) _ p.0 (open_kept c.superclass p.1)

  own_classes : own_classes_fit W ≡ true
  unfolding own_classes_fit
  own_classes =
      ap (list_all (own_class_fits W)) (files_after P W counted keeps plainly form)
      ∙ all_kept (own_class_fits P) (own_class_fits W) fits_kept keeps.built_in.own_classes
      (subst (λ (cs : List Class). list_all (own_class_fits P) cs ≡ true) (files_before P W counted keeps plainly form) keeps.own_classes)

  string_kept : (b : Base) → is_string_base P b ≡ true → is_string_base W b ≡ true
  string_kept (base.Class c) h = named_kept P W fiber more (codes "java/lang/String") c refl h
  string_kept base.Bool h = absurd (cc)
  string_kept base.Byte h = absurd (cc)
  string_kept base.Char h = absurd (cc)
  string_kept base.Short h = absurd (cc)
  string_kept base.Int h = absurd (cc)
  string_kept base.Long h = absurd (cc)

  constant_kept : (ty : Ty) (v : Option Value) → constant_fits P ty v ≡ true → constant_fits W ty v ≡ true
  constant_kept ty (Some (Int n)) h = h
  constant_kept ty (Some (Long n)) h = h
  constant_kept ty (Some (Text units)) h = let p = and_parts (eqb ty.dims 0) _ h in and_from (eqb ty.dims 0) _ p.0 (string_kept ty.base p.1)
  constant_kept ty None h = absurd (cc)
  constant_kept ty (Some v) h = absurd (cc)

  constants : constants_fit W ≡ true
  unfolding constants_fit
  constants =
      ap (list_all (λ (f : Field). not f.is_static || constant_fits W f.ty f.constant)) form.fields
      ∙ all_kept (λ (f : Field). not f.is_static || constant_fits P f.ty f.constant) (λ (f : Field). not f.is_static || constant_fits W f.ty f.constant)
      (λ f h. or_kept (not f.is_static) (not f.is_static) (constant_fits P f.ty f.constant) (constant_fits W f.ty f.constant) (λ e. e) (constant_kept f.ty f.constant) h) P.fields keeps.constants

pub woven_classes : WovenClassesKeep
woven_classes p w counted keeps plainly form = record {
  built_in = ends p w counted keeps plainly form;
  members = members p w counted keeps plainly form;
  names = names p w counted keeps plainly form;
  class_names = class_names p w counted keeps plainly form;
  own_classes = own_classes p w counted keeps plainly form;
  constants = constants p w counted keeps plainly form;
}
