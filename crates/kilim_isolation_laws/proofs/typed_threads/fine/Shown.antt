-- No object of a heap that fits holds a fiber, in plain form.
use Rattle.std.proofs.Common.{◌≡◌, ℕ, zero, suc, Bool, true, cond, List, [], ◌∷◌, ◌++◌, length, Option, Some, None, refl, sym, ap, subst, ◌∙◌}
use Rattle.std.specs.Prelude.{◌&&◌, not, codes}
use Rattle.std.specs.List.{AllByRecursion, list_all}
use Rattle.std.specs.Str.{bytes_eq}
use Rattle.std.specs.FinMap.{get}
use Rattle.std.proofs.lemmas.Bool.{and_parts, not-true}
use Rattle.kilim_program.specs.declared.class.Class.{Class}
use Rattle.kilim_program.specs.declared.class.Field.{Field}
use Rattle.kilim_program.specs.declared.class.Form.TheVariants.{Plain}
use Rattle.kilim_program.specs.declared.class.Form.{Form}
use Rattle.kilim_program.specs.declared.names.FieldId.{FieldId}
use Rattle.kilim_program.specs.declared.ty.Base.{Base}
use Rattle.kilim_program.specs.declared.ty.Base.TheVariants as base
use Rattle.kilim_program.specs.declared.ty.Ty.{Ty}
use Rattle.kilim_program.specs.declared.value.Value.{Value}
use Rattle.kilim_program.specs.declared.value.Value.TheVariants as value
use Rattle.kilim_program.specs.BuiltIn.{built_in_classes_in}
use Rattle.kilim_program.specs.Keeps.{Keeps, is_open_superclass, own_class_fits}
use Rattle.kilim_program.specs.Names.{class_from, field_of}
use Rattle.kilim_program.specs.Program.{Program}
use Rattle.kilim_run_state.specs.declared.value.Object.{Object}
use Rattle.kilim_program.specs.Members.{named_class, named_type}
use Rattle.kilim_run_state.specs.Machine.{Objects}
use Rattle.kilim_program.specs.Members.{object_fields}
use Rattle.kilim_run_trees.specs.Shaping.{IsShown, field_values, held}
use Rattle.kilim_type_sound.specs.Fits.{Classes, ContentFits, FieldFits, FieldsFit, HeapFits, is_of, is_value_of}
use Rattle.kilim_type_laws.proofs.members.ValueClasses.{own_fits}

abbrev fiber_name : List ℕ
fiber_name = codes "kilim/Fiber"

abbrev has_other_name : Class → Bool
has_other_name c = not (bytes_eq c.name fiber_name)

-- where each of the classes has another name there is none of that name
none_named : (cs : List Class) (n : ℕ) → list_all has_other_name cs ≡ true → class_from cs fiber_name n ≡ None
none_named [] n e = refl
none_named (c ∷ cs) n e =
    let parts = and_parts (has_other_name c) (list_all has_other_name cs) e in
    ap (λ (z : Bool). cond z (Some (record { 0 = n })) (class_from cs fiber_name (suc n))) (not-true _ parts.0) ∙ none_named cs (suc n) parts.1

all_both : (cs ds : List Class) → list_all has_other_name cs ≡ true → list_all has_other_name ds ≡ true → list_all has_other_name (cs ++ ds) ≡ true
all_both [] ds a b = b
all_both (c ∷ cs) ds a b =
    let parts = and_parts (has_other_name c) (list_all has_other_name cs) a in
    ap (λ (z : Bool). z && list_all has_other_name (cs ++ ds)) parts.0 ∙ all_both cs ds parts.1 b

module _ (p : Program) (keeps : Keeps p) (form : p.form ≡ Plain) where
  own_named : (cs : List Class) → list_all (own_class_fits p) cs ≡ true → list_all has_other_name cs ≡ true
  own_named [] e = refl
  own_named (c ∷ cs) e =
      let parts = and_parts (own_class_fits p c) (list_all (own_class_fits p) cs) e in
      ap (λ (z : Bool). z && list_all has_other_name cs) (and_parts (has_other_name c) (is_open_superclass p c.superclass) parts.0).0 ∙ own_named cs parts.1

  pub no_fiber_class : named_type p fiber_name ≡ None
  no_fiber_class =
      let own = keeps.built_in.own_classes in
      let methods = length keeps.built_in.own_methods in
      let built : list_all has_other_name (built_in_classes_in p.form (length own) methods) ≡ true = subst (λ (f : Form). list_all has_other_name (built_in_classes_in f (length own) methods) ≡ true) (sym form) refl in
      ap named_class (none_named p.classes 0 (subst (λ (cs : List Class). list_all has_other_name cs ≡ true) (sym keeps.built_in.classes) (all_both own _ (own_named own (own_fits p keeps)) built)))

  module _ (of : Classes) where
    value_shown : (ty : Ty) (v : Value) → is_value_of p of ty v ≡ true → IsShown v
    value_shown ty (value.Int x) e = tt
    value_shown ty (value.Long x) e = tt
    value_shown ty value.Null e = tt
    value_shown ty (value.Ref n) e = tt
    value_shown ty (value.Text units) e = tt
    value_shown ty (value.Box box) e = tt
    value_shown ty value.Fiber e = let none = ap (λ (o : Option Ty). is_of p o ty) no_fiber_class in absurd (cc)

    field_shown : (o : Option Field) (v : Value) → FieldFits p of o v → IsShown v
    field_shown None v e = absurd e
    field_shown (Some field) v e = value_shown field.ty v e

    fields_shown : (fs : List FieldId) (es : List (FieldId × Value)) → FieldsFit p of fs es → AllByRecursion IsShown (field_values es ++ [])
    fields_shown [] [] e = tt
    fields_shown (f ∷ fs) (x ∷ es) e = (field_shown (field_of p f) x.1 e.1, fields_shown fs es e.2)
    fields_shown [] (x ∷ es) e = absurd e
    fields_shown (f ∷ fs) [] e = absurd e

    elements_shown : (ty : Ty) (vs : List Value) → list_all (is_value_of p of ty) vs ≡ true → AllByRecursion IsShown vs
    elements_shown ty [] e = tt
    elements_shown ty (v ∷ vs) e = let parts = and_parts (is_value_of p of ty v) (list_all (is_value_of p of ty) vs) e in (value_shown ty v parts.0, elements_shown ty vs parts.1)

    content_shown : (d : ℕ) (b : Base) (o : Object) → ContentFits p of d b o → AllByRecursion IsShown (held o)
    content_shown zero (base.Class c) o e = subst (λ (vs : List Value). AllByRecursion IsShown (field_values o.fields ++ vs)) (sym e.2) (fields_shown (object_fields p c) o.fields e.1)
    content_shown (suc d) b o e = subst (λ (es : List (FieldId × Value)). AllByRecursion IsShown (field_values es ++ o.elements)) (sym e.0) (elements_shown (record { dims = d; base = b }) o.elements e.1)
    content_shown zero base.Bool o e = absurd e
    content_shown zero base.Byte o e = absurd e
    content_shown zero base.Char o e = absurd e
    content_shown zero base.Short o e = absurd e
    content_shown zero base.Int o e = absurd e
    content_shown zero base.Long o e = absurd e

    pub heap_shown : (h : Objects) → HeapFits p of h → (n : ℕ) (o : Object) → get h n ≡ Some o → AllByRecursion IsShown (held o)
    heap_shown h heap n o e = content_shown o.class.dims o.class.base o (heap.objects n o e)
