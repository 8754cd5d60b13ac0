-- What can be thrown: an object of a class, no array, and no string, mailbox or fiber.
use Rattle.std.proofs.Common.{◌≡◌, ◌⊎◌, inl, inr, ℕ, zero, suc, ◌+◌, ◌-◌, ◌≤◌, Bool, true, false, eqb, List, [], ◌∷◌, length, Option, Some, None, refl, sym, ap, subst, ◌∙◌, arith}
use Rattle.std.specs.Prelude.{◌&&◌, ◌||◌, slice_get, codes}
use Rattle.std.specs.List.{list_any}
use Rattle.std.specs.Str.{bytes_eq}
use Rattle.std.proofs.lemmas.Bool.{eq-eqb, eqb-true, false_from_ne_true, or_left}
use Rattle.kilim_program.specs.declared.class.Class.{Class}
use Rattle.kilim_program.specs.declared.class.Form.{Form}
use Rattle.kilim_program.specs.declared.class.Form.TheVariants.{Plain, Woven}
use Rattle.kilim_program.specs.declared.names.ClassId.{ClassId}
use Rattle.kilim_program.specs.declared.ty.Base.{Base}
use Rattle.kilim_program.specs.declared.ty.Base.TheVariants as base
use Rattle.kilim_program.specs.declared.ty.Ty.{Ty}
use Rattle.kilim_program.specs.Program.{Program}
use Rattle.kilim_program.specs.BuiltIn.{built_in_classes_in, class_id, class_type}
use Rattle.kilim_program.specs.Fits.{class_assignable, fits_type, is_named}
use Rattle.kilim_program.specs.Kinds.{is_message}
use Rattle.kilim_program.specs.Keeps.{Keeps}
use Rattle.kilim_program.specs.Members.{named_class, named_type}
use Rattle.kilim_program.specs.Names.{◌>>=◌, class_at, class_name, class_named, line_of, line_up_to}
use Rattle.kilim_lemmas.proofs.Lists.{get_right}
use Rattle.kilim_lemmas.proofs.Texts.{text_is}
use Rattle.kilim_type_laws.specs.members.Chosen.{is_value_name}
use Rattle.kilim_type_laws.proofs.members.ValueClasses.{IsAtTop, UpIsFirst, all_of_at, built_at_top, found_name, type_is, value_behind}
use Rattle.kilim_type_sound.specs.Fits.{is_of}
use Rattle.kilim_type_sound.proofs.TextClass.{object_name}

abbrev pub throwable_name : List ℕ
throwable_name = codes "java/lang/Throwable"

top_in : (form : Form) (a b : ℕ) → (c : Class) × (slice_get (built_in_classes_in form a b) 0 ≡ Some c) × (c.superclass ≡ None)
top_in Plain a b = (_, refl, refl)
top_in Woven a b = (_, refl, refl)

module _ (p : Program) (keeps : Keeps p) where
  abbrev n : ℕ
  n = length keeps.built_in.own_classes

  abbrev built : List Class
  built = built_in_classes_in p.form n (length keeps.built_in.own_methods)

  -- ---- the line of a class of values is that class and `java/lang/Object`

  abbrev value_named : ClassId → Bool
  value_named a = is_value_name (class_name p a)

  behind_files : (a : ClassId) (class : Class) → n ≤ a.0 → class_at p a ≡ Some class → slice_get built (a.0 - n) ≡ Some class
  behind_files a class after there =
      let number : a.0 ≡ n + (a.0 - n) = omega (arith, after) in
      sym (get_right keeps.built_in.own_classes built a.0 (a.0 - n) number) ∙ (ap (λ (cs : List Class). slice_get cs a.0) (sym keeps.built_in.classes) ∙ there)

  up_is : (a up : ClassId) → n ≤ a.0 → value_named a ≡ true → (class_at p a >>= λ (class : Class). class.superclass) ≡ Some up → up.0 ≡ n
  up_is a up after value e = by (class_at p a) refl e
    where
      by : (o : Option Class) → class_at p a ≡ o → (o >>= λ (class : Class). class.superclass) ≡ Some up → up.0 ≡ n
      by None there e = absurd (cc)
      by (Some class) there e =
          subst (UpIsFirst n) e
          (all_of_at (IsAtTop n) built (built_at_top p.form n (length keeps.built_in.own_methods)) (a.0 - n) class (behind_files a class after there)
          (subst (λ (o : Option Class). is_value_name (elim o [ None ↦ [] | Some class ↦ class.name ]) ≡ true) there value))

  no_up : (class_at p (class_id n) >>= λ (class : Class). class.superclass) ≡ None
  no_up =
      let top = top_in p.form n (length keeps.built_in.own_methods) in
      let number : n ≡ n + 0 = omega arith in
      ap (λ (o : Option Class). o >>= λ (class : Class). class.superclass) (ap (λ (cs : List Class). slice_get cs n) keeps.built_in.classes ∙ (get_right keeps.built_in.own_classes built n 0 number ∙ top.1)) ∙ top.2

  top_line : (m : ℕ) (d c : ClassId) → d.0 ≡ n → list_any (λ (e : ClassId). eqb e.0 c.0) (line_up_to p m d) ≡ true → c.0 ≡ n
  top_line zero d c first e = absurd (cc)
  top_line (suc m) d c first e =
      by (eqb d.0 c.0) refl (ap (λ (o : Option ClassId). eqb d.0 c.0 || list_any (λ (e : ClassId). eqb e.0 c.0) (elim o [ None ↦ [] | Some up ↦ line_up_to p m up ])) (sym (ap (λ (k : ℕ). class_at p (class_id k) >>= λ (class : Class). class.superclass) first ∙ no_up)) ∙ e)
    where
      by : (z : Bool) → eqb d.0 c.0 ≡ z → (z || false) ≡ true → c.0 ≡ n
      by true same e = sym (eqb-true d.0 c.0 same) ∙ first
      by false same e = absurd (cc)

  in_line : (m : ℕ) (a c : ClassId) → n ≤ a.0 → value_named a ≡ true → list_any (λ (e : ClassId). eqb e.0 c.0) (line_up_to p m a) ≡ true → (a.0 ≡ c.0) ⊎ (c.0 ≡ n)
  in_line zero a c after value e = absurd (cc)
  in_line (suc m) a c after value e = by (eqb a.0 c.0) (class_at p a >>= λ (class : Class). class.superclass) refl refl e
    where
      by : (z : Bool) (o : Option ClassId) → eqb a.0 c.0 ≡ z → (class_at p a >>= λ (class : Class). class.superclass) ≡ o → (z || list_any (λ (e : ClassId). eqb e.0 c.0) (elim o [ None ↦ [] | Some up ↦ line_up_to p m up ])) ≡ true → (a.0 ≡ c.0) ⊎ (c.0 ≡ n)
      by true o is up e = inl (eqb-true a.0 c.0 is)
      by false None is up e = absurd (cc)
      by false (Some d) is up e = inr (top_line m d c (up_is a d after value up) e)

  module _ (c : ClassId) (there : class_named p throwable_name ≡ Some c) where
    name_is : class_name p c ≡ throwable_name
    name_is = text_is (class_name p c) throwable_name (found_name p keeps throwable_name c there)

    other : (name : List ℕ) → bytes_eq throwable_name name ≡ false → is_named p name c ≡ false
    other name apart = ap (λ (t : List ℕ). bytes_eq t name) name_is ∙ apart

    -- ---- a class below it can be thrown

    below : (d : ClassId) → list_any (λ (e : ClassId). eqb e.0 c.0) (line_of p d) ≡ true → list_any (is_named p throwable_name) (line_of p d) ≡ true
    below d e = any_named (line_of p d) e
      where
        one : (d : ClassId) → eqb d.0 c.0 ≡ true → is_named p throwable_name d ≡ true
        one d e = ap (λ (k : ℕ). bytes_eq (class_name p (class_id k)) throwable_name) (eqb-true d.0 c.0 e) ∙ found_name p keeps throwable_name c there

        any_named : (ds : List ClassId) → list_any (λ (e : ClassId). eqb e.0 c.0) ds ≡ true → list_any (is_named p throwable_name) ds ≡ true
        any_named [] e = absurd (cc)
        any_named (d ∷ ds) e = by (eqb d.0 c.0) (is_named p throwable_name d) refl refl e (one d) (any_named ds)
          where
            by : (a b : Bool) → eqb d.0 c.0 ≡ a → is_named p throwable_name d ≡ b → (a || list_any (λ (e : ClassId). eqb e.0 c.0) ds) ≡ true → (eqb d.0 c.0 ≡ true → is_named p throwable_name d ≡ true) →
                (list_any (λ (e : ClassId). eqb e.0 c.0) ds ≡ true → list_any (is_named p throwable_name) ds ≡ true) → (b || list_any (is_named p throwable_name) ds) ≡ true
            by a true is named e one again = refl
            by true false is named e one again = absurd (let z = sym named ∙ one is in cc)
            by false false is named e one again = again e

    pub throwable : (k : ClassId) → fits_type p (class_type k.0) (class_type c.0) ≡ true → list_any (is_named p throwable_name) (line_of p k) ≡ true
    unfolding fits_type
    throwable k e = by (list_any (λ (d : ClassId). eqb d.0 c.0) (line_of p k)) (is_named p (codes "java/lang/Object") c) (is_named p (codes "kilim/Message") c) refl (other (codes "java/lang/Object") refl) (other (codes "kilim/Message") refl) e
      where
        by : (x y z : Bool) → list_any (λ (d : ClassId). eqb d.0 c.0) (line_of p k) ≡ x → y ≡ false → z ≡ false → (x || (y || (z && list_any (is_message p) (line_of p k)))) ≡ true → list_any (is_named p throwable_name) (line_of p k) ≡ true
        by true y z is f g e = below k is
        by false true z is f g e = absurd (cc)
        by false false true is f g e = absurd (cc)
        by false false false is f g e = absurd (cc)

    -- ---- no array

    pub thrown : (d : ℕ) (b : Base) → fits_type p (record { dims = d; base = b }) (class_type c.0) ≡ true → (k : ClassId) × (d ≡ 0) × (b ≡ base.Class k)
    unfolding fits_type
    thrown zero (base.Class k) e = (k, refl, refl)
    thrown zero b e = absurd (cc)
    thrown (suc d) b e = absurd (let no = other (codes "java/lang/Object") refl in cc)

    -- ---- no string, mailbox or fiber

    not_object : c.0 ≡ n → ⊥
    not_object same =
        let named : throwable_name ≡ codes "java/lang/Object" = sym name_is ∙ (ap (λ (k : ℕ). class_name p (class_id k)) same ∙ object_name p keeps p.form refl) in
        let no : true ≡ false = ap (λ (t : List ℕ). bytes_eq t throwable_name) named in
        cc

    not_value : (d : ClassId) (name : List ℕ) → class_named p name ≡ Some d → is_value_name name ≡ true → d.0 ≡ c.0 → ⊥
    not_value d name found value same =
        let named : name ≡ throwable_name = sym (text_is (class_name p d) name (found_name p keeps name d found)) ∙ (ap (λ (k : ℕ). class_name p (class_id k)) same ∙ name_is) in
        let no : false ≡ true = ap is_value_name (sym named) ∙ value in
        cc

    assignable_not : (d : ClassId) (name : List ℕ) → class_named p name ≡ Some d → is_value_name name ≡ true → class_assignable p d c ≡ true → ⊥
    assignable_not d name found value e =
        by (list_any (λ (k : ClassId). eqb k.0 c.0) (line_of p d)) (is_named p (codes "java/lang/Object") c) (is_named p (codes "kilim/Message") c) refl (other (codes "java/lang/Object") refl) (other (codes "kilim/Message") refl) e
      where
        by : (x y z : Bool) → list_any (λ (k : ClassId). eqb k.0 c.0) (line_of p d) ≡ x → y ≡ false → z ≡ false → (x || (y || (z && list_any (is_message p) (line_of p d)))) ≡ true → ⊥
        by true y z is f g e = elim (in_line (length p.classes) d c (value_behind p keeps name d value found) (ap is_value_name (text_is (class_name p d) name (found_name p keeps name d found)) ∙ value) is) [ inl same ↦ not_value d name found value same | inr same ↦ not_object same ]
        by false true z is f g e = cc
        by false false true is f g e = cc
        by false false false is f g e = cc

    pub no_thrown : (name : List ℕ) → is_value_name name ≡ true → is_of p (named_type p name) (class_type c.0) ≡ false
    unfolding fits_type
    no_thrown name value = false_from_ne_true _ (λ e. by (class_named p name) refl e)
      where
        by : (o : Option ClassId) → class_named p name ≡ o → is_of p (named_class o) (class_type c.0) ≡ true → ⊥
        by None found e = cc
        by (Some d) found e = assignable_not d name found value e

  -- ---- what can be thrown is of a class below it

  named_there : (ds : List ClassId) → list_any (is_named p throwable_name) ds ≡ true → (c : ClassId) × (named_type p throwable_name ≡ Some (class_type c.0)) × (list_any (λ (e : ClassId). eqb e.0 c.0) ds ≡ true)
  named_there [] e = absurd (cc)
  named_there (d ∷ ds) e = by (is_named p throwable_name d) refl e (named_there ds)
    where
      or_later : (a b : Bool) → b ≡ true → (a || b) ≡ true
      or_later true b e = refl
      or_later false b e = e

      by : (z : Bool) → is_named p throwable_name d ≡ z → (z || list_any (is_named p throwable_name) ds) ≡ true →
          (list_any (is_named p throwable_name) ds ≡ true → (c : ClassId) × (named_type p throwable_name ≡ Some (class_type c.0)) × (list_any (λ (e : ClassId). eqb e.0 c.0) ds ≡ true)) →
          (c : ClassId) × (named_type p throwable_name ≡ Some (class_type c.0)) × (list_any (λ (e : ClassId). eqb e.0 c.0) (d ∷ ds) ≡ true)
      by true is e again = (d, type_is p keeps throwable_name d refl is, or_left (eqb d.0 d.0) _ (eq-eqb d.0 d.0 refl))
      by false is e again = let r = again e in (r.0, r.1, or_later (eqb d.0 r.0.0) _ r.2)

  pub below_named : (k : ClassId) → list_any (is_named p throwable_name) (line_of p k) ≡ true → (c : ClassId) × (class_named p throwable_name ≡ Some c) × (list_any (λ (d : ClassId). eqb d.0 c.0) (line_of p k) ≡ true)
  below_named k e =
      let r = named_there (line_of p k) e in
      by (class_named p throwable_name) refl r.0 r.1 r.2
    where
      by : (o : Option ClassId) → class_named p throwable_name ≡ o → (c : ClassId) → named_class o ≡ Some (class_type c.0) → list_any (λ (d : ClassId). eqb d.0 c.0) (line_of p k) ≡ true → (c : ClassId) × (class_named p throwable_name ≡ Some c) × (list_any (λ (d : ClassId). eqb d.0 c.0) (line_of p k) ≡ true)
      by None there c e fits = absurd (cc)
      by (Some d) there c e fits = (c, there ∙ ap (λ (q : ℕ). Some (class_id q)) (number d c e), fits)
        where
          number : (a b : ClassId) → named_class (Some a) ≡ Some (class_type b.0) → a.0 ≡ b.0
          number a b e = ap of_type e
            where
              of_base : Base → ℕ
              of_base (base.Class c) = c.0
              of_base b = 0

              of_type : Option Ty → ℕ
              of_type None = 0
              of_type (Some ty) = of_base ty.base

  pub caught : (k : ClassId) → list_any (is_named p throwable_name) (line_of p k) ≡ true → (c : ClassId) × (class_named p throwable_name ≡ Some c) × (fits_type p (class_type k.0) (class_type c.0) ≡ true)
  unfolding fits_type
  caught k e = let r = below_named k e in (r.0, r.1, or_left (list_any (λ (d : ClassId). eqb d.0 r.0.0) (line_of p k)) _ r.2)
