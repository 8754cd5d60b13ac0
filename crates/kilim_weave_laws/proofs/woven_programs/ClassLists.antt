-- A program with one more class behind its own: what was assignable stays so.
use Rattle.std.proofs.Common.{◌≡◌, ℕ, zero, suc, Bool, true, false, cond, eqb, List, [], ◌∷◌, ◌++◌, length, Option, Some, None, refl, sym, ap, subst, ◌∙◌, arith, append_assoc, append-nil, length-append}
use Rattle.std.specs.Prelude.{◌||◌, slice_get, codes}
use Rattle.std.specs.List.{list_any, flat_map}
use Rattle.std.specs.Str.{bytes_eq}
use Rattle.std.proofs.lemmas.Bool.{and_from, or_left, or_right}
use Rattle.kilim_program.specs.declared.class.Class.{Class}
use Rattle.kilim_program.specs.declared.names.ClassId.{ClassId}
use Rattle.kilim_program.specs.declared.names.MethodId.{MethodId}
use Rattle.kilim_program.specs.declared.ty.Base.{Base}
use Rattle.kilim_program.specs.declared.ty.Base.TheVariants as base
use Rattle.kilim_program.specs.declared.verified.VType.{VType}
use Rattle.kilim_program.specs.declared.verified.VType.TheVariants.{Object}
use Rattle.kilim_program.specs.BuiltIn.{class_id}
use Rattle.kilim_program.specs.Fits.{is_named, class_assignable, base_assignable, is_object_base, type_assignable, fits_type}
use Rattle.kilim_program.specs.Kinds.{is_marked, is_message}
use Rattle.kilim_program.specs.Names.{◌>>=◌, class_at, class_name, line_of, line_up_to, methods_of, class_from, class_named}
use Rattle.kilim_program.specs.Program.{Program}
use Rattle.kilim_lemmas.proofs.Lists.{get_left}
use Rattle.kilim_type_laws.proofs.members.Through.{cases}
use Rattle.kilim_type_spec.specs.Step.{assignable}

-- ---- lists

pub any_front : {A : Type 0} (test : A → Bool) (xs zs : List A) → list_any test xs ≡ true → list_any test (xs ++ zs) ≡ true
any_front test [] zs e = absurd (cc)
any_front test (x ∷ xs) zs e = by (test x) e (λ r. any_front test xs zs r)
  where
    by : (b : Bool) → (b || list_any test xs) ≡ true → (list_any test xs ≡ true → list_any test (xs ++ zs) ≡ true) → (b || list_any test (xs ++ zs)) ≡ true
    by true e again = refl
    by false e again = again e

pub any_kept : {A : Type 0} (f g : A → Bool) → ((x : A) → f x ≡ true → g x ≡ true) → (xs : List A) → list_any f xs ≡ true → list_any g xs ≡ true
any_kept f g k [] e = e
any_kept f g k (x ∷ xs) e = by (f x) refl e (λ r. any_kept f g k xs r)
  where
    by : (b : Bool) → f x ≡ b → (b || list_any f xs) ≡ true → (list_any f xs ≡ true → list_any g xs ≡ true) → (g x || list_any g xs) ≡ true
    by true is e again = or_left (g x) _ (k x is)
    by false is e again = or_right (g x) _ (again e)

-- ---- an option of a class

abbrev pub name_of : Option Class → List ℕ
name_of None = []
name_of (Some class) = class.name

name_by : (o : Option Class) → elim o [ None ↦ [] | Some class ↦ class.name ] ≡ name_of o
name_by None = refl
name_by (Some class) = refl

pub name_is : (p : Program) (c : ClassId) → class_name p c ≡ name_of (class_at p c)
name_is p c = name_by (class_at p c)

abbrev methods_in : Option Class → List MethodId
methods_in None = []
methods_in (Some class) = class.methods

methods_by : (o : Option Class) → elim o [ None ↦ [] | Some class ↦ class.methods ] ≡ methods_in o
methods_by None = refl
methods_by (Some class) = refl

methods_are : (p : Program) (c : ClassId) → methods_of p c ≡ methods_in (class_at p c)
methods_are p c = methods_by (class_at p c)

-- the line above a class
abbrev above : Program → ℕ → Option ClassId → List ClassId
above p n None = []
above p n (Some up) = line_up_to p n up

above_by : (p : Program) (n : ℕ) (o : Option ClassId) → elim o [ None ↦ [] | Some up ↦ line_up_to p n up ] ≡ above p n o
above_by p n None = refl
above_by p n (Some up) = refl

line_is : (p : Program) (n : ℕ) (c : ClassId) → line_up_to p (suc n) c ≡ c ∷ above p n (class_at p c >>= λ (class : Class). class.superclass)
line_is p n c = ap (λ (line : List ClassId). c ∷ line) (above_by p n (class_at p c >>= λ (class : Class). class.superclass))

module _ (P W : Program) (extra : Class) (grown : W.classes ≡ P.classes ++ extra ∷ []) where
  pub class_kept : (c : ClassId) (class : Class) → class_at P c ≡ Some class → class_at W c ≡ Some class
  class_kept c class e = subst (λ (cs : List Class). slice_get cs c.0 ≡ Some class) (sym grown) (get_left P.classes (extra ∷ []) c.0 class e)

  pub one_more : length W.classes ≡ suc (length P.classes)
  one_more = let e = ap length grown ∙ length-append P.classes (extra ∷ []) in omega (arith, e)

  -- ---- lines

  abbrev pub More : ℕ → ClassId → Type 0
  More n c = (zs : List ClassId) × (line_up_to W (suc n) c ≡ line_up_to P n c ++ zs)

  more_above : (n : ℕ) (o : Option ClassId) → ((up : ClassId) → o ≡ Some up → More n up) → (zs : List ClassId) × (above W (suc n) o ≡ above P n o ++ zs)
  more_above n None again = ([], refl)
  more_above n (Some up) again = again up refl

  pub line_more : (n : ℕ) (c : ClassId) → More n c
  line_more zero c = (line_up_to W 1 c, refl)
  line_more (suc n) c = by (class_at P c) refl (λ up. line_more n up)
    where
      by : (o : Option Class) → class_at P c ≡ o → ((up : ClassId) → More n up) → (zs : List ClassId) × (line_up_to W (suc (suc n)) c ≡ line_up_to P (suc n) c ++ zs)
      by None at again =
          let rest = above W (suc n) (class_at W c >>= λ (class : Class). class.superclass) in
          let old = line_is P n c ∙ ap (λ (o : Option Class). c ∷ above P n (o >>= λ (class : Class). class.superclass)) at in
          (rest, line_is W (suc n) c ∙ ap (λ (line : List ClassId). line ++ rest) (sym old))
      by (Some class) at again =
          let r = more_above n class.superclass (λ up e. again up) in
          let old = line_is P n c ∙ ap (λ (o : Option Class). c ∷ above P n (o >>= λ (class : Class). class.superclass)) at in
          let new = line_is W (suc n) c ∙ ap (λ (o : Option Class). c ∷ above W (suc n) (o >>= λ (class : Class). class.superclass)) (class_kept c class at) in
          (r.0, new ∙ (ap (λ (line : List ClassId). c ∷ line) r.1 ∙ ap (λ (line : List ClassId). line ++ r.0) (sym old)))

  pub line_kept : (test : ClassId → Bool) (c : ClassId) → list_any test (line_of P c) ≡ true → list_any test (line_of W c) ≡ true
  line_kept test c e =
      let r = line_more (length P.classes) c in
      subst (λ (n : ℕ). list_any test (line_up_to W n c) ≡ true) (sym one_more) (subst (λ (line : List ClassId). list_any test line ≡ true) (sym r.1) (any_front test (line_of P c) r.0 e))

  -- ---- the methods of a line

  abbrev pub MoreMethods : ℕ → ClassId → Type 0
  MoreMethods n c = (zs : List MethodId) × (flat_map (methods_of W) (line_up_to W (suc n) c) ≡ flat_map (methods_of P) (line_up_to P n c) ++ zs)

  methods_above : (n : ℕ) (o : Option ClassId) → ((up : ClassId) → o ≡ Some up → MoreMethods n up) → (zs : List MethodId) × (flat_map (methods_of W) (above W (suc n) o) ≡ flat_map (methods_of P) (above P n o) ++ zs)
  methods_above n None again = ([], refl)
  methods_above n (Some up) again = again up refl

  pub methods_more : (n : ℕ) (c : ClassId) → MoreMethods n c
  methods_more zero c = (flat_map (methods_of W) (line_up_to W 1 c), refl)
  methods_more (suc n) c = by (class_at P c) refl (λ up. methods_more n up)
    where
      by : (o : Option Class) → class_at P c ≡ o → ((up : ClassId) → MoreMethods n up) → (zs : List MethodId) × (flat_map (methods_of W) (line_up_to W (suc (suc n)) c) ≡ flat_map (methods_of P) (line_up_to P (suc n) c) ++ zs)
      by None at again =
          let all = flat_map (methods_of W) (line_up_to W (suc (suc n)) c) in
          let line = line_is P n c ∙ ap (λ (o : Option Class). c ∷ above P n (o >>= λ (class : Class). class.superclass)) at in
          let none : flat_map (methods_of P) (line_up_to P (suc n) c) ≡ [] =
          ap (flat_map (methods_of P)) line ∙ (append-nil (methods_of P c) ∙ (methods_are P c ∙ ap methods_in at)) in
          (all, ap (λ (ms : List MethodId). ms ++ all) (sym none))
      by (Some class) at again =
          let r = methods_above n class.superclass (λ up e. again up) in
          let old = ap (flat_map (methods_of P)) (line_is P n c ∙ ap (λ (o : Option Class). c ∷ above P n (o >>= λ (class : Class). class.superclass)) at) in
          let new = ap (flat_map (methods_of W)) (line_is W (suc n) c ∙ ap (λ (o : Option Class). c ∷ above W (suc n) (o >>= λ (class : Class). class.superclass)) (class_kept c class at)) in
          let here : methods_of W c ≡ methods_of P c = methods_are W c ∙ (ap methods_in (class_kept c class at) ∙ (sym (ap methods_in at) ∙ sym (methods_are P c))) in
          let front = methods_of P c in
          let rest = flat_map (methods_of P) (above P n class.superclass) in (
            r.0,
            new ∙ (ap (λ (ms : List MethodId). ms ++ flat_map (methods_of W) (above W (suc n) class.superclass)) here
                ∙ (ap (λ (ms : List MethodId). front ++ ms) r.1 ∙ (sym (append_assoc front rest r.0) ∙ ap (λ (ms : List MethodId). ms ++ r.0) (sym old)))),
          )

  -- ---- names

  there : (name : List ℕ) (c : ClassId) → bytes_eq [] name ≡ false → is_named P name c ≡ true → (class : Class) × (class_at P c ≡ Some class)
  there name c empty h = by (class_at P c) refl (sym (ap (λ (n : List ℕ). bytes_eq n name) (name_is P c)) ∙ h)
    where
      by : (o : Option Class) → class_at P c ≡ o → bytes_eq (name_of o) name ≡ true → (class : Class) × (class_at P c ≡ Some class)
      by None at e = absurd (cc)
      by (Some class) at e = (class, at)

  pub name_kept : (c : ClassId) (class : Class) → class_at P c ≡ Some class → class_name W c ≡ class_name P c
  name_kept c class at = name_is W c ∙ (ap name_of (class_kept c class at) ∙ (sym (ap name_of at) ∙ sym (name_is P c)))

  pub named_kept : (name : List ℕ) (c : ClassId) → bytes_eq [] name ≡ false → is_named P name c ≡ true → is_named W name c ≡ true
  named_kept name c empty h = let t = there name c empty h in ap (λ (n : List ℕ). bytes_eq n name) (name_kept c t.0 t.1) ∙ h

  message_kept : (c : ClassId) → is_message P c ≡ true → is_message W c ≡ true
  message_kept c h = by (class_at P c) refl h
    where
      by : (o : Option Class) → class_at P c ≡ o → is_marked o ≡ true → is_message W c ≡ true
      by None at e = absurd (cc)
      by (Some class) at e = ap is_marked (class_kept c class at) ∙ e

  -- ---- assignability

  classes_kept : (a b : ClassId) → class_assignable P a b ≡ true → class_assignable W a b ≡ true
  classes_kept a b h =
      cases (list_any (λ (c : ClassId). eqb c.0 b.0) (line_of P a)) (is_named P (codes "java/lang/Object") b) (is_named P (codes "kilim/Message") b) (list_any (is_message P) (line_of P a)) h
      (λ l. or_left _ _ (line_kept (λ (c : ClassId). eqb c.0 b.0) a l))
      (λ o. or_right _ _ (or_left _ _ (named_kept (codes "java/lang/Object") b refl o)))
      (λ m k. or_right _ _ (or_right _ _ (and_from _ _ (named_kept (codes "kilim/Message") b refl m) (any_kept (is_message P) (is_message W) message_kept (line_of W a) (line_kept (is_message P) a k)))))

  bases_kept : (a b : Base) → base_assignable P a b ≡ true → base_assignable W a b ≡ true
  bases_kept (base.Class a) (base.Class b) h = classes_kept a b h
  bases_kept a b h = h

  object_kept : (b : Base) → is_object_base P b ≡ true → is_object_base W b ≡ true
  object_kept (base.Class b) h = named_kept (codes "java/lang/Object") b refl h
  object_kept b h = h

  types_kept : (m : ℕ) (a : Base) (n : ℕ) (b : Base) → type_assignable P m a n b ≡ true → type_assignable W m a n b ≡ true
  types_kept zero a zero b h = bases_kept a b h
  types_kept zero a (suc n) b h = h
  types_kept (suc m) a zero b h = object_kept b h
  types_kept (suc m) a (suc n) b h = types_kept m a n b h

  pub assigns : (a b : VType) → assignable P a b ≡ true → assignable W a b ≡ true
  unfolding fits_type
  assigns (Object a) (Object b) h = types_kept a.dims a.base b.dims b.base h
  assigns a b h = h

  -- ---- classes by name

  first_stays : (xs ys : List Class) (name : List ℕ) (n : ℕ) (c : ClassId) → class_from xs name n ≡ Some c → class_from (xs ++ ys) name n ≡ Some c
  first_stays [] ys name n c e = absurd (cc)
  first_stays (x ∷ xs) ys name n c e = by (bytes_eq x.name name) e (λ r. first_stays xs ys name (suc n) c r)
    where
      by : (b : Bool) → cond b (Some (class_id n)) (class_from xs name (suc n)) ≡ Some c → (class_from xs name (suc n) ≡ Some c → class_from (xs ++ ys) name (suc n) ≡ Some c) → cond b (Some (class_id n)) (class_from (xs ++ ys) name (suc n)) ≡ Some c
      by true e again = e
      by false e again = again e

  others_stay : (xs : List Class) (name : List ℕ) (n : ℕ) → bytes_eq extra.name name ≡ false → class_from (xs ++ extra ∷ []) name n ≡ class_from xs name n
  others_stay [] name n e = ap (λ (b : Bool). cond b (Some (class_id n)) None) e
  others_stay (x ∷ xs) name n e = by (bytes_eq x.name name) (others_stay xs name (suc n) e)
    where
      by : (b : Bool) → class_from (xs ++ extra ∷ []) name (suc n) ≡ class_from xs name (suc n) → cond b (Some (class_id n)) (class_from (xs ++ extra ∷ []) name (suc n)) ≡ cond b (Some (class_id n)) (class_from xs name (suc n))
      by true again = refl
      by false again = again

  -- whether there is a class of another name than that of the one more is as before
  pub class_named_same : (name : List ℕ) → bytes_eq extra.name name ≡ false → class_named W name ≡ class_named P name
  class_named_same name e = ap (λ (cs : List Class). class_from cs name 0) grown ∙ others_stay P.classes name 0 e

  pub class_named_kept : (name : List ℕ) (c : ClassId) → class_named P name ≡ Some c → class_named W name ≡ Some c
  class_named_kept name c e = subst (λ (cs : List Class). class_from cs name 0 ≡ Some c) (sym grown) (first_stays P.classes (extra ∷ []) name 0 c e)
