-- The methods of strings are three, and no class but that of strings is assignable to it.
use Rattle.std.proofs.Common.{◌≡◌, inl, inr, ℕ, zero, suc, ◌+◌, ◌<◌, Bool, true, false, eqb, List, [], ◌∷◌, ◌++◌, length, Option, Some, None, refl, sym, ap, subst, ◌∙◌, arith}
use Rattle.std.specs.Prelude.{◌&&◌, ◌||◌, not, nat_lt, slice_get, codes}
use Rattle.std.specs.List.{list_all, list_any, AllByRecursion}
use Rattle.std.specs.Str.{bytes_eq}
use Rattle.std.proofs.lemmas.Bool.{and_parts, eqb-true, false_from_ne_true, ltb-true, not-true, or_parts}
use Rattle.kilim_program.specs.declared.class.Class.{Class}
use Rattle.kilim_program.specs.declared.class.Form.TheVariants.{Plain, Woven}
use Rattle.kilim_program.specs.declared.class.Form.{Form}
use Rattle.kilim_program.specs.declared.class.Method.{Method}
use Rattle.kilim_program.specs.declared.names.ClassId.{ClassId}
use Rattle.kilim_program.specs.declared.names.MethodId.{MethodId}
use Rattle.kilim_program.specs.declared.ty.Base.{Base}
use Rattle.kilim_program.specs.declared.ty.Base.TheVariants as base
use Rattle.kilim_program.specs.declared.ty.Qualifier.TheVariants.{Cuttable, Free, Safe}
use Rattle.kilim_program.specs.declared.ty.Ty.{Ty}
use Rattle.kilim_program.specs.Program.{Program}
use Rattle.kilim_program.specs.BuiltIn.{built_in_classes_in, built_in_constructor, built_in_method, built_in_methods_in, class_id, class_type, fiber_methods, fiber_params, fiber_qualifiers, fiber_type, get_message, int_type, is_exception, of_fiber, plain_type}
use Rattle.kilim_program.proofs.BuiltIns.{exceptions_too, exception_name}
use Rattle.kilim_program.specs.Fits.{class_assignable, fits_type, is_named, type_assignable}
use Rattle.kilim_program.specs.Kinds.{is_message}
use Rattle.kilim_program.specs.Names.{◌>>=◌, class_at, class_name, class_named, line_of, line_up_to, method_at}
use Rattle.kilim_program.specs.Keeps.{Keeps, is_object, is_open_superclass, own_class_fits, own_count}
use Rattle.kilim_program.specs.Names.{is_named_task}
use Rattle.kilim_program.specs.Same.{is_constructor}
use Rattle.kilim_program.specs.Members.{named_class, named_type}
use Rattle.kilim_run_machine.specs.Natives.{is_text_method}
use Rattle.kilim_lemmas.proofs.Lists.{get_left, get_some}
use Rattle.kilim_lemmas.proofs.Texts.{text_is}
use Rattle.kilim_type_sound.specs.Facts.{IsCharAt, IsEquals, IsLength, TextKind, TextMethod}
use Rattle.kilim_type_sound.specs.Fits.{is_of}
use Rattle.kilim_type_sound.proofs.BuiltInMembers.{NamedAt, built_in_at, fiber_at, named_at, none_built_in}
use Rattle.kilim_type_laws.proofs.members.ValueClasses.{IsPlain, UpIs, all_of_at, apart, built_plain, found_name, has_string, late_is_no_value, own_counted, own_fits}

abbrev string_name : List ℕ
string_name = codes "java/lang/String"

-- ---- the methods of strings

abbrev TextOnly : Program → Method → Type 0
TextOnly p m = is_text_method p m ≡ true → m.is_static ≡ false → is_constructor m ≡ false → TextKind m

module _ (p : Program) where
  not_text : (m : Method) (name : List ℕ) → class_name p m.owner ≡ name → bytes_eq name string_name ≡ false → TextOnly p m
  not_text m name is other text = absurd (let f = subst (λ (n : List ℕ). (m.built_in && bytes_eq n string_name) ≡ true) is text in let g = (and_parts m.built_in (bytes_eq name string_name) f).1 in cc)

  module _ (n : ℕ) (object : class_name p (class_id n) ≡ codes "java/lang/Object") (task : class_name p (class_id (n + 4)) ≡ codes "kilim/Task") (mailbox : class_name p (class_id (n + 5)) ≡ codes "kilim/Mailbox")
      (throwable : class_name p (class_id (n + 7)) ≡ codes "java/lang/Throwable") where
    texts_plain : AllByRecursion (TextOnly p) (built_in_methods_in Plain n)
    texts_plain = (
      not_text (built_in_constructor (class_id n)) (codes "java/lang/Object") object refl,
      (
        (λ t s c. IsLength refl refl refl),
        (
          (λ t s c. IsCharAt refl refl refl refl),
          (
            (λ t s c. IsEquals (class_type n) refl refl refl),
            (
              not_text (built_in_constructor (class_id (n + 4))) (codes "kilim/Task") task refl,
              (
                not_text (built_in_method (codes "start") (class_id (n + 4)) [] None false false Free []) (codes "kilim/Task") task refl,
                (
                  not_text (built_in_method (codes "execute") (class_id (n + 4)) (fiber_params Plain n) None false true Cuttable (fiber_qualifiers Plain)) (codes "kilim/Task") task refl,
                  (
                    not_text (built_in_constructor (class_id (n + 5))) (codes "kilim/Mailbox") mailbox refl,
                    (
                      not_text (built_in_method (codes "<init>") (class_id (n + 5)) (int_type ∷ []) None false false Cuttable (Safe ∷ [])) (codes "kilim/Mailbox") mailbox refl,
                      (
                        not_text (built_in_method (codes "put") (class_id (n + 5)) (class_type (n + 2) ∷ []) None false false Safe (Free ∷ [])) (codes "kilim/Mailbox") mailbox refl,
                        (
                          not_text (built_in_method (codes "putw") (class_id (n + 5)) (class_type (n + 2) ∷ fiber_params Plain n) None false true Safe (Free ∷ fiber_qualifiers Plain)) (codes "kilim/Mailbox") mailbox refl,
                          (
                            not_text (built_in_method (codes "get") (class_id (n + 5)) (fiber_params Plain n) (Some (class_type (n + 2))) false true Safe (fiber_qualifiers Plain)) (codes "kilim/Mailbox") mailbox refl,
                            (
                              not_text (built_in_method (codes "getnb") (class_id (n + 5)) [] (Some (class_type (n + 2))) false false Safe []) (codes "kilim/Mailbox") mailbox refl,
                              (
                                (λ t s. absurd (let z : true ≡ false = s in cc)),
                                (
                                  (λ t s. absurd (let z : true ≡ false = s in cc)),
                                  (
                                    (λ t s. absurd (let z : true ≡ false = s in cc)),
                                    (
                                      (λ t s. absurd (let z : true ≡ false = s in cc)),
                                      (
                                        (λ t s. absurd (let z : true ≡ false = s in cc)),
                                        (
                                          (λ t s. absurd (let z : true ≡ false = s in cc)),
                                          (
                                            (λ t s. absurd (let z : true ≡ false = s in cc)),
                                            exceptions_too (TextOnly p) n [] (λ c t s k. absurd (let z : true ≡ false = k in cc)) (λ c t s k. absurd (let z : true ≡ false = k in cc)) (not_text (get_message n) (codes "java/lang/Throwable") throwable refl) tt,
                                          ),
                                        ),
                                      ),
                                    ),
                                  ),
                                ),
                              ),
                            ),
                          ),
                        ),
                      ),
                    ),
                  ),
                ),
              ),
            ),
          ),
        ),
      ),
    )

    texts_woven : class_name p (class_id (n + 18)) ≡ codes "kilim/Fiber" → AllByRecursion (TextOnly p) (built_in_methods_in Woven n)
    texts_woven fiber = (
      not_text (built_in_constructor (class_id n)) (codes "java/lang/Object") object refl,
      (
        (λ t s c. IsLength refl refl refl),
        (
          (λ t s c. IsCharAt refl refl refl refl),
          (
            (λ t s c. IsEquals (class_type n) refl refl refl),
            (
              not_text (built_in_constructor (class_id (n + 4))) (codes "kilim/Task") task refl,
              (
                not_text (built_in_method (codes "start") (class_id (n + 4)) [] None false false Free []) (codes "kilim/Task") task refl,
                (
                  not_text (built_in_method (codes "execute") (class_id (n + 4)) (fiber_params Woven n) None false true Cuttable (fiber_qualifiers Woven)) (codes "kilim/Task") task refl,
                  (
                    not_text (built_in_constructor (class_id (n + 5))) (codes "kilim/Mailbox") mailbox refl,
                    (
                      not_text (built_in_method (codes "<init>") (class_id (n + 5)) (int_type ∷ []) None false false Cuttable (Safe ∷ [])) (codes "kilim/Mailbox") mailbox refl,
                      (
                        not_text (built_in_method (codes "put") (class_id (n + 5)) (class_type (n + 2) ∷ []) None false false Safe (Free ∷ [])) (codes "kilim/Mailbox") mailbox refl,
                        (
                          not_text (built_in_method (codes "putw") (class_id (n + 5)) (class_type (n + 2) ∷ fiber_params Woven n) None false true Safe (Free ∷ fiber_qualifiers Woven)) (codes "kilim/Mailbox") mailbox refl,
                          (
                            not_text (built_in_method (codes "get") (class_id (n + 5)) (fiber_params Woven n) (Some (class_type (n + 2))) false true Safe (fiber_qualifiers Woven)) (codes "kilim/Mailbox") mailbox refl,
                            (
                              not_text (built_in_method (codes "getnb") (class_id (n + 5)) [] (Some (class_type (n + 2))) false false Safe []) (codes "kilim/Mailbox") mailbox refl,
                              (
                                (λ t s. absurd (let z : true ≡ false = s in cc)),
                                (
                                  (λ t s. absurd (let z : true ≡ false = s in cc)),
                                  (
                                    (λ t s. absurd (let z : true ≡ false = s in cc)),
                                    (
                                      (λ t s. absurd (let z : true ≡ false = s in cc)),
                                      (
                                        (λ t s. absurd (let z : true ≡ false = s in cc)),
                                        (
                                          (λ t s. absurd (let z : true ≡ false = s in cc)),
                                          (
                                            (λ t s. absurd (let z : true ≡ false = s in cc)),
                                            exceptions_too (TextOnly p) n (fiber_methods Woven n) (λ c t s k. absurd (let z : true ≡ false = k in cc)) (λ c t s k. absurd (let z : true ≡ false = k in cc)) (not_text (get_message n) (codes "java/lang/Throwable") throwable refl) (
                                              not_text (of_fiber n (codes "pc") (Some (int_type))) (codes "kilim/Fiber") fiber refl,
                                              (
                                                not_text (of_fiber n (codes "down") (Some (fiber_type n))) (codes "kilim/Fiber") fiber refl,
                                                (
                                                  not_text (of_fiber n (codes "up") (Some (int_type))) (codes "kilim/Fiber") fiber refl,
                                                  (
                                                    (λ t s. absurd (let z : true ≡ false = s in cc)),
                                                    (
                                                      (λ t s. absurd (let z : true ≡ false = s in cc)),
                                                      (
                                                        (λ t s. absurd (let z : true ≡ false = s in cc)),
                                                        (
                                                          (λ t s. absurd (let z : true ≡ false = s in cc)),
                                                          (
                                                            not_text (of_fiber n (codes "restI") (Some (int_type))) (codes "kilim/Fiber") fiber refl,
                                                            (
                                                              not_text (of_fiber n (codes "restJ") (Some (plain_type base.Long))) (codes "kilim/Fiber") fiber refl,
                                                              (
                                                                not_text (of_fiber n (codes "restA") (Some (class_type n))) (codes "kilim/Fiber") fiber refl,
                                                                (
                                                                  not_text (of_fiber n (codes "receiver") (Some (class_type n))) (codes "kilim/Fiber") fiber refl,
                                                                  tt,
                                                                ),
                                                              ),
                                                            ),
                                                          ),
                                                        ),
                                                      ),
                                                    ),
                                                  ),
                                                ),
                                              ),
                                            ),
                                          ),
                                        ),
                                      ),
                                    ),
                                  ),
                                ),
                              ),
                            ),
                          ),
                        ),
                      ),
                    ),
                  ),
                ),
              ),
            ),
          ),
        ),
      ),
    )

named_0 : (form : Form) (a b : ℕ) → NamedAt form a b 0 (codes "java/lang/Object")
named_0 Plain a b = record { class = _; at = refl; is = refl }
named_0 Woven a b = record { class = _; at = refl; is = refl }

named_4 : (form : Form) (a b : ℕ) → NamedAt form a b 4 (codes "kilim/Task")
named_4 Plain a b = record { class = _; at = refl; is = refl }
named_4 Woven a b = record { class = _; at = refl; is = refl }

named_5 : (form : Form) (a b : ℕ) → NamedAt form a b 5 (codes "kilim/Mailbox")
named_5 Plain a b = record { class = _; at = refl; is = refl }
named_5 Woven a b = record { class = _; at = refl; is = refl }

named_7 : (form : Form) (a b : ℕ) → NamedAt form a b 7 (codes "java/lang/Throwable")
named_7 Plain a b = record { class = _; at = refl; is = refl }
named_7 Woven a b = record { class = _; at = refl; is = refl }

module _ (p : Program) (keeps : Keeps p) where
  abbrev own : List Class
  own = keeps.built_in.own_classes

  abbrev n : ℕ
  n = length own

  abbrev methods : ℕ
  methods = length keeps.built_in.own_methods

  pub object_name : (form : Form) → p.form ≡ form → class_name p (class_id n) ≡ codes "java/lang/Object"
  object_name form is = let number : n + 0 ≡ n = omega arith in ap (λ (k : ℕ). class_name p (class_id k)) (sym number) ∙ named_at p keeps form is 0 (codes "java/lang/Object") (named_0 form n methods)

  all_text : (form : Form) → p.form ≡ form → AllByRecursion (TextOnly p) (built_in_methods_in form n)
  all_text Plain is = texts_plain p n (object_name Plain is) (named_at p keeps Plain is 4 (codes "kilim/Task") (named_4 Plain n methods)) (named_at p keeps Plain is 5 (codes "kilim/Mailbox") (named_5 Plain n methods))
      (named_at p keeps Plain is 7 (codes "java/lang/Throwable") (named_7 Plain n methods))
  all_text Woven is =
      texts_woven p n (object_name Woven is) (named_at p keeps Woven is 4 (codes "kilim/Task") (named_4 Woven n methods)) (named_at p keeps Woven is 5 (codes "kilim/Mailbox") (named_5 Woven n methods))
      (named_at p keeps Woven is 7 (codes "java/lang/Throwable") (named_7 Woven n methods)) (named_at p keeps Woven is 18 (codes "kilim/Fiber") (fiber_at n methods))

  text_kind : (id : MethodId) (callee : Method) → method_at p id ≡ Some callee → TextOnly p callee
  text_kind id callee there text =
      let b = built_in_at keeps.built_in.own_methods (built_in_methods_in p.form n) id.0 callee (subst (λ (ms : List Method). slice_get ms id.0 ≡ Some callee) keeps.built_in.methods there) (none_built_in p keeps) (and_parts callee.built_in _ text).0 in
      all_of_at (TextOnly p) (built_in_methods_in p.form n) (all_text p.form refl) b.0 callee b.1 text

  -- ---- no class is a subclass of that of strings

  is_other : (name other : List ℕ) → bytes_eq name other ≡ true → bytes_eq other string_name ≡ false → bytes_eq name string_name ≡ false
  is_other name other is apart_is = ap (λ (t : List ℕ). bytes_eq t string_name) (text_is name other is) ∙ apart_is

  own_name : (up : ClassId) → up.0 < n → bytes_eq (class_name p up) string_name ≡ false
  own_name up less =
      let c = get_some own up.0 less in
      let there : slice_get p.classes up.0 ≡ Some c.0 = ap (λ (cs : List Class). slice_get cs up.0) keeps.built_in.classes ∙ get_left own (built_in_classes_in p.form n methods) up.0 c.0 c.1 in
      ap (λ (o : Option Class). bytes_eq (elim o [ None ↦ [] | Some class ↦ class.name ]) string_name) there ∙ apart p keeps string_name (has_string p.form n methods) up.0 c.0 c.1

  open_name : (up : ClassId) → is_open_superclass p (Some up) ≡ true → bytes_eq (class_name p up) string_name ≡ false
  open_name up e = by (nat_lt up.0 (own_count p)) (is_object p up) (is_named_task p up) refl refl refl e
    where
      by : (a b c : Bool) → nat_lt up.0 (own_count p) ≡ a → is_object p up ≡ b → is_named_task p up ≡ c → (a || (b || (c || is_exception (class_name p up)))) ≡ true → bytes_eq (class_name p up) string_name ≡ false
      by true b c is object task e = let less = ltb-true up.0 (own_count p) is in let count = own_counted p keeps in own_name up (omega (arith, less, count))
      by false true c is object task e = is_other (class_name p up) (codes "java/lang/Object") object refl
      by false false true is object task e = is_other (class_name p up) (codes "kilim/Task") task refl
      by false false false is object task e = not-true _ (exception_name (λ (name : List ℕ). not (bytes_eq name string_name)) (class_name p up) refl refl e)

  plain_up : (o : Option ClassId) (up : ClassId) → o ≡ Some up → UpIs n o → bytes_eq (class_name p up) string_name ≡ false
  plain_up None up e is = absurd (cc)
  plain_up (Some d) up e (inr late) =
      let s : d ≡ up = cc in
      ap (λ (k : ClassId). bytes_eq (class_name p k) string_name) (sym s) ∙ (ap (λ (k : ℕ). bytes_eq (class_name p (class_id k)) string_name) late.1 ∙ (or_parts _ _ (late_is_no_value p keeps late.0 late.2)).0)
  plain_up (Some d) up e (inl is) =
      let s : d ≡ up = cc in
      ap (λ (k : ClassId). bytes_eq (class_name p k) string_name) (sym s) ∙ (ap (λ (k : ℕ). bytes_eq (class_name p (class_id k)) string_name) is ∙ ap (λ (t : List ℕ). bytes_eq t string_name) (object_name p.form refl))

  not_above : (k : ℕ) (c : Class) (up : ClassId) → slice_get (own ++ built_in_classes_in p.form n methods) k ≡ Some c → c.superclass ≡ Some up → bytes_eq (class_name p up) string_name ≡ false
  not_above k c up at is =
      by own (own_fits p keeps) k at
    where
      by : (xs : List Class) → list_all (own_class_fits p) xs ≡ true → (k : ℕ) → slice_get (xs ++ built_in_classes_in p.form n methods) k ≡ Some c → bytes_eq (class_name p up) string_name ≡ false
      by [] fit k at = plain_up c.superclass up is (all_of_at (IsPlain n) (built_in_classes_in p.form n methods) (built_plain p.form n methods) k c at).1
      by (x ∷ xs) fit zero at =
          let s : x ≡ c = cc in
          let opened = (and_parts (not (bytes_eq x.name (codes "kilim/Fiber"))) (is_open_superclass p x.superclass) (and_parts (own_class_fits p x) (list_all (own_class_fits p) xs) fit).0).1 in
          open_name up (subst (λ (o : Option ClassId). is_open_superclass p o ≡ true) (ap (λ (z : Class). z.superclass) s ∙ is) opened)
      by (x ∷ xs) fit (suc k) at = by xs (and_parts (own_class_fits p x) (list_all (own_class_fits p) xs) fit).1 k at

  above_there : (a up : ClassId) → (class_at p a >>= λ (class : Class). class.superclass) ≡ Some up → bytes_eq (class_name p up) string_name ≡ false
  above_there a up e = by (class_at p a) refl e
    where
      by : (o : Option Class) → class_at p a ≡ o → (o >>= λ (class : Class). class.superclass) ≡ Some up → bytes_eq (class_name p up) string_name ≡ false
      by None there e = absurd (cc)
      by (Some class) there e = not_above a.0 class up (subst (λ (cs : List Class). slice_get cs a.0 ≡ Some class) keeps.built_in.classes there) e

  alone_in : (m : ℕ) (a b : ClassId) → bytes_eq (class_name p b) string_name ≡ true → list_any (λ (c : ClassId). eqb c.0 b.0) (line_up_to p m a) ≡ true → a.0 ≡ b.0
  alone_in zero a b text e = absurd (cc)
  alone_in (suc m) a b text e = by (eqb a.0 b.0) (class_at p a >>= λ (class : Class). class.superclass) refl refl e (λ up later. alone_in m up b text later)
    where
      by : (z : Bool) (o : Option ClassId) → eqb a.0 b.0 ≡ z → (class_at p a >>= λ (class : Class). class.superclass) ≡ o → (z || list_any (λ (c : ClassId). eqb c.0 b.0) (elim o [ None ↦ [] | Some up ↦ line_up_to p m up ])) ≡ true →
          ((up : ClassId) → list_any (λ (c : ClassId). eqb c.0 b.0) (line_up_to p m up) ≡ true → up.0 ≡ b.0) → a.0 ≡ b.0
      by true o is up e again = eqb-true a.0 b.0 is
      by false None is up e again = absurd (cc)
      by false (Some d) is up e again = absurd (let same = again d e in let no = above_there a d up in let yes : bytes_eq (class_name p d) string_name ≡ true = ap (λ (k : ℕ). bytes_eq (class_name p (class_id k)) string_name) same ∙ text in cc)

  no_string : (b : ClassId) (other : List ℕ) → bytes_eq string_name other ≡ false → bytes_eq (class_name p b) string_name ≡ true → is_named p other b ≡ false
  no_string b other apart_is text = ap (λ (t : List ℕ). bytes_eq t other) (text_is (class_name p b) string_name text) ∙ apart_is

  class_alone : (a b : ClassId) → bytes_eq (class_name p b) string_name ≡ true → class_assignable p a b ≡ true → a.0 ≡ b.0
  class_alone a b text e =
      by (list_any (λ (c : ClassId). eqb c.0 b.0) (line_of p a)) (is_named p (codes "java/lang/Object") b) (is_named p (codes "kilim/Message") b) refl (no_string b (codes "java/lang/Object") refl text) (no_string b (codes "kilim/Message") refl text) e
    where
      by : (x y z : Bool) → list_any (λ (c : ClassId). eqb c.0 b.0) (line_of p a) ≡ x → y ≡ false → z ≡ false → (x || (y || (z && list_any (is_message p) (line_of p a)))) ≡ true → a.0 ≡ b.0
      by true y z is f g e = alone_in (length p.classes) a b text is
      by false true z is f g e = absurd (cc)
      by false false true is f g e = absurd (cc)
      by false false false is f g e = absurd (cc)

  type_alone : (d : ℕ) (a : Base) (b : ClassId) → bytes_eq (class_name p b) string_name ≡ true → type_assignable p d a 0 (base.Class b) ≡ true → record { dims = d; base = a } ≡ class_type b.0
  type_alone zero (base.Class a) b text e = ap class_type (class_alone a b text e)
  type_alone zero base.Bool b text e = absurd (cc)
  type_alone zero base.Byte b text e = absurd (cc)
  type_alone zero base.Char b text e = absurd (cc)
  type_alone zero base.Short b text e = absurd (cc)
  type_alone zero base.Int b text e = absurd (cc)
  type_alone zero base.Long b text e = absurd (cc)
  type_alone (suc d) a b text e = absurd (let no = no_string b (codes "java/lang/Object") refl text in cc)

  pub alone : (b : ClassId) → bytes_eq (class_name p b) string_name ≡ true → (c : Ty) → fits_type p c (class_type b.0) ≡ true → c ≡ class_type b.0
  unfolding fits_type
  alone b text c e = type_alone c.dims c.base b text e

  -- a class of another name isn't assignable to that of strings
  other_alone : (b : ClassId) → bytes_eq (class_name p b) string_name ≡ true → (name : List ℕ) → bytes_eq string_name name ≡ false → is_of p (named_type p name) (class_type b.0) ≡ false
  other_alone b text name apart_is = false_from_ne_true _ (λ e. by (class_named p name) refl e)
    where
      id_of : Base → ClassId
      id_of (base.Class c) = c
      id_of b = class_id 0

      by : (o : Option ClassId) → class_named p name ≡ o → is_of p (named_class o) (class_type b.0) ≡ true → ⊥
      by None there e = absurd (cc)
      by (Some d) there e =
          let same = ap (λ (ty : Ty). class_name p (id_of ty.base)) (alone b text (class_type d.0) e) in
          let f = found_name p keeps name d there in
          let yes : bytes_eq string_name name ≡ true = ap (λ (t : List ℕ). bytes_eq t name) (sym (text_is (class_name p b) string_name text) ∙ sym same) ∙ f in
          absurd (cc)

  pub texts : (id : MethodId) (callee : Method) → method_at p id ≡ Some callee → is_text_method p callee ≡ true → callee.is_static ≡ false → is_constructor callee ≡ false → TextMethod p callee
  texts id callee there text instance plain =
      let named = (and_parts callee.built_in _ text).1 in
      record {
        kind = text_kind id callee there text instance plain;
        alone = alone callee.owner named;
        no_box = other_alone callee.owner named (codes "kilim/Mailbox") refl;
        no_fiber = other_alone callee.owner named (codes "kilim/Fiber") refl;
      }
