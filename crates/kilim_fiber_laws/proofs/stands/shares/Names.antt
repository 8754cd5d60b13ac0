-- What names and calls find in a program and in its woven form.
use Rattle.std.proofs.Common.{◌≡◌, inl, inr, ℕ, zero, suc, ◌+◌, ◌<◌, Bool, true, false, cond, not, ◌&&◌, ◌||◌, List, [], ◌∷◌, ◌++◌, length, Option, Some, None, refl, sym, ap, subst, ◌∙◌, arith, ltb-true, eqb, append-nil}
use Rattle.kilim_type_laws.proofs.members.FromKeeps.{all_at}
use Rattle.std.specs.Prelude.{slice_get, codes, if◌then◌else◌, ◌==◌, nat_le}
use Rattle.std.specs.List.{list_any, flat_map}
use Rattle.std.specs.Str.{bytes_eq}
use Rattle.std.proofs.lemmas.Bool.{and_parts, false≢true}
use Rattle.std.proofs.lemmas.Option.{same_Some}
use Rattle.kilim_program.specs.declared.class.Class.{Class}
use Rattle.kilim_program.specs.declared.class.Form.{Form}
use Rattle.kilim_program.specs.declared.class.Form.TheVariants.{Plain, Woven}
use Rattle.kilim_program.specs.declared.class.Method.{Method}
use Rattle.kilim_program.specs.declared.names.ClassId.{ClassId}
use Rattle.kilim_program.specs.declared.names.MethodId.{MethodId}
use Rattle.kilim_program.specs.declared.ty.Base.{Base}
use Rattle.kilim_program.specs.declared.ty.Base.TheVariants as base
use Rattle.kilim_program.specs.declared.ty.Ty.{Ty}
use Rattle.kilim_program.specs.BuiltIn.{built_in_classes_in, built_in_methods_in, class_type}
use Rattle.kilim_program.specs.Fits.{base_assignable, class_assignable, fits_type, is_named, is_object_base, type_assignable}
use Rattle.kilim_program.specs.Keeps.{Keeps, method_is_sound}
use Rattle.kilim_program.specs.Kinds.{is_message}
use Rattle.kilim_program.specs.Names.{class_at, class_from, class_name, class_named, first_that, line_of, method_at, methods_of, is_empty}
use Rattle.kilim_program.specs.Program.{Program}
use Rattle.kilim_program.specs.Same.{answers, is_constructor, selected, argument_slots}
use Rattle.kilim_run_machine.specs.Does.{above_of, chosen, chosen_by, chosen_on, special, superclass_of}
use Rattle.kilim_program.specs.Members.{named_class, named_type}
use Rattle.kilim_run_machine.specs.Natives.{is_built_in_constructor, is_built_in_of, is_get_message, is_handed_out, is_message_constructor, is_of_message, is_take, is_text_method, native_method, native_named, natives, takes_object}
use Rattle.kilim_type_spec.specs.Step.{is_above, is_superclass_method, special_fits, superclass_at}
use Rattle.kilim_type_spec.specs.Step as step
use Rattle.kilim_lemmas.proofs.Lists.{get_right}
use Rattle.kilim_type_laws.specs.members.Chosen.{IsChosen}
use Rattle.kilim_type_laws.proofs.members.ClassMethods.{IsAmong, owner_has}
use Rattle.kilim_type_laws.proofs.members.Finding.{answer_of, finds_chosen}
use Rattle.kilim_type_laws.proofs.members.Through.{cases, message_at, message_top, object_at, object_top}
use Rattle.kilim_weave_spec.specs.Form.{WovenForm, has_calls, woven_as}
use Rattle.kilim_weave_laws.proofs.woven_programs.Methods.{Like, like, woven_at, fibers}
use Rattle.kilim_weave_laws.proofs.woven_programs.Naming.{owner_there}
use Rattle.kilim_weave_laws.proofs.woven_programs.Selecting as kept
use Rattle.kilim_weave_laws.proofs.woven_programs.Theorem as theorem
use Rattle.kilim_weave_laws.proofs.woven_programs.kinds.Lines as lines
use Rattle.kilim_fiber_spec.specs.Rows.{is_old_base}

first_passes : (test : MethodId → Bool) (xs : List MethodId) (f : MethodId) → first_that test xs ≡ Some f → test f ≡ true
first_passes test [] f e = absurd (cc)
first_passes test (x ∷ xs) f e = by (test x) refl e (λ r. first_passes test xs f r)
  where
    by : (b : Bool) → test x ≡ b → cond b (Some x) (first_that test xs) ≡ Some f → (first_that test xs ≡ Some f → test f ≡ true) → test f ≡ true
    by true is e again = let s : x ≡ f = cc in subst (λ (z : MethodId). test z ≡ true) s is
    by false is e again = again e

-- a class that has another name is none of that name
named_front : (cs : List Class) (extra : Class) (name : List ℕ) (n : ℕ) → bytes_eq extra.name name ≡ false → class_from (cs ++ extra ∷ []) name n ≡ class_from cs name n
named_front [] extra name n e = ap (λ (b : Bool). if b then Some (record { 0 = n }) else None) e
named_front (c ∷ cs) extra name n e = by (bytes_eq c.name name) (named_front cs extra name (suc n) e)
  where
    by : (b : Bool) → class_from (cs ++ extra ∷ []) name (suc n) ≡ class_from cs name (suc n)
        → (if b then Some (record { 0 = n }) else class_from (cs ++ extra ∷ []) name (suc n)) ≡ (if b then Some (record { 0 = n }) else class_from cs name (suc n))
    by true again = refl
    by false again = again

named_below : (cs : List Class) (name : List ℕ) (n : ℕ) (c : ClassId) → class_from cs name n ≡ Some c → c.0 < n + length cs
named_below [] name n c e = absurd (cc)
named_below (x ∷ cs) name n c e = by (bytes_eq x.name name) e (named_below cs name (suc n) c)
  where
    by : (b : Bool) → (if b then Some (record { 0 = n }) else class_from cs name (suc n)) ≡ Some c → (class_from cs name (suc n) ≡ Some c → c.0 < suc n + length cs) → c.0 < n + length (x ∷ cs)
    by true e again = let s : n ≡ c.0 = ap (λ (o : Option ClassId). elim o [ None ↦ 0 | Some z ↦ z.0 ]) e in omega (arith, s)
    by false e again = let s = again e in omega (arith, s)

pub built_by : (P : Program) (a b : Method) (marks : List Bool) (z calls : Bool) → woven_as z calls P a b marks → b.built_in ≡ a.built_in
built_by P a b marks false calls w = ap (λ (m : Method). m.built_in) w.0
built_by P a b marks true false w = ap (λ (m : Method). m.built_in) w.0
built_by P a b marks true true w = ap (λ (m : Method). m.built_in) w.4.method

-- the classes `java/lang/Object` and `kilim/Message` declare no method but a constructor
object_methods : (f : Form) (first method : ℕ) (c : Class) → slice_get (built_in_classes_in f first method) 0 ≡ Some c → c.methods ≡ record { 0 = method + 0 } ∷ []
object_methods Plain first method c e = sym (ap (λ (x : Class). x.methods) (same_Some _ c e))
object_methods Woven first method c e = sym (ap (λ (x : Class). x.methods) (same_Some _ c e))

message_methods : (f : Form) (first method : ℕ) (c : Class) → slice_get (built_in_classes_in f first method) 2 ≡ Some c → c.methods ≡ []
message_methods Plain first method c e = sym (ap (λ (x : Class). x.methods) (same_Some _ c e))
message_methods Woven first method c e = sym (ap (λ (x : Class). x.methods) (same_Some _ c e))

first_constructs : (f : Form) (n : ℕ) (m : Method) → slice_get (built_in_methods_in f n) 0 ≡ Some m → is_constructor m ≡ true
first_constructs Plain n m e = subst (λ (x : Method). is_constructor x ≡ true) (same_Some _ m e) refl
first_constructs Woven n m e = subst (λ (x : Method). is_constructor x ≡ true) (same_Some _ m e) refl

module _ (P : Program) (keeps : Keeps P) (id : MethodId) (a : Method) (at : method_at P id ≡ Some a) (plain : is_constructor a ≡ false) where
  pub not_object : is_named P (codes "java/lang/Object") a.owner ≡ true → ⊥
  not_object e =
      let top = object_top P.form (length keeps.built_in.own_classes) (length keeps.built_in.own_methods) in
      let among = owner_has P keeps id a at top.class (object_at P keeps a.owner e) in
      let ms = object_methods P.form (length keeps.built_in.own_classes) (length keeps.built_in.own_methods) top.class top.at in
      by (subst (λ (xs : List MethodId). IsAmong id xs) ms among)
    where
      by : IsAmong id (record { 0 = length keeps.built_in.own_methods + 0 } ∷ []) → ⊥
      by (inr i) = i
      by (inl e) =
          let place : id.0 ≡ length keeps.built_in.own_methods + 0 = ap (λ (m : MethodId). m.0) e in
          let first = sym (get_right keeps.built_in.own_methods (built_in_methods_in P.form (length keeps.built_in.own_classes)) id.0 0 place) ∙ (sym (ap (λ (ms : List Method). slice_get ms id.0) keeps.built_in.methods) ∙ at) in
          false≢true (sym plain ∙ first_constructs P.form (length keeps.built_in.own_classes) a first)

  pub not_message : is_named P (codes "kilim/Message") a.owner ≡ true → ⊥
  not_message e =
      let top = message_top P.form (length keeps.built_in.own_classes) (length keeps.built_in.own_methods) in
      let among = owner_has P keeps id a at top.class (message_at P keeps a.owner e) in
      subst (λ (xs : List MethodId). IsAmong id xs) (message_methods P.form (length keeps.built_in.own_classes) (length keeps.built_in.own_methods) top.class top.at) among

-- a method and what it is in the woven program
pub record Twin (P W : Program) (id : MethodId) (a : Method) : Type 0 where
  pub method : Method
  pub there : method_at W id ≡ Some method
  pub like : Like P a method
  pub built_in : method.built_in ≡ a.built_in
  pub stays : a.pausable ≡ false → method ≡ a

module _ (P W : Program) (counted : List (List Bool)) (keeps : Keeps P) (plainly : P.form ≡ Plain) (form : WovenForm P W counted) where
  abbrev pub F : Class
  F = theorem.fiber_parts P W counted keeps plainly form

  pub grown : W.classes ≡ P.classes ++ theorem.fiber_parts P W counted keeps plainly form ∷ []
  grown = theorem.grown P W counted keeps plainly form

  pub twin : (id : MethodId) (a : Method) → method_at P id ≡ Some a → Twin P W id a
  twin id a at =
      let f = woven_at P P.methods W.methods counted form.methods id.0 a at in
      record {
        method = f.woven;
        there = f.there;
        like = like P a f.woven f.counted f.is;
        built_in = built_by P a f.woven f.counted a.pausable (has_calls P a) f.is;
        stays = λ e. same f.woven f.counted a.pausable e f.is;
      }
    where
      same : (b : Method) (marks : List Bool) (z : Bool) → z ≡ false → woven_as z (has_calls P a) P a b marks → b ≡ a
      same b marks true e w = absurd (cc)
      same b marks false e w = w.0

  woven : (id : MethodId) (a : Method) → method_at P id ≡ Some a → (b : Method) × (method_at W id ≡ Some b) × Like P a b
  woven id a at = let t = twin id a at in (t.method, t.there, t.like)

  pub owner_in : (id : MethodId) (a : Method) → method_at P id ≡ Some a → a.owner.0 < length P.classes
  owner_in id a at = ltb-true a.owner.0 (length P.classes) (owner_there P keeps id a at)

  pub name_now : (id : MethodId) (a b : Method) → method_at P id ≡ Some a → Like P a b → class_name W b.owner ≡ class_name P a.owner
  name_now id a b at l = ap (class_name W) l.owner ∙ lines.name_same P W keeps F grown a.owner (owner_in id a at)

  -- ---- kinds of built-in methods

  of_same : (id : MethodId) (a b : Method) (name : List ℕ) → method_at P id ≡ Some a → Like P a b → b.built_in ≡ a.built_in → is_built_in_of W name b ≡ is_built_in_of P name a
  of_same id a b name at l e =
      ap (λ (z : Bool). z && bytes_eq (class_name W b.owner) name) e ∙ ap (λ (n : List ℕ). a.built_in && bytes_eq n name) (name_now id a b at l)

  pub text_same : (id : MethodId) (a b : Method) → method_at P id ≡ Some a → Like P a b → b.built_in ≡ a.built_in → is_text_method W b ≡ is_text_method P a
  text_same id a b at l e = of_same id a b (codes "java/lang/String") at l e

  pub take_same : (id : MethodId) (a b : Method) → method_at P id ≡ Some a → Like P a b → b.built_in ≡ a.built_in → is_take W b ≡ is_take P a
  take_same id a b at l e =
      ap (λ (z : Bool). z && bytes_eq b.name (codes "take")) (of_same id a b (codes "kilim/Sys") at l e) ∙ ap (λ (n : List ℕ). is_built_in_of P (codes "kilim/Sys") a && bytes_eq n (codes "take")) l.name

  -- a built-in constructor that has such parameters
  abbrev Constructs : (List Ty → Bool) → Method → Bool
  Constructs test m = m.built_in && (bytes_eq m.name (codes "<init>") && test m.params)

  -- a pausable method is no constructor, and another one has the same parameters
  constructs_same : (test : List Ty → Bool) (id : MethodId) (a b : Method) → method_at P id ≡ Some a → Like P a b → b.built_in ≡ a.built_in → Constructs test b ≡ Constructs test a
  unfolding method_is_sound
  constructs_same test id a b at l e = by a.pausable refl
    where
      not_both : (x y : Bool) → not (x && y) ≡ true → y ≡ true → x ≡ false
      not_both true true e h = absurd (false≢true e)
      not_both true false e h = absurd (false≢true h)
      not_both false y e h = refl

      none : (x y : Bool) → (x && (false && y)) ≡ false
      none true y = refl
      none false y = refl

      no_constructor : a.pausable ≡ true → bytes_eq a.name (codes "<init>") ≡ false
      no_constructor is =
          let s = all_at method_is_sound P.methods id.0 a keeps.methods at in
          let t = and_parts (eqb (length a.qualifiers) (length a.params)) _ s in
          not_both (is_constructor a) a.pausable (and_parts (nat_le (argument_slots a) 255) _ t.1).1 is

      by : (z : Bool) → a.pausable ≡ z → Constructs test b ≡ Constructs test a
      by true is =
          let n : bytes_eq b.name (codes "<init>") ≡ false = ap (λ (x : List ℕ). bytes_eq x (codes "<init>")) l.name ∙ no_constructor is in
          ap (λ (z : Bool). b.built_in && (z && test b.params)) n ∙ none b.built_in (test b.params)
          ∙ sym (ap (λ (z : Bool). a.built_in && (z && test a.params)) (no_constructor is) ∙ none a.built_in (test a.params))
      by false is =
          ap (λ (z : Bool). z && (bytes_eq b.name (codes "<init>") && test b.params)) e
          ∙ ap (λ (x : List ℕ). a.built_in && (bytes_eq x (codes "<init>") && test b.params)) l.name
          ∙ ap (λ (tys : List Ty). a.built_in && (bytes_eq a.name (codes "<init>") && test tys)) (l.params ∙ ap (λ (z : Bool). a.params ++ fibers P z) is ∙ append-nil a.params)

  constructor_same : (id : MethodId) (a b : Method) → method_at P id ≡ Some a → Like P a b → b.built_in ≡ a.built_in → is_built_in_constructor b ≡ is_built_in_constructor a
  constructor_same id a b at l e = constructs_same is_empty id a b at l e

  -- the message of an exception
  pub keeps_same : (id : MethodId) (a b : Method) → method_at P id ≡ Some a → Like P a b → b.built_in ≡ a.built_in → is_message_constructor b ≡ is_message_constructor a
  keeps_same id a b at l e = constructs_same takes_object id a b at l e

  pub gives_same : (a b : Method) → Like P a b → b.built_in ≡ a.built_in → is_get_message b ≡ is_get_message a
  gives_same a b l e = ap (λ (z : Bool). z && bytes_eq b.name (codes "getMessage")) e ∙ ap (λ (x : List ℕ). a.built_in && bytes_eq x (codes "getMessage")) l.name

  pub of_message_same : (id : MethodId) (a b : Method) → method_at P id ≡ Some a → Like P a b → b.built_in ≡ a.built_in → is_of_message b ≡ is_of_message a
  of_message_same id a b at l e = ap (λ (z : Bool). z || is_get_message b) (keeps_same id a b at l e) ∙ ap (λ (z : Bool). is_message_constructor a || z) (gives_same a b l e)

  handed_in_both : (id : MethodId) (a b : Method) → method_at P id ≡ Some a → Like P a b → b.built_in ≡ a.built_in → is_handed_out W b ≡ is_handed_out P a
  handed_in_both id a b at l e =
      ap (λ (z : Bool). z && not (is_built_in_constructor b || (is_text_method W b || (is_take W b || is_of_message b)))) e
      ∙ ap (λ (z : Bool). a.built_in && not (z || (is_text_method W b || (is_take W b || is_of_message b)))) (constructor_same id a b at l e)
      ∙ ap (λ (z : Bool). a.built_in && not (is_built_in_constructor a || (z || (is_take W b || is_of_message b)))) (text_same id a b at l e)
      ∙ ap (λ (z : Bool). a.built_in && not (is_built_in_constructor a || (is_text_method P a || (z || is_of_message b)))) (take_same id a b at l e)
      ∙ ap (λ (z : Bool). a.built_in && not (is_built_in_constructor a || (is_text_method P a || (is_take P a || z)))) (of_message_same id a b at l e)

  pub native_same : (id : MethodId) (a b : Method) → method_at P id ≡ Some a → Like P a b → b.built_in ≡ a.built_in → native_method W b ≡ native_method P a
  native_same id a b at l e =
      ap (λ (z : Bool). if z then native_named natives (class_name W b.owner) b.name else None) (handed_in_both id a b at l e)
      ∙ ap (λ (n : List ℕ). if is_handed_out P a then native_named natives n b.name else None) (name_now id a b at l)
      ∙ ap (λ (n : List ℕ). if is_handed_out P a then native_named natives (class_name P a.owner) n else None) l.name

  -- of a method that stays
  pub handed_same : (id : MethodId) (a : Method) → method_at P id ≡ Some a → Like P a a → is_handed_out W a ≡ is_handed_out P a
  handed_same id a at l =
      ap (λ (z : Bool). a.built_in && not (is_built_in_constructor a || (z || (is_take W a || is_of_message a)))) (text_same id a a at l refl)
      ∙ ap (λ (z : Bool). a.built_in && not (is_built_in_constructor a || (is_text_method P a || (z || is_of_message a)))) (take_same id a a at l refl)

  -- ---- types

  pub class_same : (name : List ℕ) → bytes_eq (codes "kilim/Fiber") name ≡ false → class_named W name ≡ class_named P name
  class_same name e = ap (λ (cs : List Class). class_from cs name 0) grown ∙ named_front P.classes F name 0 e

  pub named_same : (name : List ℕ) → bytes_eq (codes "kilim/Fiber") name ≡ false → named_type W name ≡ named_type P name
  named_same name e = ap named_class (class_same name e)

  pub class_old : (name : List ℕ) (c : ClassId) → class_named P name ≡ Some c → c.0 < length P.classes
  class_old name c e = let a = named_below P.classes name 0 c e in omega (arith, a)

  pub named_old : (name : List ℕ) (ty : Ty) → named_type P name ≡ Some ty → is_old_base P ty.base
  named_old name ty e = by (class_named P name) refl e
    where
      by : (o : Option ClassId) → class_named P name ≡ o → named_class o ≡ Some ty → is_old_base P ty.base
      by None h e = absurd (cc)
      by (Some c) h e =
          let s : record { dims = 0; base = base.Class c } ≡ ty = same_Some _ ty e in
          subst (λ (z : Ty). is_old_base P z.base) s (let a = named_below P.classes name 0 c h in omega (arith, a))

  -- whether a class has a name that isn't the fiber's
  class_past : (c : ClassId) (name : List ℕ) → bytes_eq [] name ≡ false → bytes_eq (codes "kilim/Fiber") name ≡ false → is_named W name c ≡ is_named P name c
  class_past c name e d = ap (λ (cs : List Class). bytes_eq (elim (slice_get cs c.0) [ None ↦ [] | Some class ↦ class.name ]) name) grown ∙ go P.classes c.0
    where
      one : (k : ℕ) → bytes_eq (elim (slice_get (F ∷ []) k) [ None ↦ [] | Some class ↦ class.name ]) name ≡ false
      one zero = d
      one (suc k) = e

      go : (cs : List Class) (k : ℕ) → bytes_eq (elim (slice_get (cs ++ F ∷ []) k) [ None ↦ [] | Some class ↦ class.name ]) name ≡ bytes_eq (elim (slice_get cs k) [ None ↦ [] | Some class ↦ class.name ]) name
      go [] k = one k ∙ sym e
      go (c ∷ cs) zero = refl
      go (c ∷ cs) (suc k) = go cs k

  messages_same : (c : ClassId) → c.0 < length P.classes → list_any (is_message W) (line_of W c) ≡ list_any (is_message P) (line_of P c)
  messages_same c h =
      ap (list_any (is_message W)) (lines.whole_same P W keeps F grown c h)
      ∙ lines.any_alike P W keeps F grown (is_message W) (is_message P) (λ d l. lines.message_same P W keeps F grown d l) (length P.classes) c h

  class_fits_same : (a b : ClassId) → a.0 < length P.classes → class_assignable W a b ≡ class_assignable P a b
  class_fits_same a b h =
      ap (λ (ds : List ClassId). list_any (λ c. c.0 == b.0) ds || (is_named W (codes "java/lang/Object") b || (is_named W (codes "kilim/Message") b && list_any (is_message W) (line_of W a)))) (lines.whole_same P W keeps F grown a h)
      ∙ ap (λ (z : Bool). list_any (λ c. c.0 == b.0) (line_of P a) || (z || (is_named W (codes "kilim/Message") b && list_any (is_message W) (line_of W a)))) (class_past b (codes "java/lang/Object") refl refl)
      ∙ ap (λ (z : Bool). list_any (λ c. c.0 == b.0) (line_of P a) || (is_named P (codes "java/lang/Object") b || (z && list_any (is_message W) (line_of W a)))) (class_past b (codes "kilim/Message") refl refl)
      ∙ ap (λ (z : Bool). list_any (λ c. c.0 == b.0) (line_of P a) || (is_named P (codes "java/lang/Object") b || (is_named P (codes "kilim/Message") b && z))) (messages_same a h)

  pub fits_same : (a b : Ty) → is_old_base P a.base → fits_type W a b ≡ fits_type P a b
  unfolding fits_type
  fits_same a b old = by a.dims b.dims
    where
      bases : (x y : Base) → is_old_base P x → base_assignable W x y ≡ base_assignable P x y
      bases (base.Class c) (base.Class d) h = class_fits_same c d h
      bases (base.Class c) base.Bool h = refl
      bases (base.Class c) base.Byte h = refl
      bases (base.Class c) base.Char h = refl
      bases (base.Class c) base.Short h = refl
      bases (base.Class c) base.Int h = refl
      bases (base.Class c) base.Long h = refl
      bases base.Bool y h = refl
      bases base.Byte y h = refl
      bases base.Char y h = refl
      bases base.Short y h = refl
      bases base.Int y h = refl
      bases base.Long y h = refl

      object : (y : Base) → is_object_base W y ≡ is_object_base P y
      object (base.Class d) = class_past d (codes "java/lang/Object") refl refl
      object base.Bool = refl
      object base.Byte = refl
      object base.Char = refl
      object base.Short = refl
      object base.Int = refl
      object base.Long = refl

      by : (m n : ℕ) → type_assignable W m a.base n b.base ≡ type_assignable P m a.base n b.base
      by zero zero = bases a.base b.base old
      by zero (suc n) = refl
      by (suc m) zero = object b.base
      by (suc m) (suc n) = by m n

  -- ---- what calls select

  pub selected_same : (id : MethodId) (a b : Method) → method_at P id ≡ Some a → Like P a b → a.is_private ≡ false → is_constructor a ≡ false → (c : ClassId) → list_any (λ (d : ClassId). d.0 == a.owner.0) (line_of P c) ≡ true
      → (f : MethodId) × (selected W c b ≡ Some f) × (selected P c a ≡ Some f) × IsChosen P c a f
  selected_same id a b at la public plain c line =
      let f = finds_chosen P id a c keeps at public plain line in
      (f.0, kept.selected_kept P W keeps F grown woven id a b at la c f.0 f.1 f.2, f.1, f.2)

  -- a class that fits the owner of a method that is no constructor has the owner in its line
  pub in_line : (id : MethodId) (a : Method) → method_at P id ≡ Some a → is_constructor a ≡ false → (k : ClassId) → class_assignable P k a.owner ≡ true → list_any (λ (d : ClassId). d.0 == a.owner.0) (line_of P k) ≡ true
  in_line id a at plain k e =
      cases (list_any (λ (d : ClassId). d.0 == a.owner.0) (line_of P k)) (is_named P (codes "java/lang/Object") a.owner) (is_named P (codes "kilim/Message") a.owner) (list_any (is_message P) (line_of P k)) e
      (λ l. l) (λ o. absurd (not_object P keeps id a at plain o)) (λ m s. absurd (not_message P keeps id a at plain m))

  pub chosen_same : (id : MethodId) (a b : Method) → method_at P id ≡ Some a → Like P a b → is_constructor a ≡ false → (ty : Ty) → fits_type P ty (class_type a.owner.0) ≡ true → chosen W b id ty ≡ chosen P a id ty
  unfolding fits_type
  chosen_same id a b at la plain ty fits =
      ap (λ (z : Bool). if z then id else chosen_on W b id ty.dims ty.base) la.is_private ∙ by a.is_private refl
    where
      on : (d : ℕ) (x : Base) → a.is_private ≡ false → type_assignable P d x 0 (base.Class a.owner) ≡ true → chosen_on W b id d x ≡ chosen_on P a id d x
      on zero (base.Class k) public e =
          let s = selected_same id a b at la public plain k (in_line id a at plain k e) in
          ap (λ (o : Option MethodId). chosen_by o id) (s.1 ∙ sym s.2)
      on zero base.Bool public e = refl
      on zero base.Byte public e = refl
      on zero base.Char public e = refl
      on zero base.Short public e = refl
      on zero base.Int public e = refl
      on zero base.Long public e = refl
      on (suc d) x public e = refl

      by : (z : Bool) → a.is_private ≡ z → (if z then id else chosen_on W b id ty.dims ty.base) ≡ (if z then id else chosen_on P a id ty.dims ty.base)
      by true e = refl
      by false e = on ty.dims ty.base e fits

  found_there : (c : ClassId) (a : Method) (f : MethodId) → selected P c a ≡ Some f → (m : Method) × (method_at P f ≡ Some m)
  found_there c a f e = let r = answer_of P a f (first_passes (λ (x : MethodId). answers a (method_at P x)) (flat_map (methods_of P) (line_of P c)) f e) in (r.method, r.there)

  -- what is chosen is a method of the program
  pub chosen_there : (id : MethodId) (a : Method) → method_at P id ≡ Some a → (ty : Ty) → (b : Method) × (method_at P (chosen P a id ty) ≡ Some b)
  chosen_there id a at ty = by a.is_private
    where
      picked : (c : ClassId) (o : Option MethodId) → selected P c a ≡ o → (b : Method) × (method_at P (chosen_by o id) ≡ Some b)
      picked c None e = (a, at)
      picked c (Some f) e = found_there c a f e

      on : (d : ℕ) (x : Base) → (b : Method) × (method_at P (chosen_on P a id d x) ≡ Some b)
      on zero (base.Class k) = picked k (selected P k a) refl
      on zero base.Bool = (a, at)
      on zero base.Byte = (a, at)
      on zero base.Char = (a, at)
      on zero base.Short = (a, at)
      on zero base.Int = (a, at)
      on zero base.Long = (a, at)
      on (suc d) x = (a, at)

      by : (z : Bool) → (b : Method) × (method_at P (if z then id else chosen_on P a id ty.dims ty.base) ≡ Some b)
      by true = (a, at)
      by false = on ty.dims ty.base

  -- what is chosen pauses where the named method does
  pub chosen_pauses : (id : MethodId) (a : Method) → method_at P id ≡ Some a → is_constructor a ≡ false → (ty : Ty) → fits_type P ty (class_type a.owner.0) ≡ true → (m : Method) → method_at P (chosen P a id ty) ≡ Some m → m.pausable ≡ a.pausable
  unfolding fits_type
  chosen_pauses id a at plain ty fits m there = by a.is_private refl there
    where
      itself : method_at P id ≡ Some m → m.pausable ≡ a.pausable
      itself e = ap (λ (z : Method). z.pausable) (same_Some m a (sym e ∙ at))

      on : (d : ℕ) (x : Base) → a.is_private ≡ false → type_assignable P d x 0 (base.Class a.owner) ≡ true → method_at P (chosen_on P a id d x) ≡ Some m → m.pausable ≡ a.pausable
      on zero (base.Class k) public e t =
          let f = finds_chosen P id a k keeps at public plain (in_line id a at plain k e) in
          let c = f.2 in
          ap (λ (z : Method). z.pausable) (same_Some m c.method (sym (sym (ap (λ (o : Option MethodId). method_at P (chosen_by o id)) f.1) ∙ t) ∙ c.there)) ∙ c.pausable
      on zero base.Bool public e t = itself t
      on zero base.Byte public e t = itself t
      on zero base.Char public e t = itself t
      on zero base.Short public e t = itself t
      on zero base.Int public e t = itself t
      on zero base.Long public e t = itself t
      on (suc d) x public e t = itself t

      by : (z : Bool) → a.is_private ≡ z → method_at P (if z then id else chosen_on P a id ty.dims ty.base) ≡ Some m → m.pausable ≡ a.pausable
      by true e t = itself t
      by false e t = on ty.dims ty.base e fits t

  -- ---- invokespecial

  public_is : (z : Bool) → (not z || false) ≡ true → z ≡ false
  public_is true e = absurd (cc)
  public_is false e = refl

  superclass_is : (o : Option Class) → superclass_of o ≡ superclass_at o
  superclass_is None = refl
  superclass_is (Some c) = refl

  -- what it calls, in both programs, and that this pauses where the named one does
  pub record Special (u v : Method) (id : MethodId) (a b : Method) : Type 0 where
    pub agrees : special W v b id ≡ special P u a id
    pub method : Method
    pub there : method_at P (special P u a id) ≡ Some method
    pub pausable : method.pausable ≡ a.pausable

  pub special_by : (u v : Method) (id : MethodId) (a b : Method) → method_at P id ≡ Some a → Like P a b → u.owner.0 < length P.classes → v.owner ≡ u.owner
      → (is_constructor a ≡ false → (step.may_name u a.is_private a.owner ≡ true) × (special_fits P u id a ≡ true)) → Special u v id a b
  unfolding special_fits
  special_by u v id a b at la own_in owners asks = by (is_constructor a) refl (a.owner.0 == u.owner.0) refl
    where
      SW : Bool → Bool → Option ClassId → MethodId
      SW k o up = if k || o then id else above_of W b id up

      SP : Bool → Bool → Option ClassId → MethodId
      SP k o up = if k || o then id else above_of P a id up

      above_now : superclass_of (class_at W v.owner) ≡ superclass_of (class_at P u.owner)
      above_now = ap (λ (c : ClassId). superclass_of (class_at W c)) owners ∙ ap superclass_of (lines.class_same P W keeps F grown u.owner own_in)

      same_test : special W v b id ≡ (if is_constructor a || (a.owner.0 == u.owner.0) then id else above_of W b id (superclass_of (class_at P u.owner)))
      same_test =
          ap (λ (n : List ℕ). if bytes_eq n (codes "<init>") || (b.owner.0 == v.owner.0) then id else above_of W b id (superclass_of (class_at W v.owner))) la.name
          ∙ ap (λ (c : ClassId). if is_constructor a || (c.0 == v.owner.0) then id else above_of W b id (superclass_of (class_at W v.owner))) la.owner
          ∙ ap (λ (c : ClassId). if is_constructor a || (a.owner.0 == c.0) then id else above_of W b id (superclass_of (class_at W v.owner))) owners
          ∙ ap (λ (o : Option ClassId). if is_constructor a || (a.owner.0 == u.owner.0) then id else above_of W b id o) above_now

      itself : (z : Bool) → (is_constructor a || (a.owner.0 == u.owner.0)) ≡ true → Special u v id a b
      itself z e = record {
        agrees = same_test ∙ ap (λ (t : Bool). if t then id else above_of W b id (superclass_of (class_at P u.owner))) e ∙ sym (ap (λ (t : Bool). if t then id else above_of P a id (superclass_of (class_at P u.owner))) e);
        method = a;
        there = subst (λ (t : Bool). method_at P (if t then id else above_of P a id (superclass_of (class_at P u.owner))) ≡ Some a) (sym e) at;
        pausable = refl;
      }

      above_it : (o : Option ClassId) → superclass_of (class_at P u.owner) ≡ o → is_constructor a ≡ false → a.is_private ≡ false → is_above P o a ≡ true → (is_constructor a || (a.owner.0 == u.owner.0)) ≡ false → Special u v id a b
      above_it None up plain public e test = absurd (cc)
      above_it (Some c) up plain public e test =
          let line = (and_parts (list_any (λ (d : ClassId). d.0 == a.owner.0) (line_of P c)) (step.selects P (selected P c a)) e).0 in
          let s = selected_same id a b at la public plain c line in
          let in_w : special W v b id ≡ s.0 = same_test ∙ ap (λ (t : Bool). if t then id else above_of W b id (superclass_of (class_at P u.owner))) test ∙ ap (above_of W b id) up ∙ ap (λ (o : Option MethodId). chosen_by o id) s.1 in
          let in_p : special P u a id ≡ s.0 = ap (λ (t : Bool). if t then id else above_of P a id (superclass_of (class_at P u.owner))) test ∙ ap (above_of P a id) up ∙ ap (λ (o : Option MethodId). chosen_by o id) s.2 in
          record { agrees = in_w ∙ sym in_p; method = s.3.method; there = ap (method_at P) in_p ∙ s.3.there; pausable = s.3.pausable }

      by : (k : Bool) → is_constructor a ≡ k → (o : Bool) → (a.owner.0 == u.owner.0) ≡ o → Special u v id a b
      by true plain o same = itself true (ap (λ (z : Bool). z || (a.owner.0 == u.owner.0)) plain)
      by false plain true same = itself true (ap (λ (z : Bool). z || (a.owner.0 == u.owner.0)) plain ∙ same)
      by false plain false same =
          let w = asks plain in
          let may = ap (λ (z : Bool). not a.is_private || z) (sym same) ∙ w.0 in
          let fits = ap (λ (z : Bool). if z then a.is_private else is_superclass_method P (class_at P u.owner) a) (sym same) ∙ w.1 in
          above_it (superclass_of (class_at P u.owner)) refl plain (public_is a.is_private may) (ap (λ (o : Option ClassId). is_above P o a) (superclass_is (class_at P u.owner)) ∙ fits)
          (ap (λ (z : Bool). z || (a.owner.0 == u.owner.0)) plain ∙ same)
