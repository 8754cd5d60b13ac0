-- The law, put together.
use Rattle.std.proofs.Common.{◌≡◌, inl, inr, ℕ, zero, suc, ◌+◌, ◌-◌, ◌<◌, ◌≤◌, Bool, true, false, cond, eqb, eq-eqb, append_assoc, not, List, [], ◌∷◌, ◌++◌, length, Option, Some, None, refl, sym, ap, subst, ◌∙◌, arith, length-append, ltb-true, ltb-false, le-add_right}
use Rattle.std.specs.Prelude.{◌&&◌, ◌||◌, slice_get, nat_lt, nat_le, sum_by, codes}
use Rattle.std.specs.List.{list_all, list_any}
use Rattle.std.specs.Str.{bytes_eq}
use Rattle.std.proofs.lemmas.Bool.{and_parts, and_from, and_right, cases_lt, le-leb, leb-true, not-true, or_left, or_right, or_parts}
use Rattle.std.proofs.lemmas.List.Sums.{sum_by-append}
use Rattle.std.proofs.lemmas.Option.{none-some, same_Some}
use Rattle.kilim_program.specs.declared.class.Class.{Class}
use Rattle.kilim_program.specs.declared.class.Form.{Form}
use Rattle.kilim_program.specs.declared.class.Form.TheVariants.{Plain, Woven}
use Rattle.kilim_program.specs.declared.class.Method.{Method}
use Rattle.kilim_program.specs.declared.instr.Instr.{Instr}
use Rattle.kilim_program.specs.declared.instr.Instr.TheVariants.{Checkcast}
use Rattle.kilim_program.specs.declared.names.ClassId.{ClassId}
use Rattle.kilim_program.specs.declared.names.MethodId.{MethodId}
use Rattle.kilim_program.specs.declared.ty.Base.{Base}
use Rattle.kilim_program.specs.declared.ty.Base.TheVariants as base
use Rattle.kilim_program.specs.declared.ty.Ty.{Ty}
use Rattle.kilim_program.specs.declared.verified.Frame.{Frame}
use Rattle.kilim_program.specs.declared.verified.VType.{VType}
use Rattle.kilim_program.specs.declared.verified.VType.TheVariants.{Top, Int, Long, Null, UninitThis, Uninit, Object}
use Rattle.kilim_program.specs.BuiltIn.{class_id, class_type, plain_type, int_type, methods_from, built_in_class, built_in_method, built_in_classes_in, fiber_type, fiber_methods, of_fiber, on_fiber}
use Rattle.kilim_program.specs.declared.ty.Qualifier.TheVariants.{Safe}
use Rattle.kilim_program.specs.Fits.{fits_type, is_named, type_assignable, base_assignable}
use Rattle.kilim_program.specs.Keeps.{Keeps, code_is_whole, method_is_sound}
use Rattle.kilim_program.specs.Lengths.{code_stands, first_place, has_length, is_code_place, is_reference_type}
use Rattle.kilim_program.specs.Lengths as lengths
use Rattle.kilim_program.specs.Names.{line_of, class_at, class_from, class_name, class_named, is_empty, method_at}
use Rattle.kilim_program.specs.Program.{Program}
use Rattle.kilim_program.specs.Same.{argument_slots, is_constructor, type_slots}
use Rattle.kilim_lemmas.proofs.Lists.{get_right, get_some}
use Rattle.kilim_type_spec.specs.Step.{Types, peek, is_top, is_unset_this, is_object, words, assignable, base_vtype, dims_vtype, vtype_of_class, may_make, superclass_at}
use Rattle.kilim_type_spec.specs.Typed.{IsWellTyped, WellTyped, declared, entry, frame_fits, frame_in, halves, has_code, is_proper, is_throwable, param_slots, stands_at_new, this_types, typing_of}
use Rattle.kilim_weave_spec.specs.Form.{WovenForm, woven_as, has_calls, plan_of, only_with_fiber, first_class, first_method}
use Rattle.kilim_weave_spec.specs.Weight.{weight, calls_in, one_more}
use Rattle.kilim_weave_spec.specs.Woven.{fiber_class, fiber_ty, larger, member, pausable_callee}
use Rattle.kilim_weave_laws.specs.woven_types.Facts.{CallsNone, Members, WovenMethod, is_reference}
use Rattle.kilim_weave_laws.specs.woven_types.Same.{Callee, Programs, Shared}
use Rattle.kilim_weave_laws.specs.woven_types.Theorem.{AllChecked, AllNoneUnset, Checked, Weaving}
use Rattle.kilim_weave_laws.proofs.woven_types.Codes.{whole_code}
use Rattle.kilim_weave_laws.proofs.woven_types.Flow.{is_larger}
use Rattle.kilim_weave_laws.proofs.woven_types.Prologue.{params_more, peek_end, peek_front}
use Rattle.kilim_weave_laws.proofs.woven_types.Callless.{callless}
use Rattle.kilim_weave_laws.proofs.woven_types.Unchanged.{unchanged}
use Rattle.kilim_weave_laws.proofs.woven_types.Theorem.{proved}
use Rattle.kilim_type_laws.proofs.NoTable.{none_handles}
use Rattle.kilim_type_laws.proofs.members.FromKeeps.{all_at, itself}
use Rattle.kilim_type_laws.proofs.members.ValueClasses as values
use Rattle.kilim_weave_laws.specs.woven_programs.Law.{EachIsShort, KeepsPauses, NoneAcross, WovenProgramsAreTyped}
use Rattle.kilim_weave_laws.proofs.woven_programs.ClassLists.{any_kept, assigns, class_kept, class_named_kept, class_named_same, line_kept, name_is, name_kept, name_of, named_kept}
use Rattle.kilim_weave_laws.proofs.woven_programs.Handled.{handles_kept, none_pauses_with_table}
use Rattle.kilim_weave_laws.proofs.woven_programs.Frames.{by_place}
use Rattle.kilim_weave_laws.proofs.woven_programs.Methods.{IsFound, Like, fibers, like, members_behind, woven_at}
use Rattle.kilim_weave_laws.proofs.woven_programs.Naming.{owner_there}
use Rattle.kilim_weave_laws.proofs.woven_programs.Selecting.{special_kept}

-- ---- small facts

not_both : (x y : Bool) → not (x && y) ≡ true → y ≡ true → x ≡ false
not_both true true e h = absurd (cc)
not_both true false e h = absurd (cc)
not_both false y e h = refl

any_less : {A : Type 0} (test : A → Bool) (xs ys : List A) → list_any test (xs ++ ys) ≡ false → list_any test xs ≡ false
any_less test [] ys e = refl
any_less test (x ∷ xs) ys e = let p = or_parts (test x) (list_any test (xs ++ ys)) e in let r = any_less test xs ys p.1 in by (test x) p.0 r
  where
    by : (b : Bool) → b ≡ false → list_any test xs ≡ false → (b || list_any test xs) ≡ false
    by true e r = absurd (cc)
    by false e r = r

all_kept : {A : Type 0} (f g : A → Bool) → ((x : A) → f x ≡ true → g x ≡ true) → (xs : List A) → list_all f xs ≡ true → list_all g xs ≡ true
all_kept f g k [] e = refl
all_kept f g k (x ∷ xs) e = let p = and_parts (f x) (list_all f xs) e in and_from (g x) _ (k x p.0) (all_kept f g k xs p.1)

-- a class that isn't among the first has a place behind them
skips : (xs ys : List Class) (name : List ℕ) (n : ℕ) → ((k : ℕ) (c : Class) → slice_get xs k ≡ Some c → bytes_eq c.name name ≡ false) → class_from (xs ++ ys) name n ≡ class_from ys name (n + length xs)
skips [] ys name n apart = ap (class_from ys name) (omega arith)
skips (x ∷ xs) ys name n apart =
    let number : suc n + length xs ≡ n + suc (length xs) = omega arith in
    ap (λ (z : Bool). cond z (Some (class_id n)) (class_from (xs ++ ys) name (suc n))) (apart 0 x refl)
    ∙ (skips xs ys name (suc n) (λ k c e. apart (suc k) c e) ∙ ap (class_from ys name) number)

eighteen : (form : Form) (a b : ℕ) → form ≡ Plain → length (built_in_classes_in form a b) ≡ 18
eighteen Plain a b e = refl
eighteen Woven a b e = absurd (cc)

has_object : (form : Form) (a b : ℕ) → list_any (λ c. bytes_eq c.name (codes "java/lang/Object")) (built_in_classes_in form a b) ≡ true
has_object Plain a b = refl
has_object Woven a b = refl

object_first : (form : Form) (a b n : ℕ) → class_from (built_in_classes_in form a b) (codes "java/lang/Object") n ≡ Some (class_id n)
object_first Plain a b n = refl
object_first Woven a b n = refl

object_there : (form : Form) (a b : ℕ) → (c : Class) × (slice_get (built_in_classes_in form a b) 0 ≡ Some c) × (c.name ≡ codes "java/lang/Object")
object_there Plain a b = (_, refl, refl)
object_there Woven a b = (_, refl, refl)

only_one : (x y : Class) (k : ℕ) → slice_get (x ∷ []) k ≡ Some y → x ≡ y
only_one x y zero e = same_Some x y e
only_one x y (suc k) e = absurd (cc)

last_true : (a b c d e : Bool) → e ≡ true → not (a || (b || (c || (d || e)))) ≡ false
last_true a b c d e h = ap not (or_right a _ (or_right b _ (or_right c _ (or_right d e h))))

no_code : (n : ℕ) → list_all (λ m. not (has_code m)) (fiber_methods Woven n) ≡ true
no_code n = refl

-- ---- casts

base_object : (ty : Ty) (b : Base) → is_reference_type 0 b ≡ true → is_object (base_vtype ty b) ≡ true
base_object ty (base.Class c) e = refl
base_object ty base.Bool e = absurd (cc)
base_object ty base.Byte e = absurd (cc)
base_object ty base.Char e = absurd (cc)
base_object ty base.Short e = absurd (cc)
base_object ty base.Int e = absurd (cc)
base_object ty base.Long e = absurd (cc)

dims_object : (ty : Ty) (d : ℕ) → is_reference_type d ty.base ≡ true → is_object (dims_vtype ty d) ≡ true
dims_object ty zero e = base_object ty ty.base e
dims_object ty (suc d) e = refl

cast_checked : (i : Instr) (at n : ℕ) → has_length at i n ≡ true → Checked i
unfolding has_length
cast_checked (Checkcast ty) at n h = dims_object ty ty.dims (and_parts (lengths.is_reference ty) (eqb n 3) h).0
cast_checked i at n h = tt

all_checked : (es : List (ℕ × Instr)) (at end : ℕ) → code_stands at es end ≡ true → AllChecked es
unfolding code_stands
all_checked [] at end h = tt
all_checked (e ∷ es) at end h =
    let p = and_parts (eqb e.0 at) _ h in
    let q = and_parts (has_length at e.1 (first_place es end - at)) _ p.1 in
    (cast_checked e.1 at (first_place es end - at) q.0, all_checked es (first_place es end) end q.1)

-- ---- calls

calls_none : (p : Program) (es : List (ℕ × Instr)) → nat_lt 0 (calls_in p es) ≡ false → CallsNone p es
calls_none p [] h = tt
calls_none p (e ∷ es) h = by (pausable_callee p e.1) refl h (λ r. calls_none p es r)
  where
    by : (o : Option Method) → pausable_callee p e.1 ≡ o → nat_lt 0 (one_more o (calls_in p es)) ≡ false → (nat_lt 0 (calls_in p es) ≡ false → CallsNone p es) → (pausable_callee p e.1 ≡ None) × CallsNone p es
    by None is h again = (is, again h)
    by (Some callee) is h again = absurd (let x = ltb-false 0 (suc (calls_in p es)) h in omega (arith, x))

-- ---- frames that fit

-- a frame that fits has no mark of a constructor
frame_set : (m : Method) → is_constructor m ≡ false → (es : List (ℕ × Frame)) (q : ℕ) (d : Types) → list_all (frame_fits m) es ≡ true → frame_in es q ≡ Some d → d.unset ≡ false
frame_set m plain_name [] q d h e = absurd (cc)
frame_set m plain_name (x ∷ es) q d h e = by (eqb x.0 q) e (λ r. frame_set m plain_name es q d parts.1 r)
  where
    parts : (frame_fits m x ≡ true) × (list_all (frame_fits m) es ≡ true)
    parts = and_parts (frame_fits m x) (list_all (frame_fits m) es) h

    unmarked : list_any is_unset_this x.1.locals ≡ false
    unmarked =
        let c8 = is_constructor m || not (list_any is_unset_this (x.1.locals ++ x.1.stack)) in
        let c7 = list_all is_proper (x.1.locals ++ x.1.stack) in
        let c6 = halves x.1.locals in
        let c5 = list_all (stands_at_new m) (x.1.locals ++ x.1.stack) in
        let c4 = not (list_any is_top x.1.stack) in
        let c3 = nat_le (words x.1.stack) m.max_stack in
        let c2 = nat_le (length x.1.locals) m.max_locals in
        let p1 = and_parts (is_code_place m.code x.0) (c2 && (c3 && (c4 && (c5 && (c6 && (c7 && c8)))))) parts.0 in
        let p2 = and_parts c2 (c3 && (c4 && (c5 && (c6 && (c7 && c8))))) p1.1 in
        let p3 = and_parts c3 (c4 && (c5 && (c6 && (c7 && c8)))) p2.1 in
        let p4 = and_parts c4 (c5 && (c6 && (c7 && c8))) p3.1 in
        let p5 = and_parts c5 (c6 && (c7 && c8)) p4.1 in
        let p6 = and_parts c6 (c7 && c8) p5.1 in
        let p7 = and_parts c7 c8 p6.1 in
        any_less is_unset_this x.1.locals x.1.stack (plainly (is_constructor m) plain_name p7.1)
      where
        plainly : (b : Bool) → b ≡ false → (b || not (list_any is_unset_this (x.1.locals ++ x.1.stack))) ≡ true → list_any is_unset_this (x.1.locals ++ x.1.stack) ≡ false
        plainly true e h = absurd (cc)
        plainly false e h = not-true _ h

    by : (b : Bool) → cond b (Some (Rattle.kilim_type_spec.specs.Typed.frame_types x.1)) (frame_in es q) ≡ Some d → (frame_in es q ≡ Some d → d.unset ≡ false) → d.unset ≡ false
    by true e again = ap (λ (z : Types). z.unset) (sym (same_Some _ d e)) ∙ unmarked
    by false e again = again e

-- ---- the two programs

module _ (P W : Program) (counted : List (List Bool)) (keeps : Keeps P) (plainly : P.form ≡ Plain) (form : WovenForm P W counted) where
  abbrev pub own : ℕ
  own = length keeps.built_in.own_classes

  abbrev pub made : ℕ
  made = length keeps.built_in.own_methods

  abbrev pub fiber_parts : Class
  fiber_parts = built_in_class (codes "kilim/Fiber") (Some (class_id (first_class P))) false (methods_from (first_method P) (43 ∷ 44 ∷ 45 ∷ 46 ∷ 47 ∷ 48 ∷ 49 ∷ 50 ∷ 51 ∷ 52 ∷ 53 ∷ []))

  abbrev pub Grown : Type 0
  Grown = W.classes ≡ P.classes ++ fiber_parts ∷ []

  pub grown : Grown
  grown = form.classes

  pub how_many : length P.classes ≡ own + 18
  how_many =
      ap length keeps.built_in.classes
      ∙ (length-append keeps.built_in.own_classes (built_in_classes_in P.form own made) ∙ ap (λ (n : ℕ). own + n) (eighteen P.form own made plainly))

  pub first_is : first_class P ≡ own
  first_is = let e : first_class P ≡ length P.classes - 18 = refl in let n = how_many in omega (arith, e, n)

  fiber_number : first_class P + 18 ≡ length P.classes
  fiber_number = let e = first_is in let n = how_many in omega (arith, e, n)

  object_named : class_named P (codes "java/lang/Object") ≡ Some (class_id (first_class P))
  object_named =
      let number : 0 + own ≡ first_class P = (let e = first_is in omega (arith, e)) in
      ap (λ (cs : List Class). class_from cs (codes "java/lang/Object") 0) keeps.built_in.classes
      ∙ (skips keeps.built_in.own_classes (built_in_classes_in P.form own made) (codes "java/lang/Object") 0 (λ k c e. values.apart P keeps (codes "java/lang/Object") (has_object P.form own made) k c e)
      ∙ (object_first P.form own made (0 + own) ∙ ap (λ (n : ℕ). Some (class_id n)) number))

  object_is_named : is_named W (codes "java/lang/Object") (class_id (first_class P)) ≡ true
  object_is_named =
      let o = object_there P.form own made in
      let at : class_at P (class_id (first_class P)) ≡ Some o.0 =
      ap (λ (cs : List Class). slice_get cs (first_class P)) keeps.built_in.classes
      ∙ (get_right keeps.built_in.own_classes (built_in_classes_in P.form own made) (first_class P) 0 (let e = first_is in omega (arith, e)) ∙ o.1) in
      ap (λ (n : List ℕ). bytes_eq n (codes "java/lang/Object")) (name_is W (class_id (first_class P)) ∙ (ap name_of (class_kept P W fiber_parts grown (class_id (first_class P)) o.0 at) ∙ o.2))

  -- ---- methods

  found : (id : MethodId) (a : Method) → method_at P id ≡ Some a → IsFound P W.methods id.0 a
  found id a at = woven_at P P.methods W.methods counted form.methods id.0 a at

  woven : (id : MethodId) (a : Method) → method_at P id ≡ Some a → (b : Method) × (method_at W id ≡ Some b) × Like P a b
  woven id a at = let f = found id a at in (f.woven, f.there, like P a f.woven f.counted f.is)

  member_there : (n : ℕ) (m : Method) → slice_get (fiber_methods Woven (first_class P)) n ≡ Some m → method_at W (member P n) ≡ Some m
  member_there n m e =
      let r = members_behind P P.methods W.methods counted form.methods in
      ap (λ (ms : List Method). slice_get ms (length P.methods + n)) r.1
      ∙ (get_right r.0 (fiber_methods Woven (first_class P)) (length P.methods + n) n (ap (λ (k : ℕ). k + n) (sym r.2)) ∙ e)

  constructors : (id : MethodId) (a : Method) → method_at P id ≡ Some a → a.pausable ≡ true → is_constructor a ≡ false
  unfolding method_is_sound
  constructors id a at is =
      let s = all_at method_is_sound P.methods id.0 a keeps.methods at in
      let t = and_parts (eqb (length a.qualifiers) (length a.params)) _ s in
      not_both (is_constructor a) a.pausable (and_parts (nat_le (argument_slots a) 255) _ t.1).1 is

  -- ---- the members of the fiber

  owner_is : class_id (first_class P + 18) ≡ fiber_class P
  owner_is = ap class_id fiber_number

  type_is : fiber_type (first_class P) ≡ fiber_ty P
  type_is = ap class_type fiber_number

  to_object : (ty : Ty) → is_reference (Object ty) ≡ true → assignable W (Object ty) (Object (class_type (first_class P))) ≡ true
  unfolding fits_type
  to_object ty h = by_dims ty.dims h
    where
      by_base : (b : Base) → is_object (base_vtype ty b) ≡ true → base_assignable W b (base.Class (class_id (first_class P))) ≡ true
      by_base (base.Class c) e = or_right _ _ (or_left _ _ object_is_named)
      by_base base.Bool e = absurd (cc)
      by_base base.Byte e = absurd (cc)
      by_base base.Char e = absurd (cc)
      by_base base.Short e = absurd (cc)
      by_base base.Int e = absurd (cc)
      by_base base.Long e = absurd (cc)

      by_dims : (d : ℕ) → is_object (dims_vtype ty d) ≡ true → type_assignable W d ty.base 0 (base.Class (class_id (first_class P))) ≡ true
      by_dims zero e = by_base ty.base e
      by_dims (suc d) e = object_is_named

  members : Members P W
  members =
      let first = first_class P in
      record {
        object_ty = class_type first;
        is_class = refl;
        is_object = ap vtype_of_class (class_named_kept P W fiber_parts grown (codes "java/lang/Object") (class_id first) object_named);
        to_object = to_object;
        pc = record { method = of_fiber first (codes "pc") (Some int_type); there = member_there 0 _ refl; has_params = refl; has_result = refl; has_static = refl; is_public = refl; has_owner = owner_is; plain = refl };
        down = record { method = of_fiber first (codes "down") (Some (fiber_type first)); there = member_there 1 _ refl; has_params = refl; has_result = ap (λ (ty : Ty). Some ty) type_is; has_static = refl; is_public = refl; has_owner = owner_is; plain = refl };
        up = record { method = of_fiber first (codes "up") (Some int_type); there = member_there 2 _ refl; has_params = refl; has_result = refl; has_static = refl; is_public = refl; has_owner = owner_is; plain = refl };
        save_int = record { method = on_fiber first (codes "saveI") int_type; there = member_there 3 _ refl; has_params = ap (λ (ty : Ty). int_type ∷ ty ∷ []) type_is; has_result = refl; has_static = refl; is_public = refl; has_owner = owner_is; plain = refl };
        save_long = record { method = on_fiber first (codes "saveJ") (plain_type base.Long); there = member_there 4 _ refl; has_params = ap (λ (ty : Ty). plain_type base.Long ∷ ty ∷ []) type_is; has_result = refl; has_static = refl; is_public = refl; has_owner = owner_is; plain = refl };
        save_object = record { method = on_fiber first (codes "saveA") (class_type first); there = member_there 5 _ refl; has_params = ap (λ (ty : Ty). class_type first ∷ ty ∷ []) type_is; has_result = refl; has_static = refl; is_public = refl; has_owner = owner_is; plain = refl };
        place = record { method = built_in_method (codes "place") (class_id (first + 18)) (int_type ∷ class_type first ∷ fiber_type first ∷ []) None true false Safe (Safe ∷ Safe ∷ Safe ∷ []); there = member_there 6 _ refl; has_params = ap (λ (ty : Ty). int_type ∷ class_type first ∷ ty ∷ []) type_is; has_result = refl; has_static = refl; is_public = refl; has_owner = owner_is; plain = refl };
        rest_int = record { method = of_fiber first (codes "restI") (Some int_type); there = member_there 7 _ refl; has_params = refl; has_result = refl; has_static = refl; is_public = refl; has_owner = owner_is; plain = refl };
        rest_long = record { method = of_fiber first (codes "restJ") (Some (plain_type base.Long)); there = member_there 8 _ refl; has_params = refl; has_result = refl; has_static = refl; is_public = refl; has_owner = owner_is; plain = refl };
        rest_object = record { method = of_fiber first (codes "restA") (Some (class_type first)); there = member_there 9 _ refl; has_params = refl; has_result = refl; has_static = refl; is_public = refl; has_owner = owner_is; plain = refl };
        receiver = record { method = of_fiber first (codes "receiver") (Some (class_type first)); there = member_there 10 _ refl; has_params = refl; has_result = refl; has_static = refl; is_public = refl; has_owner = owner_is; plain = refl };
      }

  -- ---- what calls and rows look at

  above : (id : MethodId) (m : Method) → method_at P id ≡ Some m → superclass_at (class_at W m.owner) ≡ superclass_at (class_at P m.owner)
  above id m at =
      let less = ltb-true m.owner.0 (length P.classes) (owner_there P keeps id m at) in
      let c = get_some P.classes m.owner.0 less in
      ap superclass_at (class_kept P W fiber_parts grown m.owner c.0 c.1 ∙ sym c.1)

  makes : (c : ClassId) → may_make W c (class_at W c) ≡ may_make P c (class_at P c)
  makes c = by (class_at P c) refl
    where
      fiber_is_not : (class : Class) → class_at P c ≡ None → class_at W c ≡ Some class → may_make W c (Some class) ≡ false
      fiber_is_not class none at =
          let past : length P.classes ≤ c.0 = elim (cases_lt c.0 (length P.classes)) [ inl less ↦ absurd (let g = get_some P.classes c.0 less in none-some g.0 (sym none ∙ g.1)) | inr ge ↦ ge ] in
          let there : slice_get (fiber_parts ∷ []) (c.0 - length P.classes) ≡ Some class =
          sym (get_right P.classes (fiber_parts ∷ []) c.0 (c.0 - length P.classes) (omega (arith, past))) ∙ (sym (ap (λ (cs : List Class). slice_get cs c.0) grown) ∙ at) in
          let same = only_one fiber_parts class (c.0 - length P.classes) there in
          let named : is_named W (codes "kilim/Fiber") c ≡ true = ap (λ (n : List ℕ). bytes_eq n (codes "kilim/Fiber")) (name_is W c ∙ (ap name_of at ∙ ap (λ (k : Class). k.name) (sym same))) in
          last_true class.is_abstract (is_named W (codes "kilim/Message") c) (is_named W (codes "java/lang/String") c) (is_named W (codes "kilim/Sys") c) (is_named W (codes "kilim/Fiber") c) named

      none : (o : Option Class) → class_at P c ≡ None → class_at W c ≡ o → may_make W c o ≡ false
      none None before at = refl
      none (Some class) before at = fiber_is_not class before at

      by : (o : Option Class) → class_at P c ≡ o → may_make W c (class_at W c) ≡ may_make P c o
      by None at = none (class_at W c) at refl
      by (Some class) at =
          ap (may_make W c) (class_kept P W fiber_parts grown c class at)
          ∙ ap (λ (n : List ℕ). not (class.is_abstract || (bytes_eq n (codes "kilim/Message") || (bytes_eq n (codes "java/lang/String") || (bytes_eq n (codes "kilim/Sys") || bytes_eq n (codes "kilim/Fiber")))))) (name_kept P W fiber_parts grown c class at)

  changed : (id : MethodId) (a : Method) → method_at P id ≡ Some a → a.pausable ≡ true → (b : Method) × (method_at W id ≡ Some b) × Callee P a b
  changed id a at is =
      let w = woven id a at in
      let l = w.2 in
      let plain_name = constructors id a at is in (
        w.0,
        w.1,
        record {
          params = l.params ∙ ap (λ (z : Bool). a.params ++ fibers P z) is;
          result = l.result;
          owner = l.owner;
          is_static = l.is_static;
          is_private = l.is_private;
          plain = plain_name;
          plain_too = ap (λ (n : List ℕ). bytes_eq n (codes "<init>")) l.name ∙ plain_name;
        },
      )

  same_when_plain : (a b : Method) (marks : List Bool) (z : Bool) → z ≡ false → woven_as z (has_calls P a) P a b marks → b ≡ a
  same_when_plain a b marks true e w = absurd (cc)
  same_when_plain a b marks false e w = w.0

  stays : (id : MethodId) (a : Method) → method_at P id ≡ Some a → a.pausable ≡ false → method_at W id ≡ Some a
  stays id a at is = let f = found id a at in f.there ∙ ap (λ (m : Method). Some m) (same_when_plain a f.woven f.counted a.pausable is f.is)

  programs : (id : MethodId) (m v : Method) → method_at P id ≡ Some m → v.owner ≡ m.owner → Programs P W m v
  programs id m v at owner =
      let string = values.string P keeps in
      record {
        fields = form.fields;
        text = ap vtype_of_class (class_named_kept P W fiber_parts grown (codes "java/lang/String") string.0 string.1 ∙ sym string.1);
        object = ap vtype_of_class (class_named_kept P W fiber_parts grown (codes "java/lang/Object") (class_id (first_class P)) object_named ∙ sym object_named);
        throwable = ap vtype_of_class (class_named_same P W fiber_parts grown (codes "java/lang/Throwable") refl);
        makes = makes;
        unchanged = stays;
        changed = changed;
        special = λ other a b there here plain_name may fits.
            let w = woven other a there in
            let is : w.0 ≡ b = same_Some w.0 b (sym w.1 ∙ here) in
            special_kept P W keeps fiber_parts grown woven other a b there (subst (λ (z : Method). Like P a z) is w.2) m v owner (above id m at) plain_name may fits;
      }

  itself_too : (t : VType) → assignable P t t ≡ true
  itself_too Top = refl
  itself_too Int = refl
  itself_too Long = refl
  itself_too Null = refl
  itself_too UninitThis = refl
  itself_too (Uninit q) = eq-eqb q q refl
  itself_too (Object ty) = itself P keeps ty

  pub code_at : (id : MethodId) (m : Method) → method_at P id ≡ Some m → code_stands 0 m.code m.code_length ≡ true
  unfolding code_is_whole
  code_at id m at = (and_parts (code_stands 0 m.code m.code_length) _ (all_at code_is_whole P.methods id.0 m keeps.code at)).0

  throwable_kept : (c : ClassId) → is_throwable P c ≡ true → is_throwable W c ≡ true
  throwable_kept c e = any_kept (is_named P (codes "java/lang/Throwable")) (is_named W (codes "java/lang/Throwable")) (λ d. named_kept P W fiber_parts grown (codes "java/lang/Throwable") d refl) (line_of W c)
      (line_kept P W fiber_parts grown (is_named P (codes "java/lang/Throwable")) c e)

  -- ---- one method

  module _ (typed : IsWellTyped P) (pauses : KeepsPauses P) (id : MethodId) (m : Method) (at : method_at P id ≡ Some m) (code : has_code m ≡ true) where
    old : WellTyped P m
    old = typed.methods id m at code

    no_table : m.pausable ≡ true → is_empty m.handlers ≡ true
    no_table is = none_pauses_with_table P keeps id m at is

    as_it_was : m.pausable ≡ false → WellTyped W m
    as_it_was is = record {
      arguments = old.arguments;
      frames = old.frames;
      walk = unchanged P W m (assigns P W fiber_parts grown) (above id m at) (programs id m m at refl) m.code (Some (entry m)) (pauses.plain id m at is) old.walk;
      handled = handles_kept P W m (assigns P W fiber_parts grown) (above id m at) (programs id m m at refl) throwable_kept m.code (Some (entry m)) (pauses.plain id m at is) old.walk old.handled;
    }

    -- without pausable calls

    abbrev wider : ℕ
    wider = larger m.max_locals (suc (argument_slots m))

    abbrev handed : Method
    handed = record (only_with_fiber P m) { max_locals = wider }

    no_mark : (b : Bool) → is_constructor m ≡ false → (not b && is_constructor m) ≡ false
    no_mark b e = and_right (not b) (is_constructor m) e

    only_handed : m.pausable ≡ true → has_calls P m ≡ false → WellTyped W handed
    only_handed is none =
        let plain_name = constructors id m at is in
        let l = is_larger m.max_locals (suc (argument_slots m)) in
        let most = l.0 in
        let shared : Shared P W m handed (λ q. q) = record {
          assigns = assigns P W fiber_parts grown;
          above = above id m at;
          owner = refl;
          result = refl;
          plain = plain_name;
          plain_too = plain_name;
          stack = omega arith;
          locals = most;
          differ = λ a b e. e;
          made = λ q c e. e;
        } in
        let set : (q : ℕ) (d : Types) → declared m q ≡ Some d → d.unset ≡ false = λ q d e. frame_set m plain_name m.frames q d old.frames e in
        let fl = (entry m).locals in
        let cl = (entry handed).locals in
        let longer : cl ≡ fl ++ param_slots (fiber_ty P ∷ []) =
        ap (λ (s : List VType). this_types m ++ s) (params_more m.params (fiber_ty P ∷ [])) ∙ sym (append_assoc (this_types m) (param_slots m.params) (param_slots (fiber_ty P ∷ []))) in
        record {
          arguments = fits_in plain_name;
          frames = all_kept (frame_fits m) (frame_fits handed) frame_stays m.frames old.frames;
          walk = callless P W m handed shared (programs id m handed at refl) refl itself_too set m.code (Some (entry m)) (Some (entry handed)) (calls_none P m.code none) old.walk (
            fl,
            [],
            cl,
            ap (λ (u : Bool). let z : Types = record { locals = fl; stack = []; unset = u } in z) (no_mark m.is_static plain_name),
            ap (λ (u : Bool). let z : Types = record { locals = cl; stack = []; unset = u } in Some z) (no_mark m.is_static plain_name),
            λ j t. ap (λ (ls : List VType). peek ls j) longer ∙ peek_front fl (param_slots (fiber_ty P ∷ [])) j (peek_end fl j t),
          );
          handled = none_handles W handed (no_table is) (Some (entry handed)) m.code;
        }
      where
        fits_in : is_constructor m ≡ false → nat_le (argument_slots handed) handed.max_locals ≡ true
        fits_in e =
            let c = sum_by-append type_slots m.params (fiber_ty P ∷ []) in
            let d : sum_by type_slots (fiber_ty P ∷ []) ≡ 1 = refl in
            let l = (is_larger m.max_locals (suc (argument_slots m))).1 in
            le-leb (argument_slots handed) wider (omega (arith, c, d, l))

        frame_stays : (e : ℕ × Frame) → frame_fits m e ≡ true → frame_fits handed e ≡ true
        frame_stays e h =
            let p1 = and_parts _ _ h in
            let p2 = and_parts (nat_le (length e.1.locals) m.max_locals) _ p1.1 in
            let less = leb-true (length e.1.locals) m.max_locals p2.0 in
            let most = (is_larger m.max_locals (suc (argument_slots m))).0 in
            and_from _ _ p1.0 (and_from (nat_le (length e.1.locals) wider) _ (le-leb (length e.1.locals) wider (omega (arith, less, most))) p2.1)

    -- with pausable calls

    unset_none : (live : ℕ → ℕ → Bool) (new block : ℕ → ℕ) (es : List (ℕ × Instr)) → NoneAcross P (typing_of P m) es → AllNoneUnset (plan_of P m live new block) es
    unset_none live new block [] h = tt
    unset_none live new block (e ∷ es) h = (λ callee n. let s = h.0 callee n in record { stack = s.0; locals = s.1 }, unset_none live new block es h.1)

    -- what the law of one method asks
    pub weaving_of : (v : Method) (marks : List Bool) → m.pausable ≡ true → (w : woven_as true true P m v marks) → Weaving (plan_of P m w.0 w.1 w.2) W v
    weaving_of v marks is w =
        let x = plan_of P m w.0 w.1 w.2 in
        let by = w.4 in
        let e = by.method in
        let plain_name = constructors id m at is in
        let owner = ap (λ (z : Method). z.owner) e in
        let name = ap (λ (z : Method). z.name) e in
        let parts : WovenMethod x v = record {
          labels = by.labels;
          code = ap (λ (z : Method). z.code) e;
          code_length = ap (λ (z : Method). z.code_length) e;
          frames = ap (λ (z : Method). z.frames) e;
          max_stack = ap (λ (z : Method). z.max_stack) e;
          max_locals = ap (λ (z : Method). z.max_locals) e;
          name = name;
          owner = owner;
          params = ap (λ (z : Method). z.params) e;
          result = ap (λ (z : Method). z.result) e;
          is_static = ap (λ (z : Method). z.is_static) e;
          handlers = ap (λ (z : Method). is_empty z.handlers) e ∙ no_table is;
          had_none = no_table is;
        } in
        record {
          typed = by_place P m (whole_code m (code_at id m at)).grows old;
          live = w.3;
          initialized = unset_none w.0 w.1 w.2 m.code (pauses.across id m at);
          plain = plain_name;
          plain_too = ap (λ (n : List ℕ). bytes_eq n (codes "<init>")) name ∙ plain_name;
          code = code_at id m at;
          casts = all_checked m.code 0 m.code_length (code_at id m at);
          itself = itself_too;
          assigns = assigns P W fiber_parts grown;
          above = above id m at;
          programs = programs id m v at owner;
          members = members;
          woven = parts;
          differ = by.differ;
        }

    with_calls : (v : Method) (marks : List Bool) → m.pausable ≡ true → (w : woven_as true true P m v marks) → WellTyped W v × (v.code_length ≤ weight P m)
    with_calls v marks is w = proved (plan_of P m w.0 w.1 w.2) W v (weaving_of v marks is w)

  -- ---- all of them

  module _ (typed : IsWellTyped P) (pauses : KeepsPauses P) where
    woven_code : (a b : Method) (marks : List Bool) (z calls : Bool) → woven_as z calls P a b marks → has_code b ≡ true → has_calls P a ≡ calls → has_code a ≡ true
    woven_code a b marks false calls w h e = ap has_code (sym w.0) ∙ h
    woven_code a b marks true false w h e = sym (ap has_code w.0) ∙ h
    woven_code a b marks true true w h e = some a.code e
      where
        some : (es : List (ℕ × Instr)) → nat_lt 0 (calls_in P es) ≡ true → not (Rattle.kilim_program.specs.Names.is_empty es) ≡ true
        some [] e = absurd (cc)
        some (x ∷ es) e = refl

    by_case : (id : MethodId) (a b : Method) (marks : List Bool) (z calls : Bool) → method_at P id ≡ Some a → a.pausable ≡ z → has_calls P a ≡ calls → woven_as z calls P a b marks → has_code b ≡ true → WellTyped W b
    by_case id a b marks false calls at is c w h =
        subst (λ (m : Method). WellTyped W m) (sym w.0) (as_it_was typed pauses id a at (woven_code a b marks false calls w h c) is)
    by_case id a b marks true false at is c w h =
        let code = woven_code a b marks true false w h c in
        let wide : only_with_fiber P a ≡ handed typed pauses id a at code = ap (λ (n : Bool). let m : Method = record (only_with_fiber P a) { max_locals = cond n (larger a.max_locals (suc (argument_slots a))) a.max_locals } in m) code in
        subst (λ (m : Method). WellTyped W m) (sym (w.0 ∙ wide)) (only_handed typed pauses id a at code is c)
    by_case id a b marks true true at is c w h = (with_calls typed pauses id a at (woven_code a b marks true true w h c) b marks is w).0

    short_case : (id : MethodId) (a b : Method) (marks : List Bool) (z calls : Bool) → method_at P id ≡ Some a → a.pausable ≡ z → has_calls P a ≡ calls → woven_as z calls P a b marks → b.code_length ≤ weight P a
    short_case id a b marks false calls at is c w = subst (λ (n : ℕ). n ≤ weight P a) (ap (λ (m : Method). m.code_length) (sym w.0)) (le-add_right a.code_length _)
    short_case id a b marks true false at is c w = subst (λ (n : ℕ). n ≤ weight P a) (ap (λ (m : Method). m.code_length) (sym w.0)) (le-add_right a.code_length _)
    short_case id a b marks true true at is c w = (with_calls typed pauses id a at (has_some a.code c) b marks is w).1
      where
        has_some : (es : List (ℕ × Instr)) → nat_lt 0 (calls_in P es) ≡ true → not (Rattle.kilim_program.specs.Names.is_empty es) ≡ true
        has_some [] e = absurd (cc)
        has_some (x ∷ es) e = refl

    pub each : (id : MethodId) (v : Method) → method_at W id ≡ Some v → has_code v ≡ true → WellTyped W v
    each id v at code = elim (cases_lt id.0 (length P.methods)) [ inl less ↦ inside less | inr past ↦ absurd (outside past) ]
      where
        inside : id.0 < length P.methods → WellTyped W v
        inside less =
            let a = get_some P.methods id.0 less in
            let f = found id a.0 a.1 in
            let is : f.woven ≡ v = same_Some f.woven v (sym f.there ∙ at) in
            let h : has_code f.woven ≡ true = ap has_code is ∙ code in
            subst (λ (m : Method). WellTyped W m) is (by_case id a.0 f.woven f.counted a.0.pausable (has_calls P a.0) a.1 refl refl f.is h)

        outside : length P.methods ≤ id.0 → ⊥
        outside past =
            let r = members_behind P P.methods W.methods counted form.methods in
            let k = id.0 - length P.methods in
            let n = r.2 in
            let there : slice_get (fiber_methods Woven (first_class P)) k ≡ Some v =
            sym (get_right r.0 (fiber_methods Woven (first_class P)) id.0 k (omega (arith, n, past))) ∙ (sym (ap (λ (ms : List Method). slice_get ms id.0) r.1) ∙ at) in
            let none = not-true (has_code v) (all_at (λ m. not (has_code m)) (fiber_methods Woven (first_class P)) k v (no_code (first_class P)) there) in
            let x : true ≡ false = sym code ∙ none in
            cc

    pub each_is_short : EachIsShort P W
    each_is_short id m v at there =
        let f = found id m at in
        let is : f.woven ≡ v = same_Some f.woven v (sym f.there ∙ there) in
        subst (λ (z : Method). z.code_length ≤ weight P m) is (short_case id m f.woven f.counted m.pausable (has_calls P m) at refl refl f.is)

pub woven_programs : WovenProgramsAreTyped
woven_programs p w counted keeps plainly typed pauses form =
    (record { methods = each p w counted keeps plainly form typed pauses }, each_is_short p w counted keeps plainly form typed pauses)
