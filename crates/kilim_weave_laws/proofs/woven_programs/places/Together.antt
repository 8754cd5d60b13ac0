-- All of it.
use Rattle.std.proofs.Common.{◌≡◌, ℕ, suc, ◌+◌, ◌-◌, Bool, true, false, not, List, [], ◌∷◌, ◌++◌, length, map, Option, Some, None, refl, sym, ap, subst, ◌∙◌, arith, length-append, ltb-true}
use Rattle.std.specs.Prelude.{◌&&◌, nat_lt, slice_get, option_to_list}
use Rattle.std.specs.List.{list_all, flat_map}
use Rattle.std.proofs.lemmas.Bool.{and_parts, and_from, lt-ltb}
use Rattle.kilim_program.specs.declared.class.Class.{Class}
use Rattle.kilim_program.specs.declared.class.Field.{Field}
use Rattle.kilim_program.specs.declared.class.Form.TheVariants.{Plain, Woven}
use Rattle.kilim_program.specs.declared.class.Method.{Method}
use Rattle.kilim_program.specs.declared.instr.Instr.{Instr}
use Rattle.kilim_program.specs.declared.instr.Instr.TheVariants.{Getstatic, Getfield, Putfield, Invokevirtual, Invokespecial, Invokestatic}
use Rattle.kilim_program.specs.declared.names.ClassId.{ClassId}
use Rattle.kilim_program.specs.declared.names.FieldId.{FieldId}
use Rattle.kilim_program.specs.declared.names.MethodId.{MethodId}
use Rattle.kilim_program.specs.declared.ty.Base.{Base}
use Rattle.kilim_program.specs.declared.ty.Base.TheVariants as base
use Rattle.kilim_program.specs.declared.ty.Ty.{Ty}
use Rattle.kilim_program.specs.declared.verified.VType.{VType}
use Rattle.kilim_program.specs.declared.verified.VType.TheVariants.{Top, Int, Long, Null, UninitThis, Uninit, Object}
use Rattle.kilim_program.specs.BuiltIn.{built_in_methods_in, class_id, fiber_methods, method_id, methods_from}
use Rattle.kilim_program.specs.Keeps.{Keeps, all_types, class_ids_there, has_base, has_class, has_field, has_method, has_superclass, has_type, ids_are_places, members_there, no_task_arrays, types_of_frame, types_of_instr, types_of_method}
use Rattle.kilim_program.specs.Kinds.{is_task_array}
use Rattle.kilim_program.specs.Names.{is_empty, method_at}
use Rattle.kilim_program.specs.Program.{Program}
use Rattle.kilim_type_spec.specs.Step.{class_vtype, peek}
use Rattle.kilim_type_spec.specs.Typed.{IsWellTyped}
use Rattle.kilim_weave_spec.specs.Form.{AllWoven, WovenForm, first_class, first_method, has_calls, plan_of, woven_as}
use Rattle.kilim_weave_spec.specs.Weight.{calls_in}
use Rattle.kilim_weave_spec.specs.Woven.{Plan, fiber, fiber_ty, lay, lay_frames, member, woven_items}
use Rattle.kilim_weave_laws.specs.woven_programs.types.Law.{StandAt, may_stand, stands}
use Rattle.kilim_weave_laws.proofs.woven_programs.types.Together.{all_there}
use Rattle.kilim_weave_laws.proofs.woven_programs.ClassLists.{one_more}
use Rattle.kilim_weave_laws.proofs.woven_programs.Methods.{members_behind}
use Rattle.kilim_weave_laws.proofs.woven_programs.Naming.{all_parts}
use Rattle.kilim_weave_laws.proofs.woven_programs.Theorem.{fiber_parts, first_is, grown, how_many}
use Rattle.kilim_weave_laws.proofs.woven_programs.classes.BuiltIns.{first_methods}
use Rattle.kilim_weave_laws.proofs.woven_programs.classes.Listing.{all_joined, all_kept}
use Rattle.kilim_weave_laws.proofs.woven_programs.kinds.Lines.{task_base_same}
use Rattle.kilim_weave_laws.specs.woven_programs.places.Law.{WovenPlacesKeep}
use Rattle.kilim_weave_laws.proofs.woven_programs.places.Items.{AllReady, S, items_here, laid, laid_frames, names}

both : {A : Type 0} (f g : A → Bool) (xs : List A) → list_all f xs ≡ true → list_all g xs ≡ true → list_all (λ x. f x && g x) xs ≡ true
both f g [] a b = refl
both f g (x ∷ xs) a b =
    let p = and_parts (f x) _ a in
    let q = and_parts (g x) _ b in
    and_from (f x && g x) _ (and_from (f x) (g x) p.0 q.0) (both f g xs p.1 q.1)

flat_all : {A B : Type 0} (test : B → Bool) (f : A → List B) (xs : List A) → list_all (λ x. list_all test (f x)) xs ≡ true → list_all test (flat_map f xs) ≡ true
flat_all test f [] h = refl
flat_all test f (x ∷ xs) h = let p = and_parts (list_all test (f x)) _ h in all_joined test (f x) (flat_map f xs) p.0 (flat_all test f xs p.1)

module _ (P W : Program) (counted : List (List Bool)) (keeps : Keeps P) (plainly : P.form ≡ Plain) (typed : IsWellTyped P) (form : WovenForm P W counted) where
  abbrev new : Class
  new = fiber_parts P W counted keeps plainly form

  abbrev more : W.classes ≡ P.classes ++ new ∷ []
  more = grown P W counted keeps plainly form

  abbrev T : Ty → Bool
  T = may_stand W

  first_less : first_class P + 18 ≡ length P.classes
  first_less = let e = first_is P W counted keeps plainly form in let n = how_many P W counted keeps plainly form in omega (arith, e, n)

  many_methods : length P.methods ≡ first_method P + 43
  many_methods =
      let e = first_methods P W counted keeps plainly form in
      let f : first_method P ≡ length P.methods - 43 = refl in
      let h = ap length keeps.built_in.methods ∙ (length-append keeps.built_in.own_methods _ ∙ ap (λ f. length keeps.built_in.own_methods + length (built_in_methods_in f (length keeps.built_in.own_classes))) plainly) in
      omega (arith, e, f, h)

  all_methods : length W.methods ≡ length P.methods + 11
  all_methods =
      let r = members_behind P P.methods W.methods counted form.methods in
      let n = ap length r.1 ∙ length-append r.0 (fiber_methods Woven (first_class P)) in
      let k = r.2 in
      omega (arith, n, k)

  -- ---- ids of the plain program are ids of the woven one

  class_more : (c : ClassId) → has_class P c ≡ true → has_class W c ≡ true
  class_more c h = let l = ltb-true c.0 (length P.classes) h in let n = one_more P W new more in lt-ltb c.0 (length W.classes) (omega (arith, l, n))

  method_more : (m : MethodId) → has_method P m ≡ true → has_method W m ≡ true
  method_more m h = let l = ltb-true m.0 (length P.methods) h in let n = all_methods in lt-ltb m.0 (length W.methods) (omega (arith, l, n))

  field_more : (f : FieldId) → has_field P f ≡ true → has_field W f ≡ true
  field_more f h = ap (λ (fs : List Field). nat_lt f.0 (length fs)) form.fields ∙ h

  members_more : (i : Instr) → members_there P i ≡ true → members_there W i ≡ true
  members_more (Getstatic f) h = field_more f h
  members_more (Getfield f) h = field_more f h
  members_more (Putfield f) h = field_more f h
  members_more (Invokevirtual m) h = method_more m h
  members_more (Invokespecial m) h = method_more m h
  members_more (Invokestatic m) h = method_more m h
  members_more i h = refl

  base_more : (b : Base) → has_base P b ≡ true → has_base W b ≡ true
  base_more (base.Class c) h = class_more c h
  base_more b h = refl

  stand_more : (ty : Ty) → may_stand P ty ≡ true → T ty ≡ true
  stand_more ty h =
      let p = and_parts (has_type P ty) _ h in
      and_from (has_type W ty) _ (base_more ty.base p.0) (ap (λ (b : Bool). not (nat_lt 0 ty.dims && b)) (task_base_same P W keeps new more ty.base p.0) ∙ p.1)

  types_more : (tys : List Ty) → list_all (may_stand P) tys ≡ true → list_all T tys ≡ true
  types_more tys h = all_kept (may_stand P) T stand_more tys h

  -- ---- the plain program

  parts_of : (list_all (class_ids_there P) P.classes ≡ true) × (list_all (λ f. has_class P f.owner) P.fields ≡ true) × (list_all (λ m. has_class P m.owner && list_all (λ e. members_there P e.1) m.code) P.methods ≡ true) × (list_all (may_stand P) (all_types P) ≡ true)
  unfolding ids_are_places no_task_arrays
  parts_of =
      let a = and_parts (list_all (class_ids_there P) P.classes) _ keeps.ids in
      let b = and_parts (list_all (λ f. has_class P f.owner) P.fields) _ a.1 in
      let c = and_parts _ (list_all (has_type P) (all_types P)) b.1 in
      (a.0, b.0, c.0, both (has_type P) (λ ty. not (is_task_array P ty)) (all_types P) c.1 keeps.task_arrays)

  -- ---- the methods

  abbrev ids_of : Method → Bool
  ids_of m = has_class W m.owner && list_all (λ e. members_there W e.1) m.code

  abbrev types_in : Method → Bool
  types_in m = list_all T (types_of_method m)

  abbrev old_ids : Method → Bool
  old_ids m = has_class P m.owner && list_all (λ e. members_there P e.1) m.code

  fiber_named : T (fiber_ty P) ≡ true
  fiber_named = let n = one_more P W new more in and_from (has_class W (class_id (length P.classes))) _ (lt-ltb (length P.classes) (length W.classes) (omega (arith, n))) refl

  old_kept : (m : Method) → old_ids m ≡ true → ids_of m ≡ true
  old_kept m h =
      let p = and_parts (has_class P m.owner) _ h in
      and_from (has_class W m.owner) _ (class_more m.owner p.0) (all_kept (λ (e : ℕ × Instr). members_there P e.1) (λ e. members_there W e.1) (λ e k. members_more e.1 k) m.code p.1)

  calls : (n : ℕ) → nat_lt n 11 ≡ true → has_method W (member P n) ≡ true
  calls n h = let l = ltb-true n 11 h in let a = all_methods in lt-ltb (length P.methods + n) (length W.methods) (omega (arith, l, a))

  stands_more : (v : VType) → stands P v ≡ true → S W T v ≡ true
  stands_more (Object ty) h = stand_more ty h
  stands_more Top h = refl
  stands_more Int h = refl
  stands_more Long h = refl
  stands_more Null h = refl
  stands_more UninitThis h = refl
  stands_more (Uninit q) h = refl

  own_named : (m : Method) → has_class P m.owner ≡ true → S W T (class_vtype m.owner) ≡ true
  own_named m h = and_from (has_class W m.owner) true (class_more m.owner h) refl

  module _ (x : Plan) (of_it : x.program ≡ P) (own : S W T (class_vtype x.method.owner) ≡ true) where
    members_of : (n : ℕ) → nat_lt n 11 ≡ true → has_method W (member x.program n) ≡ true
    members_of n h = subst (λ (q : Program). has_method W (member q n) ≡ true) (sym of_it) (calls n h)

    fiber_of : S W T (fiber x.program) ≡ true
    fiber_of = subst (λ (q : Program). S W T (fiber q) ≡ true) (sym of_it) fiber_named

    ready : (es : List (ℕ × Instr)) → list_all (λ e. members_there P e.1) es ≡ true → list_all (may_stand P) (flat_map (λ e. types_of_instr e.1) es) ≡ true → StandAt P x.typing es → AllReady W T x members_of fiber_of own es
    ready [] m t s = tt
    ready (e ∷ es) m t s =
        let p = and_parts (members_there P e.1) _ m in
        let q = all_parts (may_stand P) (types_of_instr e.1) _ t in (
          record {
            instr = and_from (list_all T (types_of_instr e.1)) _ (types_more (types_of_instr e.1) q.0) (members_more e.1 p.0);
            stack = all_kept (stands P) (S W T) stands_more (x.typing e.0).stack s.0.stack;
            locals = λ k. stands_more (peek (x.typing e.0).locals k) (s.0.locals k);
          },
          ready es p.1 q.1 s.1,
        )

  names_split : (es : List (ℕ × Instr)) → list_all (λ e. names W T e.1) es ≡ true → (list_all T (flat_map (λ e. types_of_instr e.1) es) ≡ true) × (list_all (λ e. members_there W e.1) es ≡ true)
  names_split [] h = (refl, refl)
  names_split (e ∷ es) h =
      let p = and_parts (names W T e.1) _ h in
      let q = and_parts (list_all T (types_of_instr e.1)) _ p.0 in
      let r = names_split es p.1 in
      (all_joined T (types_of_instr e.1) _ q.0 r.0, and_from (members_there W e.1) _ q.1 r.1)

  has_some : (es : List (ℕ × Instr)) → nat_lt 0 (calls_in P es) ≡ true → not (is_empty es) ≡ true
  has_some [] e = absurd (cc)
  has_some (x ∷ es) e = refl

  one_by : (id : MethodId) (a b : Method) (marks : List Bool) (z c : Bool) → method_at P id ≡ Some a → has_calls P a ≡ c → woven_as z c P a b marks → old_ids a ≡ true → list_all (may_stand P) (types_of_method a) ≡ true → (ids_of b ≡ true) × (types_in b ≡ true)
  one_by id a b marks false c at is w i t = (ap ids_of w.0 ∙ old_kept a i, ap types_in w.0 ∙ types_more (types_of_method a) t)
  one_by id a b marks true false at is w i t =
      let p = all_parts (may_stand P) a.params _ t in (
        ap ids_of w.0 ∙ old_kept a i,
        ap types_in w.0 ∙ all_joined T (a.params ++ fiber_ty P ∷ []) _ (all_joined T a.params (fiber_ty P ∷ []) (types_more a.params p.0) (and_from (T (fiber_ty P)) true fiber_named refl)) (types_more (option_to_list a.result ++ (flat_map (λ e. types_of_instr e.1) a.code ++ flat_map (λ e. types_of_frame e.1) a.frames)) p.1),
      )
  one_by id a b marks true true at is w i t =
      let x = plan_of P a w.0 w.1 w.2 in
      let p = all_parts (may_stand P) a.params _ t in
      let q = all_parts (may_stand P) (option_to_list a.result) _ p.1 in
      let r = all_parts (may_stand P) (flat_map (λ e. types_of_instr e.1) a.code) _ q.1 in
      let k = and_parts (has_class P a.owner) _ i in
      let own = own_named a k.0 in
      let stand = all_there P keeps typed id a at (has_some a.code is) in
      let here = items_here W T x (members_of x refl own) (fiber_of x refl own) own (ready x refl own a.code k.1 r.0 stand) in
      let code = names_split (lay 0 (woven_items x)) (laid W T (woven_items x) 0 here) in
      let frames = laid_frames W T (woven_items x) 0 here in (
        ap ids_of w.4.method ∙ and_from (has_class W a.owner) _ (class_more a.owner k.0) code.1,
        ap types_in w.4.method
            ∙ all_joined T (a.params ++ fiber_ty P ∷ []) _ (all_joined T a.params (fiber_ty P ∷ []) (types_more a.params p.0) (and_from (T (fiber_ty P)) true fiber_named refl))
            (all_joined T (option_to_list a.result) _ (types_more (option_to_list a.result) q.0) (all_joined T (flat_map (λ e. types_of_instr e.1) (lay 0 (woven_items x))) (flat_map (λ e. types_of_frame e.1) (lay_frames 0 (woven_items x))) code.0 frames)),
      )

  -- the fiber's
  object_less : nat_lt (first_class P) (length W.classes) ≡ true
  object_less = let n = one_more P W new more in let f = first_less in lt-ltb (first_class P) (length W.classes) (omega (arith, n, f))

  fiber_less : nat_lt (first_class P + 18) (length W.classes) ≡ true
  fiber_less = let n = one_more P W new more in let f = first_less in lt-ltb (first_class P + 18) (length W.classes) (omega (arith, n, f))

  fiber_ids : list_all ids_of (fiber_methods Woven (first_class P)) ≡ true
  fiber_ids = let h = fiber_less in rw h refl

  fiber_types : list_all types_in (fiber_methods Woven (first_class P)) ≡ true
  fiber_types = let h = fiber_less in let o = object_less in rw (h, o) refl

  all_of : (ms ws : List Method) (cs : List (List Bool)) (before : ℕ) → AllWoven P ms ws cs → ((k : ℕ) (m : Method) → slice_get ms k ≡ Some m → method_at P (method_id (before + k)) ≡ Some m) →
      list_all old_ids ms ≡ true → list_all (λ m. list_all (may_stand P) (types_of_method m)) ms ≡ true → (list_all ids_of ws ≡ true) × (list_all types_in ws ≡ true)
  all_of [] ws cs before a there i t = (ap (list_all ids_of) a.0 ∙ fiber_ids, ap (list_all types_in) a.0 ∙ fiber_types)
  all_of (m ∷ ms) [] cs before a there i t = absurd a
  all_of (m ∷ ms) (w ∷ ws) [] before a there i t = absurd a
  all_of (m ∷ ms) (w ∷ ws) (c ∷ cs) before a there i t =
      let p = and_parts (old_ids m) _ i in
      let q = and_parts (list_all (may_stand P) (types_of_method m)) _ t in
      let one = one_by (method_id (before + 0)) m w c m.pausable (has_calls P m) (there 0 m refl) refl a.0 p.0 q.0 in
      let rest = all_of ms ws cs (suc before) a.1 (λ k n e. let number : suc before + k ≡ before + suc k = omega arith in ap (λ (j : ℕ). method_at P (method_id j)) number ∙ there (suc k) n e) p.1 q.1 in
      (and_from (ids_of w) _ one.0 rest.0, and_from (types_in w) _ one.1 rest.1)

  begins : (k : ℕ) (m : Method) → slice_get P.methods k ≡ Some m → method_at P (method_id (0 + k)) ≡ Some m
  begins k m e = let number : 0 + k ≡ k = omega arith in ap (λ (j : ℕ). slice_get P.methods j) number ∙ e

  each_types : (ms : List Method) → list_all (may_stand P) (flat_map types_of_method ms) ≡ true → list_all (λ m. list_all (may_stand P) (types_of_method m)) ms ≡ true
  each_types [] h = refl
  each_types (m ∷ ms) h = let p = all_parts (may_stand P) (types_of_method m) _ h in and_from (list_all (may_stand P) (types_of_method m)) _ p.0 (each_types ms p.1)

  all_split : (list_all (may_stand P) (map (λ f. f.ty) P.fields) ≡ true) × (list_all (may_stand P) (flat_map types_of_method P.methods) ≡ true)
  all_split = all_parts (may_stand P) (map (λ f. f.ty) P.fields) (flat_map types_of_method P.methods) parts_of.3

  methods_are : (list_all ids_of W.methods ≡ true) × (list_all types_in W.methods ≡ true)
  methods_are = all_of P.methods W.methods counted 0 form.methods begins parts_of.2 (each_types P.methods all_split.1)

  -- ---- the classes

  superclass_more : (o : Option ClassId) → has_superclass P o ≡ true → has_superclass W o ≡ true
  superclass_more None h = refl
  superclass_more (Some c) h = class_more c h

  ids_more : (c : Class) → class_ids_there P c ≡ true → class_ids_there W c ≡ true
  ids_more c h =
      let p = and_parts (has_superclass P c.superclass) _ h in
      let q = and_parts (list_all (has_field P) c.fields) _ p.1 in
      and_from (has_superclass W c.superclass) _ (superclass_more c.superclass p.0)
      (and_from (list_all (has_field W) c.fields) _ (all_kept (has_field P) (has_field W) field_more c.fields q.0) (all_kept (has_method P) (has_method W) method_more c.methods q.1))

  members_from : (ks : List ℕ) → list_all (λ k. nat_lt k 54) ks ≡ true → list_all (has_method W) (methods_from (first_method P) ks) ≡ true
  members_from [] h = refl
  members_from (k ∷ ks) h =
      let p = and_parts (nat_lt k 54) _ h in
      let l = ltb-true k 54 p.0 in
      let a = all_methods in
      let n = many_methods in
      and_from (has_method W (method_id (first_method P + k))) _ (lt-ltb (first_method P + k) (length W.methods) (omega (arith, l, a, n))) (members_from ks p.1)

  classes_are : list_all (class_ids_there W) W.classes ≡ true
  classes_are =
      ap (list_all (class_ids_there W)) more
      ∙ all_joined (class_ids_there W) P.classes (new ∷ []) (all_kept (class_ids_there P) (class_ids_there W) ids_more P.classes parts_of.0)
      (and_from (class_ids_there W new) true
      (and_from (nat_lt (first_class P) (length W.classes)) _ object_less (members_from (43 ∷ 44 ∷ 45 ∷ 46 ∷ 47 ∷ 48 ∷ 49 ∷ 50 ∷ 51 ∷ 52 ∷ 53 ∷ []) refl)) refl)

  fields_are : list_all (λ f. has_class W f.owner) W.fields ≡ true
  fields_are = ap (list_all (λ (f : Field). has_class W f.owner)) form.fields ∙ all_kept (λ (f : Field). has_class P f.owner) (λ f. has_class W f.owner) (λ f h. class_more f.owner h) P.fields parts_of.1

  types_are : list_all T (all_types W) ≡ true
  types_are =
      all_joined T (map (λ f. f.ty) W.fields) (flat_map types_of_method W.methods)
      (ap (λ (fs : List Field). list_all T (map (λ f. f.ty) fs)) form.fields ∙ types_more (map (λ f. f.ty) P.fields) all_split.0)
      (flat_all T types_of_method W.methods methods_are.1)

  pub ids : ids_are_places W ≡ true
  unfolding ids_are_places
  ids =
      and_from (list_all (class_ids_there W) W.classes) _ classes_are
      (and_from (list_all (λ f. has_class W f.owner) W.fields) _ fields_are
      (and_from (list_all ids_of W.methods) _ methods_are.0
      (all_kept T (has_type W) (λ ty h. (and_parts (has_type W ty) _ h).0) (all_types W) types_are)))

  pub task_arrays : no_task_arrays W ≡ true
  unfolding no_task_arrays
  task_arrays = all_kept T (λ ty. not (is_task_array W ty)) (λ ty h. (and_parts (has_type W ty) _ h).1) (all_types W) types_are

pub woven_places : WovenPlacesKeep
woven_places p w counted keeps plainly typed form = record {
  ids = ids p w counted keeps plainly typed form;
  task_arrays = task_arrays p w counted keeps plainly typed form;
}
