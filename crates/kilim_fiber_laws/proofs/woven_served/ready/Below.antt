-- A frame that stands behind its call: the call can be made again.
use Rattle.std.proofs.Common.{◌≡◌, cond, eqb, ℕ, ◌≤◌, Bool, true, false, List, [], ◌∷◌, ◌++◌, drop, length, Option, Some, None, refl, sym, ap, subst, ◌∙◌}
use Rattle.std.specs.Prelude.{codes, is_some, map, not, reverse, slice_get}
use Rattle.std.specs.List.{list_any}
use Rattle.std.specs.FinMap.{get}
use Rattle.std.proofs.lemmas.Option.{none-some}
use Rattle.std.proofs.lemmas.Bool.{and_from, and_parts, eqb-true, false≢true}
use Rattle.kilim_program.specs.declared.class.Method.{Method}
use Rattle.kilim_program.specs.declared.instr.Instr.{Instr}
use Rattle.kilim_program.specs.declared.instr.Instr.TheVariants as instr
use Rattle.kilim_program.specs.declared.names.MethodId.{MethodId}
use Rattle.kilim_program.specs.declared.ty.Ty.{Ty}
use Rattle.kilim_program.specs.declared.value.Value.{Value}
use Rattle.kilim_program.specs.declared.value.Value.TheVariants as value
use Rattle.kilim_program.specs.declared.verified.VType.{VType}
use Rattle.kilim_program.specs.declared.verified.VType.TheVariants.{UninitThis}
use Rattle.kilim_program.specs.BuiltIn.{class_type}
use Rattle.kilim_program.specs.Fits.{fits_type}
use Rattle.kilim_program.specs.Lengths.{fetched, first_place}
use Rattle.kilim_program.specs.Names.{is_empty, method_at}
use Rattle.kilim_program.specs.Program.{Program}
use Rattle.kilim_program.specs.Same.{is_constructor}
use Rattle.kilim_isolation_laws.proofs.typed_threads.fine.Shown.{no_fiber_class}
use Rattle.kilim_type_sound.proofs.Walk.{stands_at}
use Rattle.kilim_type_sound.specs.Fits.{AreThere, Classes, HeapFits, IsThere, has_type, have_types}
use Rattle.kilim_type_sound.specs.Sound.{argument_types}
use Rattle.kilim_isolation_pauses.specs.Pausing.{called}
use Rattle.kilim_run_state.specs.declared.value.Object.{Object as HeapObject}
use Rattle.kilim_run_machine.specs.Does.{does}
use Rattle.kilim_run_machine.specs.Effect.{Calls}
use Rattle.kilim_program.specs.Members.{named_type}
use Rattle.kilim_run_state.specs.Machine.{Objects}
use Rattle.kilim_isolation_laws.specs.Laws.{IsRunOfAccepted}
use Rattle.kilim_isolation_laws.proofs.Keeping.{is_verified}
use Rattle.kilim_run_model.specs.State.{Setting}
use Rattle.kilim_type_spec.specs.Step.{Types, assignable, class_vtype, is_unset, vtype}
use Rattle.kilim_type_spec.specs.Typed.{has_code, typing_of}
use Rattle.kilim_type_laws.specs.Laws.{typing_at, typing_in}
use Rattle.kilim_fiber_laws.proofs.receivers.called.Called.{no_pause}
use Rattle.kilim_fiber_laws.specs.receivers.called.Law.{Boundary, Entered, Target, class_named}
use Rattle.kilim_fiber_laws.proofs.courses.Takes.{takes_typed}
use Rattle.kilim_weave_spec.specs.Woven.{below, first_of, if_there, pausable_callee, receiver, saved, taken}
use Rattle.kilim_weave_laws.specs.woven_programs.Law.{KeepsPauses, NoneAcross}
use Rattle.kilim_fiber_laws.proofs.woven_served.ready.Clean.{below_dummies, dummies_clean, heap_old, no_fiber, stack_clean}
use Rattle.kilim_fiber_laws.proofs.woven_served.ready.Dummies.{dummies_reversed, dummies_typed}
use Rattle.kilim_fiber_laws.proofs.woven_served.ready.Places.{one_call}
use Rattle.kilim_fiber_laws.proofs.woven_served.ready.Receiver.{receiver_meets}
use Rattle.kilim_fiber_laws.proofs.woven_served.ready.Redone.{redone}
use Rattle.kilim_fiber_laws.proofs.woven_served.ready.Values.{all_fit, ref_fits, slots_fit}
use Rattle.kilim_fiber_laws.specs.woven_served.ready.Law.{dummies_down, new_args}
use Rattle.kilim_fiber_spec.specs.alike.Shares.{Agree}
use Rattle.kilim_fiber_spec.specs.Links.{AllFit, Fit, Forms, Inner, Lk, ReceiverFits, SlotsFit, Takes, again, code, dummy_value, plan_of, with_dummies, with_receiver}
use Rattle.kilim_fiber_spec.specs.Rows.{Clean, Receives, below_arguments, class_if, value_class}
use Rattle.kilim_fiber_spec.specs.Thread.{code_in, fetch, own_in, own_of, self_in, self_of}
use Rattle.kilim_fiber_spec.specs.Thread as thread
use Rattle.kilim_fiber_laws.proofs.woven_served.ready.Again.{again_low}
use Rattle.kilim_fiber_laws.proofs.courses.Roomy.{typing_low}
use Rattle.kilim_run_interp.specs.Step.{stack_limit}
use Rattle.kilim_fiber_laws.specs.stands.Law.{IsFormOf}

method_is : (x y : Method) → Some x ≡ Some y → x ≡ y
method_is x y e = cc

type_is : (x y : Ty) → Some x ≡ Some y → x ≡ y
type_is x y e = cc

values_are : (x y : Value) (xs ys : List Value) → x ∷ xs ≡ y ∷ ys → x ≡ y
values_are x y xs ys e = cc

none_found : (x : Instr × ℕ) → None ≡ Some x → ⊥
none_found x e = cc

found_is : (x y : Instr × ℕ) → Some x ≡ Some y → x ≡ y
found_is x y e = cc

-- the method that a pausable call names
there_named : (o : Option Method) (named callee : Method) → o ≡ Some named → if_there o ≡ Some callee → (named ≡ callee) × (named.pausable ≡ true)
there_named o named callee e f = by named.pausable refl (sym (ap if_there e) ∙ f)
  where
    none : None ≡ Some callee → ⊥
    none e = cc

    by : (z : Bool) → named.pausable ≡ z → cond z (Some named) None ≡ Some callee → (named ≡ callee) × (named.pausable ≡ true)
    by true p g = (method_is named callee g, p)
    by false p g = absurd (none g)

pub named_is : (p : Program) (i : Instr) (named callee : Method) → called p i ≡ Some named → pausable_callee p i ≡ Some callee → (named ≡ callee) × (named.pausable ≡ true)
named_is p (instr.Invokevirtual id) named callee e f = there_named (method_at p id) named callee e f
named_is p (instr.Invokespecial id) named callee e f = there_named (method_at p id) named callee e f
named_is p (instr.Invokestatic id) named callee e f = there_named (method_at p id) named callee e f
named_is p i named callee e f = absurd (none-some named e)

named_there : (p : Program) (i : Instr) (named : Method) → called p i ≡ Some named → (id : MethodId) × (method_at p id ≡ Some named)
named_there p (instr.Invokevirtual id) named e = (id, e)
named_there p (instr.Invokespecial id) named e = (id, e)
named_there p (instr.Invokestatic id) named e = (id, e)
named_there p i named e = absurd (none-some named e)

-- nothing uninitialized stands across a pausable call
none_at : (p : Program) (typing : ℕ → Types) (es : List (ℕ × Instr)) (end q to : ℕ) (i : Instr) (callee : Method) → NoneAcross p typing es → fetched es end q ≡ Some (i, to) → pausable_callee p i ≡ Some callee →
    (list_any is_unset (drop (taken callee) (typing q).stack) ≡ false) × (list_any is_unset (typing q).locals ≡ false)
none_at p typing [] end q to i callee none f hp = absurd (none_found (i, to) f)
none_at p typing (e ∷ es) end q to i callee none f hp = by (eqb e.0 q) refl f (λ later. none_at p typing es end q to i callee none.1 later hp)
  where
    by : (z : Bool) → eqb e.0 q ≡ z → cond z (Some (e.1, first_place es end)) (fetched es end q) ≡ Some (i, to) → (fetched es end q ≡ Some (i, to) → (list_any is_unset (drop (taken callee) (typing q).stack) ≡ false) × (list_any is_unset (typing q).locals ≡ false)) →
        (list_any is_unset (drop (taken callee) (typing q).stack) ≡ false) × (list_any is_unset (typing q).locals ≡ false)
    by true d f later =
        subst (λ (n : ℕ). (list_any is_unset (drop (taken callee) (typing n).stack) ≡ false) × (list_any is_unset (typing n).locals ≡ false)) (eqb-true e.0 q d)
        (none.0 callee (ap (λ (y : Instr × ℕ). pausable_callee p y.0) (found_is (e.1, first_place es end) (i, to) f) ∙ hp))
    by false d f later = later f

pub coded_at : (m : Method) (q : ℕ) (x : Instr × ℕ) → fetched m.code m.code_length q ≡ Some x → has_code m ≡ true
coded_at m q x e = by m.code e
  where
    none : None ≡ Some x → ⊥
    none e = cc

    by : (es : List (ℕ × Instr)) → fetched es m.code_length q ≡ Some x → not (is_empty es) ≡ true
    by [] e = absurd (none e)
    by (y ∷ es) e = refl

module _ (set : Setting) (run : IsRunOfAccepted set) (pauses : KeepsPauses set.program) (W : Program) (marks : List (List Bool)) (form : Forms set W marks) (is_form : (m : MethodId) (a : Method) → method_at set.program m ≡ Some a → IsFormOf set.program W (code set W marks) m (form m) a) (agree : Agree set.program W)
    (of : Classes) (h : Objects) (heap : HeapFits set.program of h) where
  pub none_named : named_type set.program (codes "kilim/Fiber") ≡ None
  none_named = no_fiber_class set.program run.keeps run.form

  pub types_same : (m : MethodId) (own : Method) → method_at set.program m ≡ Some own → (q : ℕ) → (form m).typing q ≡ typing_at set.program m q
  types_same m own at q = ap (λ (f : ℕ → Types). f q) (is_form m own at).typing ∙ sym (ap (λ (o : Option Method). typing_in set.program o q) at)

  own_fetched : (m : MethodId) (own : Method) → method_at set.program m ≡ Some own → (q to : ℕ) (i : Instr) → fetch set.program m q ≡ Some (i, to) → fetched own.code own.code_length q ≡ Some (i, to)
  own_fetched m own at q to i f = ap (λ (o : Option Method). code_in o q) (sym at) ∙ f

  pub across : (m : MethodId) (own : Method) → method_at set.program m ≡ Some own → (q to : ℕ) (i : Instr) (callee : Method) → fetch set.program m q ≡ Some (i, to) → pausable_callee set.program i ≡ Some callee →
      (list_any is_unset (drop (taken callee) (typing_at set.program m q).stack) ≡ false) × (list_any is_unset (typing_at set.program m q).locals ≡ false)
  across m own at q to i callee f hp =
      subst (λ (g : Types). (list_any is_unset (drop (taken callee) g.stack) ≡ false) × (list_any is_unset g.locals ≡ false)) (sym (ap (λ (o : Option Method). typing_in set.program o q) at))
      (none_at set.program (typing_of set.program own) own.code own.code_length q to i callee (pauses.across m own at) (own_fetched m own at q to i f) hp)

  pub receiver_assigns : (m : MethodId) (own : Method) → method_at set.program m ≡ Some own → (q to : ℕ) (i : Instr) (named : Method) → fetch set.program m q ≡ Some (i, to) → called set.program i ≡ Some named → named.is_static ≡ false → is_constructor named ≡ false →
      assignable set.program (first_of (drop (length named.params) (typing_at set.program m q).stack)) (class_vtype named.owner) ≡ true
  receiver_assigns m own at q to i named f names instance plain =
      let own_f = own_fetched m own at q to i f in
      let s = stands_at set.program own (typing_at set.program m) ((is_verified set run.keeps run.form run.well run.accepted run.main run.begins).verified.typed m own at (coded_at own q (i, to) own_f)) q i to own_f in
      receiver_meets set.program own q named instance plain (typing_at set.program m q) s.after i names s.step

  -- ---- the arguments of the new call

  new_first : (callee : Method) (c : MethodId) (y : Value) (tys : List Ty) → method_at set.program c ≡ Some callee → callee.is_static ≡ false → Entered set.program of c y → (t : VType) × (has_type set.program callee of t y ≡ true) × (have_types set.program callee of (argument_types callee) (y ∷ map (λ (ty : Ty). dummy_value (vtype ty)) callee.params) ≡ true)
  new_first callee c y tys at instance e = by e.args refl typed_args
    where
      same : e.callee ≡ callee
      same = method_is e.callee callee (sym e.there ∙ at)

      first : VType
      first = cond (is_constructor callee) UninitThis (class_vtype callee.owner)

      types_are : argument_types callee ≡ cond (is_constructor callee) UninitThis (class_vtype callee.owner) ∷ map vtype callee.params
      types_are = ap (λ (z : Bool). (cond z [] (cond (is_constructor callee) UninitThis (class_vtype callee.owner) ∷ [])) ++ map vtype callee.params) instance

      typed_args : have_types set.program callee of (cond (is_constructor callee) UninitThis (class_vtype callee.owner) ∷ map vtype callee.params) e.args ≡ true
      typed_args = subst (λ (ts : List VType). have_types set.program callee of ts e.args ≡ true) types_are (subst (λ (k : Method). have_types set.program k of (argument_types k) e.args ≡ true) same e.takes)

      self_is : y ≡ thread.first_of e.args
      self_is = e.self ∙ (ap (λ (o : Option Method). self_in o e.args) at ∙ ap (λ (z : Bool). cond z value.Null (thread.first_of e.args)) instance)

      by : (args : List Value) → e.args ≡ args → have_types set.program callee of (cond (is_constructor callee) UninitThis (class_vtype callee.owner) ∷ map vtype callee.params) args ≡ true →
          (t : VType) × (has_type set.program callee of t y ≡ true) × (have_types set.program callee of (argument_types callee) (y ∷ map (λ (ty : Ty). dummy_value (vtype ty)) callee.params) ≡ true)
      by [] is typed = absurd (false≢true typed)
      by (v ∷ vs) is typed =
          let parts = and_parts (has_type set.program callee of (cond (is_constructor callee) UninitThis (class_vtype callee.owner)) v) (have_types set.program callee of (map vtype callee.params) vs) typed in
          let mine : has_type set.program callee of (cond (is_constructor callee) UninitThis (class_vtype callee.owner)) y ≡ true = subst (λ (z : Value). has_type set.program callee of (cond (is_constructor callee) UninitThis (class_vtype callee.owner)) z ≡ true) (sym (self_is ∙ ap thread.first_of is)) parts.0 in (
            cond (is_constructor callee) UninitThis (class_vtype callee.owner),
            mine,
            subst (λ (ts : List VType). have_types set.program callee of ts (y ∷ map (λ (ty : Ty). dummy_value (vtype ty)) callee.params) ≡ true) (sym types_are)
                (and_from (has_type set.program callee of (cond (is_constructor callee) UninitThis (class_vtype callee.owner)) y) (have_types set.program callee of (map vtype callee.params) (map (λ (ty : Ty). dummy_value (vtype ty)) callee.params)) mine (dummies_typed set.program callee of callee.params)),
          )

  module _ (c : MethodId) (y : Value) (entered : Entered set.program of c y) (m : MethodId) (to : ℕ) (l s : List Value) (b : Boundary set.program of c y m to l s) where
    -- the new arguments, by the callee's parameters
    args_are : new_args b.named y ≡ cond b.callee.is_static (map (λ (ty : Ty). dummy_value (vtype ty)) b.callee.params) (y ∷ map (λ (ty : Ty). dummy_value (vtype ty)) b.callee.params)
    args_are =
        ap (λ (z : Bool). cond z (reverse (dummies_down b.named.params)) (y ∷ reverse (dummies_down b.named.params))) (sym b.static)
        ∙ (ap (λ (vs : List Value). cond b.callee.is_static vs (y ∷ vs)) (dummies_reversed b.named.params)
        ∙ ap (λ (tys : List Ty). cond b.callee.is_static (map (λ (ty : Ty). dummy_value (vtype ty)) tys) (y ∷ map (λ (ty : Ty). dummy_value (vtype ty)) tys)) (sym b.params))

    new_typed : have_types set.program b.callee of (argument_types b.callee) (new_args b.named y) ≡ true
    new_typed = subst (λ (vs : List Value). have_types set.program b.callee of (argument_types b.callee) vs ≡ true) (sym args_are) (by b.callee.is_static refl)
      where
        by : (z : Bool) → b.callee.is_static ≡ z → have_types set.program b.callee of (argument_types b.callee) (cond z (map (λ (ty : Ty). dummy_value (vtype ty)) b.callee.params) (y ∷ map (λ (ty : Ty). dummy_value (vtype ty)) b.callee.params)) ≡ true
        by true e =
            subst (λ (z : Bool). have_types set.program b.callee of ((cond z [] (cond (is_constructor b.callee) UninitThis (class_vtype b.callee.owner) ∷ [])) ++ map vtype b.callee.params) (map (λ (ty : Ty). dummy_value (vtype ty)) b.callee.params) ≡ true) (sym e) (dummies_typed set.program b.callee of b.callee.params)
        by false e = (new_first b.callee c y b.callee.params b.entered e entered).2

    self_new : self_of set.program c (new_args b.named y) ≡ y
    self_new = ap (λ (o : Option Method). self_in o (new_args b.named y)) b.entered ∙ by b.callee.is_static refl
      where
        by : (z : Bool) → b.callee.is_static ≡ z → cond b.callee.is_static value.Null (thread.first_of (new_args b.named y)) ≡ y
        by true e = ap (λ (z : Bool). cond z value.Null (thread.first_of (new_args b.named y))) e ∙ sym (entered.self ∙ (ap (λ (o : Option Method). self_in o entered.args) b.entered ∙ ap (λ (z : Bool). cond z value.Null (thread.first_of entered.args)) e))
        by false e =
            ap (λ (z : Bool). cond z value.Null (thread.first_of (new_args b.named y))) e
            ∙ (ap thread.first_of args_are ∙ ap (λ (z : Bool). thread.first_of (cond z (map (λ (ty : Ty). dummy_value (vtype ty)) b.callee.params) (y ∷ map (λ (ty : Ty). dummy_value (vtype ty)) b.callee.params))) e)

    new_takes : Takes set W marks form c (new_args b.named y) y
    new_takes = subst (λ (z : Value). Takes set W marks form c (new_args b.named y) z) self_new (takes_typed set W marks form c b.callee b.entered of (new_args b.named y) new_typed)

    -- ---- the stack of the new call

    clean_stack : Clean (again b.named y s)
    clean_stack = dummies_clean b.named.params (with_receiver b.named.is_static y s) (by b.named.is_static refl)
      where
        s_clean : Clean s
        s_clean = stack_clean set.program none_named b.own of (drop (taken b.named) (typing_at set.program m b.from).stack) s b.stack

        by : (z : Bool) → b.named.is_static ≡ z → Clean (with_receiver z y s)
        by true e = s_clean
        by false e =
            let f = new_first b.callee c y b.callee.params b.entered (b.static ∙ e) entered in
            (λ same. no_fiber set.program none_named b.callee of f.0 (subst (λ (z : Value). has_type set.program b.callee of f.0 z ≡ true) same f.1), s_clean)

    class_same : (v : Value) (ty now : Ty) → class_named set.program of v ≡ Some ty → value_class set.program v h ≡ Some now → ty ≡ now
    class_same (value.Ref n) ty now e d = by (get h n) refl d
      where
        none : None ≡ Some now → ⊥
        none e = cc

        by : (o : Option HeapObject) → get h n ≡ o → class_if o ≡ Some now → ty ≡ now
        by None at d = absurd (none d)
        by (Some object) at d = type_is ty now (sym e ∙ (heap.classes n object at ∙ d))
    class_same (value.Text units) ty now e d = type_is ty now (sym e ∙ d)
    class_same (value.Box box) ty now e d = type_is ty now (sym e ∙ d)
    class_same (value.Int x) ty now e d = absurd (none e)
      where
        none : None ≡ Some ty → ⊥
        none e = cc
    class_same (value.Long x) ty now e d = absurd (none e)
      where
        none : None ≡ Some ty → ⊥
        none e = cc
    class_same value.Null ty now e d = absurd (none e)
      where
        none : None ≡ Some ty → ⊥
        none e = cc
    class_same value.Fiber ty now e d = absurd (none d)
      where
        none : None ≡ Some now → ⊥
        none e = cc

    receives_in : (i : Instr) → called set.program i ≡ Some b.named → Target set.program of b.own i b.named c y → Receives set.program i (again b.named y s) h
    receives_in (instr.Invokevirtual id) at t = λ a there v rest below ty class.
        let same = method_is b.named a (sym at ∙ there) in
        let stack : below_arguments (length b.named.params) (again b.named y s) ≡ y ∷ s = ap (λ (z : Bool). below_arguments (length b.named.params) (with_dummies b.named.params (with_receiver z y s))) t.0 ∙ below_dummies b.named.params (y ∷ s) in
        let first = values_are y v s rest (sym stack ∙ (ap (λ (k : Method). below_arguments (length k.params) (again b.named y s)) same ∙ below)) in
        let fits : fits_type set.program ty (class_type b.named.owner.0) ≡ true = subst (λ (z : Ty). fits_type set.program z (class_type b.named.owner.0) ≡ true) (class_same y t.2.0 ty t.2.1 (ap (λ (z : Value). value_class set.program z h) first ∙ class)) t.2.2 in
        subst (λ (k : Method). fits_type set.program ty (class_type k.owner.0) ≡ true) same fits
    receives_in (instr.Invokespecial id) at t = tt
    receives_in (instr.Invokestatic id) at t = tt
    receives_in i at t = absurd t

    -- ---- all together

    module _ (there : IsThere h y) (stack : AreThere h s) (callee : Method) (pausable : pausable_callee set.program b.i ≡ Some callee) (locals : (j : ℕ) → (form m).live to j ≡ true → (v : Value) → slice_get l j ≡ Some v → IsThere h v) where
      same_callee : (b.named ≡ callee) × (b.named.pausable ≡ true)
      same_callee = named_is set.program b.i b.named callee b.names pausable

      stack_fits : AllFit W h (below (plan_of set W marks form m) b.named b.from) s
      stack_fits =
          subst (λ (g : Types). AllFit W h (drop (taken b.named) g.stack) s) (sym (types_same m b.own b.there b.from))
          (all_fit set.program W agree none_named of h heap (heap_old set.program of h heap) b.own (drop (taken b.named) (typing_at set.program m b.from).stack) s b.stack
          (across m b.own b.there b.from to b.i b.named b.fetched (pausable ∙ ap (λ (k : Method). Some k) (sym same_callee.0))).0 stack)

      locals_fit : SlotsFit W h (saved (plan_of set W marks form m) b.from to) l
      locals_fit =
          subst (λ (g : Types). SlotsFit W h (Rattle.kilim_weave_spec.specs.Woven.saved_from ((form m).live to) 0 g.locals) l) (sym (types_same m b.own b.there b.from))
          (slots_fit set.program W agree none_named of h heap (heap_old set.program of h heap) b.own ((form m).live to) l (typing_at set.program m b.from).locals
          (across m b.own b.there b.from to b.i b.named b.fetched (pausable ∙ ap (λ (k : Method). Some k) (sym same_callee.0))).1 b.slots locals)

      not_constructor : is_constructor b.named ≡ false
      not_constructor = by (is_constructor b.named) refl
        where
          by : (z : Bool) → is_constructor b.named ≡ z → is_constructor b.named ≡ false
          by true e =
              let at = named_there set.program b.i b.named b.names in
              absurd (no_pause set.program run.keeps at.0 b.named at.1 e (ap (λ (o : Option Method). elim o [ None ↦ false | Some z ↦ z.pausable ]) at.1 ∙ same_callee.1))
          by false e = e

      receiver_fits : ReceiverFits set W marks form b.named.is_static h (receiver (plan_of set W marks form m) b.named b.from) y
      receiver_fits =
          subst (λ (g : Types). ReceiverFits set W marks form b.named.is_static h (first_of (drop (length b.named.params) g.stack)) y) (sym (types_same m b.own b.there b.from)) (by b.named.is_static refl)
        where
          by : (z : Bool) → b.named.is_static ≡ z → ReceiverFits set W marks form z h (first_of (drop (length b.named.params) (typing_at set.program m b.from).stack)) y
          by true e = tt
          by false e =
              ref_fits set.program W agree none_named of h heap (heap_old set.program of h heap) b.own (first_of (drop (length b.named.params) (typing_at set.program m b.from).stack)) (class_type b.named.owner.0)
              (receiver_assigns m b.own b.there b.from to b.i b.named b.fetched b.names e not_constructor) y (b.receiver e) there

      calls_new : (l2 s2 : List Value) → does set.program (own_of set.program m) b.i to l2 (again b.named y s2) h ≡ Calls c (new_args b.named y) to l2 s2 h
      calls_new l2 s2 = ap (λ (o : Option Method). does set.program (own_in o) b.i to l2 (again b.named y s2) h) b.there ∙ redone set.program of h heap b.own b.named c b.callee b.entered b.coded y there to l2 s2 b.i b.names b.target

      result_same : (form c).method.result ≡ b.named.result
      result_same = sym (ap (λ (k : Method). k.result) ((form c).there b.callee b.entered)) ∙ b.result

      -- the stack of the new call isn't too high
      again_fits : length (again b.named y s) ≤ stack_limit set.program m
      again_fits =
          let own_f = own_fetched m b.own b.there b.from to b.i b.fetched in
          let well = (is_verified set run.keeps run.form run.well run.accepted run.main run.begins).verified.typed m b.own b.there (coded_at b.own b.from (b.i, to) own_f) in
          let at = stands_at set.program b.own (typing_at set.program m) well b.from b.i to own_f in
          again_low set.program b.own b.from b.named not_constructor (typing_at set.program m b.from) at.after of (stack_limit set.program m) b.i y s b.names at.step
          (typing_low set.program (typing_at set.program) m b.own b.there well b.from (ap (λ (o : Option (Instr × ℕ)). is_some o) own_f)) b.stack

      fit_named : (wl : List Value) (x : Value) (old : ℕ) (was : Value) → IsThere h x → Fit set W marks form h (Inner c) y (Lk m b.from to b.i b.named s l wl x old was)
      fit_named wl x old was x_there = (
        stack_fits,
        locals_fit,
        receiver_fits,
        (new_args b.named y, calls_new, new_takes, result_same),
        heap_old set.program of h heap,
        record { clean = clean_stack; receives = receives_in b.i b.names b.target },
        again_fits,
        x_there,
      )

  -- a frame that stands behind its call, as a link
  pub fit_inner : (c : MethodId) (y : Value) → Entered set.program of c y → (m : MethodId) (from to : ℕ) (i : Instr) (callee : Method) (l s wl : List Value) (x : Value) (old : ℕ) (was : Value) → Boundary set.program of c y m to l s → fetch set.program m from ≡ Some (i, to) → pausable_callee set.program i ≡ Some callee →
      IsThere h y → AreThere h s → ((j : ℕ) → (form m).live to j ≡ true → (v : Value) → slice_get l j ≡ Some v → IsThere h v) → IsThere h x → Fit set W marks form h (Inner c) y (Lk m from to i callee s l wl x old was)
  fit_inner c y entered m from to i callee l s wl x old was b f hp there stack locals x_there =
      let one = one_call set.program run.keeps m b.from from b.i i to b.fetched f in
      let mine : pausable_callee set.program b.i ≡ Some callee = ap (λ (j : Instr). pausable_callee set.program j) one.1 ∙ hp in
      subst (λ (q : ℕ). Fit set W marks form h (Inner c) y (Lk m q to i callee s l wl x old was)) one.0
      (subst (λ (j : Instr). Fit set W marks form h (Inner c) y (Lk m b.from to j callee s l wl x old was)) one.1
      (subst (λ (k : Method). Fit set W marks form h (Inner c) y (Lk m b.from to b.i k s l wl x old was)) (same_callee c y entered m to l s b there stack callee mine locals).0
      (fit_named c y entered m to l s b there stack callee mine locals wl x old was x_there)))
