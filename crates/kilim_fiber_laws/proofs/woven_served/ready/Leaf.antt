-- The top frame, at a call of `get` or of `yield`: the call can be made again.
use Rattle.std.proofs.Common.{◌≡◌, cond, ℕ, ◌+◌, ◌≤◌, Bool, true, false, List, [], ◌∷◌, ◌++◌, drop, length, Option, Some, None, Ok, refl, sym, ap, subst, ◌∙◌, arith}
use Rattle.std.specs.Prelude.{codes, is_some, reverse, slice_get}
use Rattle.std.proofs.lemmas.Bool.{and_parts, false≢true}
use Rattle.std.proofs.lemmas.List.{length-reverse}
use Rattle.std.proofs.lemmas.Option.{none-some}
use Rattle.kilim_program.specs.declared.class.Method.{Method}
use Rattle.kilim_program.specs.declared.instr.Instr.{Instr}
use Rattle.kilim_program.specs.declared.instr.Instr.TheVariants as instr
use Rattle.kilim_program.specs.declared.names.BoxName.{BoxName}
use Rattle.kilim_program.specs.declared.names.MethodId.{MethodId}
use Rattle.kilim_program.specs.declared.ty.Ty.{Ty}
use Rattle.kilim_program.specs.declared.value.Value.{Value}
use Rattle.kilim_program.specs.declared.value.Value.TheVariants.{Box, Null}
use Rattle.kilim_program.specs.declared.verified.VType.{VType}
use Rattle.kilim_program.specs.BuiltIn.{class_type}
use Rattle.kilim_program.specs.Lengths.{fetched}
use Rattle.kilim_program.specs.Names.{◌>>=◌, method_at}
use Rattle.kilim_program.specs.Program.{Program}
use Rattle.kilim_program.specs.Same.{is_constructor}
use Rattle.kilim_type_sound.specs.Facts.{Selected}
use Rattle.kilim_type_sound.specs.Fits.{AreThere, Classes, HeapFits, Holds, has_type, have_types}
use Rattle.kilim_type_sound.proofs.Grounds.{facts_hold}
use Rattle.kilim_isolation_pauses.specs.Pausing.{called}
use Rattle.kilim_run_machine.specs.Does.{calls_on, chosen, does, special}
use Rattle.kilim_run_machine.specs.Effect.{Asks}
use Rattle.kilim_program.specs.Members.{named_type}
use Rattle.kilim_run_state.specs.Machine.{Objects}
use Rattle.kilim_run_machine.specs.Natives.{is_built_in_constructor, is_handed_out, is_text_method, native_method, native_of}
use Rattle.kilim_run_machine.specs.Natives as native
use Rattle.kilim_isolation_laws.specs.Laws.{IsRunOfAccepted}
use Rattle.kilim_isolation_laws.proofs.Keeping.{is_verified}
use Rattle.kilim_run_model.specs.State.{Setting}
use Rattle.kilim_type_spec.specs.Step.{Types, is_long, peek, type_step, vtype}
use Rattle.kilim_type_laws.specs.Laws.{typing_at}
use Rattle.kilim_fiber_laws.proofs.receivers.called.Called.{no_pause}
use Rattle.kilim_weave_spec.specs.Woven.{below, first_of, if_there, pausable_callee, receiver, saved, saved_from, taken}
use Rattle.kilim_weave_laws.specs.woven_programs.Law.{KeepsPauses}
use Rattle.kilim_fiber_laws.proofs.woven_served.ready.Asking.{asks_again, box_special, box_virtual, on_class, special_asked, static_again, static_asked, virtual_asked}
use Rattle.kilim_fiber_laws.proofs.woven_served.ready.Below.{across, coded_at, none_named, receiver_assigns, types_same}
use Rattle.kilim_fiber_laws.proofs.woven_served.ready.Clean.{heap_old, stack_clean}
use Rattle.kilim_fiber_laws.proofs.woven_served.ready.Receiver.{special_instance, static_static, virtual_instance}
use Rattle.kilim_fiber_laws.proofs.woven_served.ready.Shapes.{IsGet, get_is, yield_is}
use Rattle.kilim_fiber_laws.proofs.woven_served.ready.Values.{all_fit, ref_fits, slots_fit}
use Rattle.kilim_fiber_spec.specs.alike.Shares.{Agree}
use Rattle.kilim_fiber_spec.specs.Links.{AllFit, Drops, Fit, Forms, Leaf, Lk, ReceiverFits, SlotsFit, again, code, plan_of, with_dummies, with_receiver}
use Rattle.kilim_fiber_spec.specs.Rows.{Clean, Receives, below_arguments}
use Rattle.kilim_fiber_spec.specs.Serves.{leaf_receiver}
use Rattle.kilim_fiber_spec.specs.Thread.{code_in, fetch, own_in, own_of}
use Rattle.kilim_fiber_laws.proofs.courses.Roomy.{types_length, typing_low}
use Rattle.kilim_run_interp.specs.Step.{stack_limit}
use Rattle.kilim_fiber_laws.specs.stands.Law.{IsFormOf}

pub method_is : (x y : Method) → Some x ≡ Some y → x ≡ y
method_is x y e = cc

pub heads : (x y : Value) (xs ys : List Value) → x ∷ xs ≡ y ∷ ys → (x ≡ y) × (xs ≡ ys)
heads x y xs ys e = (cc, cc)

not_empty : (x : Value) (xs : List Value) → x ∷ xs ≡ [] → ⊥
not_empty x xs e = cc

none_long : {A : Type 0} (xs : List A) → length xs ≡ 0 → xs ≡ []
none_long [] e = refl
none_long (x ∷ xs) e = absurd (cc)

reversed_none : (xs : List Value) → reverse xs ≡ [] → xs ≡ []
reversed_none xs e = none_long xs (sym (length-reverse xs) ∙ ap (λ (ys : List Value). length ys) e)

-- the method that a pausable call names
pub callee_there : (o : Option Method) (callee : Method) → if_there o ≡ Some callee → (o ≡ Some callee) × (callee.pausable ≡ true)
callee_there None callee e = absurd (none e)
  where
    none : None ≡ Some callee → ⊥
    none e = cc
callee_there (Some m) callee e = by m.pausable refl e
  where
    none : None ≡ Some callee → ⊥
    none e = cc

    by : (z : Bool) → m.pausable ≡ z → cond z (Some m) None ≡ Some callee → (Some m ≡ Some callee) × (callee.pausable ≡ true)
    by true p e = (e, subst (λ (k : Method). k.pausable ≡ true) (method_is m callee e) p)
    by false p e = absurd (none e)

-- the instructions that can name a pausable method
pub data IsCall : Instr → Type 0 where
  OnClass : (id : MethodId) → IsCall (instr.Invokevirtual id)
  Special : (id : MethodId) → IsCall (instr.Invokespecial id)
  Static : (id : MethodId) → IsCall (instr.Invokestatic id)

pub is_call : (P : Program) (callee : Method) (i : Instr) → pausable_callee P i ≡ Some callee → IsCall i
is_call P callee (instr.Invokevirtual id) e = OnClass id
is_call P callee (instr.Invokespecial id) e = Special id
is_call P callee (instr.Invokestatic id) e = Static id
is_call P callee i e = absurd (none-some callee e)

-- of a pausable method: it is no constructor, no method of strings, and handed out where it is built in
abbrev pub IsSound : Program → Type 0
IsSound p = (id : MethodId) (a : Method) → method_at p id ≡ Some a → a.pausable ≡ true → (is_built_in_constructor a ≡ false) × (is_text_method p a ≡ false) × (is_handed_out p a ≡ a.built_in)

module _ (set : Setting) (run : IsRunOfAccepted set) (pauses : KeepsPauses set.program) (sound : IsSound set.program) (W : Program) (marks : List (List Bool)) (form : Forms set W marks)
    (is_form : (m : MethodId) (a : Method) → method_at set.program m ≡ Some a → IsFormOf set.program W (code set W marks) m (form m) a) (agree : Agree set.program W) (of : Classes) (h : Objects) (heap : HeapFits set.program of h)
    (m : MethodId) (own : Method) (there : method_at set.program m ≡ Some own) (p to : ℕ) (l s : List Value) (stack : have_types set.program own of (typing_at set.program m p).stack s ≡ true) (g : Types) (callee : Method) (c : MethodId) (args s2 : List Value) where
  P : Program
  P = set.program

  -- what a call of `get` is
  record IsGetCall (i : Instr) (b : BoxName) : Type 0 where
    is : s ≡ Box b ∷ s2
    params : callee.params ≡ []
    instance : callee.is_static ≡ false
    names : called set.program i ≡ Some callee
    plain : is_constructor callee ≡ false
    again_asks : (l3 s3 : List Value) → does set.program own i to l3 (Box b ∷ s3) h ≡ Asks c (Box b ∷ []) to l3 s3 h
    drops : Drops callee.result (Some Null)

  record IsYieldCall (i : Instr) : Type 0 where
    is : s ≡ s2
    params : callee.params ≡ []
    static : callee.is_static ≡ true
    again_asks : (l3 s3 : List Value) → does set.program own i to l3 s3 h ≡ Asks c [] to l3 s3 h
    drops : Drops callee.result None

  pub not_constructor : (id : MethodId) → method_at set.program id ≡ Some callee → callee.pausable ≡ true → is_constructor callee ≡ false
  not_constructor id at pausable = by (is_constructor callee) refl
    where
      by : (z : Bool) → is_constructor callee ≡ z → is_constructor callee ≡ false
      by true e = absurd (no_pause set.program run.keeps id callee at e (ap (λ (o : Option Method). elim o [ None ↦ false | Some z ↦ z.pausable ]) at ∙ pausable))
      by false e = e

  -- a result that isn't a long is dropped as one word
  null_drops : (o : Option Ty) (ty : Ty) → o ≡ Some ty → is_long (vtype ty) ≡ false → Drops o (Some Null)
  null_drops o ty e short = subst (λ (x : Option Ty). Drops x (Some Null)) (sym e) (sym short)

  pub none_drops : (o : Option Ty) → o ≡ None → Drops o None
  none_drops o e = subst (λ (x : Option Ty). Drops x None) (sym e) tt

  -- the method that is asked is `get`
  get_of : (k : MethodId) (x : Method) → method_at set.program k ≡ Some x → k ≡ c → native_of set.program c ≡ Some native.Get → IsGet x
  get_of k x at same named = get_is set.program run.keeps run.form k x at (sym (ap (λ (o : Option Method). o >>= native_method set.program) at) ∙ (ap (native_of set.program) same ∙ named))

  no_params : (top : List Value) → reverse top ≡ [] → length top ≡ length callee.params → callee.params ≡ []
  no_params top e long = none_long callee.params (sym long ∙ ap (λ (xs : List Value). length xs) (reversed_none top e))

  get_virtual : (id : MethodId) → if_there (method_at set.program id) ≡ Some callee → does set.program own (instr.Invokevirtual id) to l s h ≡ Asks c args to l s2 h → native_of set.program c ≡ Some native.Get → type_step set.program own p (instr.Invokevirtual id) (typing_at set.program m p) ≡ Ok g →
      Receives set.program (instr.Invokevirtual id) s h → (b : BoxName) → args ≡ Box b ∷ [] → IsGetCall (instr.Invokevirtual id) b
  get_virtual id hp e named step receives b args_are =
      let k = callee_there (method_at set.program id) callee hp in
      let q = sound id callee k.0 k.1 in
      let r = virtual_asked set.program own id callee k.0 to h q.1 q.0 q.2 c args to l s2 h l s e in
      let parts = heads r.1 (Box b) (reverse r.0) [] (sym r.5 ∙ args_are) in
      let none = no_params r.0 parts.1 r.4 in
      let s_is : s ≡ Box b ∷ s2 = r.3 ∙ (ap (λ (xs : List Value). xs ++ r.1 ∷ s2) (reversed_none r.0 parts.1) ∙ ap (λ (v : Value). v ∷ s2) parts.0) in
      let mine : calls_on set.program callee id [] to l s2 h (Box b) (named_type set.program (codes "kilim/Mailbox")) ≡ Asks c args to l s2 h =
      sym (box_virtual set.program own id callee k.0 to h q.1 q.0 q.2 c args to l s2 h none b l s2) ∙ (ap (λ (xs : List Value). does set.program own (instr.Invokevirtual id) to l xs h) (sym s_is) ∙ e) in
      let on = on_class c args to l s2 h set.program callee id [] to l s2 h (Box b) (named_type set.program (codes "kilim/Mailbox")) mine in
      let instance = virtual_instance set.program own p callee (typing_at set.program m p) g id k.0 step in
      let plain = not_constructor id k.0 k.1 in
      let below_is : below_arguments (length callee.params) s ≡ Box b ∷ s2 = ap (λ (tys : List Ty). below_arguments (length tys) s) none ∙ s_is in
      let sel : Selected set.program callee (chosen set.program callee id on.class) =
      ((facts_hold set.program run.keeps).selects id callee k.0 instance plain on.class ((facts_hold set.program run.keeps).values (codes "kilim/Mailbox") on.class on.is refl) (receives callee k.0 (Box b) s2 below_is on.class on.is)).0 in
      let shape = get_of (chosen set.program callee id on.class) sel.method sel.there on.asked.same named in
      record {
        is = s_is;
        params = none;
        instance = instance;
        names = k.0;
        plain = plain;
        again_asks = λ l3 s3.
            box_virtual set.program own id callee k.0 to h q.1 q.0 q.2 c args to l s2 h none b l3 s3
            ∙ (ap (λ (o : Option Ty). calls_on set.program callee id [] to l3 s3 h (Box b) o) on.is
            ∙ asks_again c args to l s2 h _ _ _ _ on.asked (Box b ∷ []) to l3 s3 h);
        drops = null_drops callee.result shape.2.0 (sym sel.result ∙ shape.2.1) shape.2.2;
      }

  get_special : (id : MethodId) → if_there (method_at set.program id) ≡ Some callee → does set.program own (instr.Invokespecial id) to l s h ≡ Asks c args to l s2 h → native_of set.program c ≡ Some native.Get → type_step set.program own p (instr.Invokespecial id) (typing_at set.program m p) ≡ Ok g → (b : BoxName) → args ≡ Box b ∷ [] →
      IsGetCall (instr.Invokespecial id) b
  get_special id hp e named step b args_are =
      let k = callee_there (method_at set.program id) callee hp in
      let q = sound id callee k.0 k.1 in
      let r = special_asked set.program own id callee k.0 to h q.1 q.0 q.2 c args to l s2 h l s e in
      let parts = heads r.1 (Box b) (reverse r.0) [] (sym r.4 ∙ args_are) in
      let none = no_params r.0 parts.1 r.3 in
      let s_is : s ≡ Box b ∷ s2 = r.2 ∙ (ap (λ (xs : List Value). xs ++ r.1 ∷ s2) (reversed_none r.0 parts.1) ∙ ap (λ (v : Value). v ∷ s2) parts.0) in
      let plain = not_constructor id k.0 k.1 in
      let row = special_instance set.program own p callee (typing_at set.program m p) g id k.0 plain step in
      let sel : Selected set.program callee (special set.program own callee id) = ((facts_hold set.program run.keeps).specials own id callee k.0 row.0 plain row.1 row.2).0 in
      let shape = get_of (special set.program own callee id) sel.method sel.there r.5.same named in
      record {
        is = s_is;
        params = none;
        instance = row.0;
        names = k.0;
        plain = plain;
        again_asks = λ l3 s3.
            box_special set.program own id callee k.0 to h q.1 q.0 q.2 c args to l s2 h none b l3 s3
            ∙ asks_again c args to l s2 h _ _ _ _ r.5 (Box b ∷ []) to l3 s3 h;
        drops = null_drops callee.result shape.2.0 (sym sel.result ∙ shape.2.1) shape.2.2;
      }

  get_by : (i : Instr) → IsCall i → pausable_callee set.program i ≡ Some callee → does set.program own i to l s h ≡ Asks c args to l s2 h → native_of set.program c ≡ Some native.Get → type_step set.program own p i (typing_at set.program m p) ≡ Ok g → Receives set.program i s h → (b : BoxName) → args ≡ Box b ∷ [] → IsGetCall i b
  get_by i (OnClass id) hp e named step receives b args_are = get_virtual id hp e named step receives b args_are
  get_by i (Special id) hp e named step receives b args_are = get_special id hp e named step b args_are
  get_by i (Static id) hp e named step receives b args_are =
      let k = callee_there (method_at set.program id) callee hp in
      let q = sound id callee k.0 k.1 in
      let r = static_asked set.program own id callee k.0 to h q.1 q.0 q.2 c args to l s2 h l s e in
      absurd (false≢true (sym (get_of id callee k.0 r.4 named).1 ∙ static_static set.program own p callee (typing_at set.program m p) g id k.0 step))

  get_call : (i : Instr) → pausable_callee set.program i ≡ Some callee → does set.program own i to l s h ≡ Asks c args to l s2 h → native_of set.program c ≡ Some native.Get → type_step set.program own p i (typing_at set.program m p) ≡ Ok g → Receives set.program i s h → (b : BoxName) → args ≡ Box b ∷ [] → IsGetCall i b
  get_call i hp = get_by i (is_call set.program callee i hp) hp

  yield_by : (i : Instr) → IsCall i → pausable_callee set.program i ≡ Some callee → does set.program own i to l s h ≡ Asks c args to l s2 h → native_of set.program c ≡ Some native.Yield → args ≡ [] → IsYieldCall i
  yield_by i (OnClass id) hp e named args_are =
      let k = callee_there (method_at set.program id) callee hp in
      let q = sound id callee k.0 k.1 in
      let r = virtual_asked set.program own id callee k.0 to h q.1 q.0 q.2 c args to l s2 h l s e in
      absurd (not_empty r.1 (reverse r.0) (sym r.5 ∙ args_are))
  yield_by i (Special id) hp e named args_are =
      let k = callee_there (method_at set.program id) callee hp in
      let q = sound id callee k.0 k.1 in
      let r = special_asked set.program own id callee k.0 to h q.1 q.0 q.2 c args to l s2 h l s e in
      absurd (not_empty r.1 (reverse r.0) (sym r.4 ∙ args_are))
  yield_by i (Static id) hp e named args_are =
      let k = callee_there (method_at set.program id) callee hp in
      let q = sound id callee k.0 k.1 in
      let r = static_asked set.program own id callee k.0 to h q.1 q.0 q.2 c args to l s2 h l s e in
      let shape = yield_is set.program run.keeps run.form id callee k.0 (sym (ap (λ (o : Option Method). o >>= native_method set.program) k.0) ∙ (ap (native_of set.program) r.4 ∙ named)) in
      record {
        is = r.1 ∙ ap (λ (xs : List Value). xs ++ s2) (reversed_none r.0 (sym r.3 ∙ args_are));
        params = shape.0;
        static = shape.1;
        again_asks = λ l3 s3. static_again set.program own id callee k.0 to h q.1 q.0 q.2 c args to l s2 h shape.0 r.5 l3 s3 ∙ ap (λ (x : MethodId). Asks x [] to l3 s3 h) r.4;
        drops = none_drops callee.result shape.2;
      }

  yield_call : (i : Instr) → pausable_callee set.program i ≡ Some callee → does set.program own i to l s h ≡ Asks c args to l s2 h → native_of set.program c ≡ Some native.Yield → args ≡ [] → IsYieldCall i
  yield_call i hp = yield_by i (is_call set.program callee i hp) hp

  -- ---- the frame

  pub one_off : (ts : List VType) (v : Value) (vs : List Value) → have_types set.program own of ts (v ∷ vs) ≡ true → (has_type set.program own of (first_of ts) v ≡ true) × (have_types set.program own of (drop 1 ts) vs ≡ true)
  one_off [] v vs e = absurd (false≢true e)
  one_off (t ∷ ts) v vs e = and_parts (has_type set.program own of t v) (have_types set.program own of ts vs) e

  module _ (i : Instr) (f : fetch set.program m p ≡ Some (i, to)) (hp : pausable_callee set.program i ≡ Some callee) (receives : Receives set.program i s h) (slots : (k : ℕ) → Holds set.program own of (peek (typing_at set.program m p).locals k) (slice_get l k))
      (locals : (j : ℕ) → (form m).live to j ≡ true → (v : Value) → slice_get l j ≡ Some v → Rattle.kilim_type_sound.specs.Fits.IsThere h v) (wl : List Value) (x : Value) (old : ℕ) (was : Value) (self_here : Rattle.kilim_type_sound.specs.Fits.IsThere h x) where
    pub stack_fits : (n : ℕ) → taken callee ≡ n → have_types set.program own of (drop n (typing_at set.program m p).stack) s2 ≡ true → AreThere h s2 → AllFit W h (below (plan_of set W marks form m) callee p) s2
    stack_fits n is typed inside =
        subst (λ (y : Types). AllFit W h (drop (taken callee) y.stack) s2) (sym (types_same set run pauses W marks form is_form agree of h heap m own there p))
        (all_fit set.program W agree (none_named set run pauses W marks form is_form agree of h heap) of h heap (heap_old set.program of h heap) own (drop (taken callee) (typing_at set.program m p).stack) s2
        (subst (λ (k : ℕ). have_types set.program own of (drop k (typing_at set.program m p).stack) s2 ≡ true) (sym is) typed) (across set run pauses W marks form is_form agree of h heap m own there p to i callee f hp).0 inside)

    pub locals_fit : SlotsFit W h (saved (plan_of set W marks form m) p to) l
    locals_fit =
        subst (λ (y : Types). SlotsFit W h (saved_from ((form m).live to) 0 y.locals) l) (sym (types_same set run pauses W marks form is_form agree of h heap m own there p))
        (slots_fit set.program W agree (none_named set run pauses W marks form is_form agree of h heap) of h heap (heap_old set.program of h heap) own ((form m).live to) l (typing_at set.program m p).locals
        (across set run pauses W marks form is_form agree of h heap m own there p to i callee f hp).1 slots locals)

    pub clean : Clean s
    clean = stack_clean set.program (none_named set run pauses W marks form is_form agree of h heap) own of (typing_at set.program m p).stack s stack

    pub stack_low : length s ≤ stack_limit set.program m
    stack_low =
        let own_f : fetched own.code own.code_length p ≡ Some (i, to) = ap (λ (o : Option Method). code_in o p) (sym there) ∙ f in
        let few = types_length set.program own of (typing_at set.program m p).stack s stack in
        let low = typing_low set.program (typing_at set.program) m own there ((is_verified set run.keeps run.form run.well run.accepted run.main run.begins).verified.typed m own there (coded_at own p (i, to) own_f)) p (ap (λ (o : Option (Instr × ℕ)). is_some o) own_f) in
        omega (arith, few, low)

    pub own_same : (l3 s3 : List Value) → does set.program (own_of set.program m) i to l3 s3 h ≡ does set.program own i to l3 s3 h
    own_same l3 s3 = ap (λ (o : Option Method). does set.program (own_in o) i to l3 s3 h) there

    get_fits : AreThere h s → (b : BoxName) → IsGetCall i b → native_of set.program c ≡ Some native.Get → Fit set W marks form h (Leaf native.Get) (Box b) (Lk m p to i callee s2 l wl x old was)
    get_fits here b k named =
        let again_is : (s3 : List Value) → again callee (Box b) s3 ≡ Box b ∷ s3 = λ s3. ap (λ (tys : List Ty). with_dummies tys (with_receiver callee.is_static (Box b) s3)) k.params ∙ ap (λ (z : Bool). with_receiver z (Box b) s3) k.instance in
        let one : taken callee ≡ 1 = ap (λ (tys : List Ty). length tys + cond callee.is_static 0 1) k.params ∙ ap (λ (z : Bool). 0 + cond z 0 1) k.instance in
        let typed = one_off (typing_at set.program m p).stack (Box b) s2 (subst (λ (xs : List Value). have_types set.program own of (typing_at set.program m p).stack xs ≡ true) k.is stack) in (
          stack_fits 1 one typed.1 (subst (λ (xs : List Value). AreThere h xs) k.is here).1,
          locals_fit,
          subst (λ (z : Bool). ReceiverFits set W marks form z h (receiver (plan_of set W marks form m) callee p) (Box b)) (sym k.instance)
              (subst (λ (y : Types). Rattle.kilim_fiber_spec.specs.Links.RefFits W h (first_of (drop (length callee.params) y.stack)) (Box b)) (sym (types_same set run pauses W marks form is_form agree of h heap m own there p))
              (ref_fits set.program W agree (none_named set run pauses W marks form is_form agree of h heap) of h heap (heap_old set.program of h heap) own (first_of (drop (length callee.params) (typing_at set.program m p).stack)) (class_type callee.owner.0)
              (receiver_assigns set run pauses W marks form is_form agree of h heap m own there p to i callee f k.names k.instance k.plain) (Box b)
              (subst (λ (tys : List Ty). has_type set.program own of (first_of (drop (length tys) (typing_at set.program m p).stack)) (Box b) ≡ true) (sym k.params) typed.0) tt)),
          (c, Box b ∷ [], (λ l3 s3. ap (λ (xs : List Value). does set.program (own_of set.program m) i to l3 xs h) (again_is s3) ∙ (own_same l3 (Box b ∷ s3) ∙ k.again_asks l3 s3)), named, (refl, k.drops)),
          heap_old set.program of h heap,
          record { clean = subst Clean (k.is ∙ sym (again_is s2)) clean; receives = subst (λ (xs : List Value). Receives set.program i xs h) (k.is ∙ sym (again_is s2)) receives },
          subst (λ (xs : List Value). length xs ≤ stack_limit set.program m) (k.is ∙ sym (again_is s2)) stack_low,
          self_here,
        )

    yield_fits : AreThere h s → IsYieldCall i → native_of set.program c ≡ Some native.Yield → Fit set W marks form h (Leaf native.Yield) Null (Lk m p to i callee s2 l wl x old was)
    yield_fits here k named =
        let again_is : (s3 : List Value) → again callee Null s3 ≡ s3 = λ s3. ap (λ (tys : List Ty). with_dummies tys (with_receiver callee.is_static Null s3)) k.params ∙ ap (λ (z : Bool). with_receiver z Null s3) k.static in
        let none : taken callee ≡ 0 = ap (λ (tys : List Ty). length tys + cond callee.is_static 0 1) k.params ∙ ap (λ (z : Bool). 0 + cond z 0 1) k.static in (
          stack_fits 0 none (subst (λ (xs : List Value). have_types set.program own of (typing_at set.program m p).stack xs ≡ true) k.is stack) (subst (λ (xs : List Value). AreThere h xs) k.is here),
          locals_fit,
          subst (λ (z : Bool). ReceiverFits set W marks form z h (receiver (plan_of set W marks form m) callee p) Null) (sym k.static) tt,
          (c, [], (λ l3 s3. ap (λ (xs : List Value). does set.program (own_of set.program m) i to l3 xs h) (again_is s3) ∙ (own_same l3 s3 ∙ k.again_asks l3 s3)), named, (refl, refl, k.drops)),
          heap_old set.program of h heap,
          record { clean = subst Clean (k.is ∙ sym (again_is s2)) clean; receives = subst (λ (xs : List Value). Receives set.program i xs h) (k.is ∙ sym (again_is s2)) receives },
          subst (λ (xs : List Value). length xs ≤ stack_limit set.program m) (k.is ∙ sym (again_is s2)) stack_low,
          self_here,
        )

    pub fit_get : AreThere h s → does set.program (own_of set.program m) i to l s h ≡ Asks c args to l s2 h → native_of set.program c ≡ Some native.Get → type_step set.program own p i (typing_at set.program m p) ≡ Ok g → (b : BoxName) → args ≡ Box b ∷ [] →
        Fit set W marks form h (Leaf native.Get) (leaf_receiver native.Get args) (Lk m p to i callee s2 l wl x old was)
    fit_get here e named step b args_are =
        subst (λ (xs : List Value). Fit set W marks form h (Leaf native.Get) (leaf_receiver native.Get xs) (Lk m p to i callee s2 l wl x old was)) (sym args_are)
        (get_fits here b (get_call i hp (sym (own_same l s) ∙ e) named step receives b args_are) named)

    pub fit_yield : AreThere h s → does set.program (own_of set.program m) i to l s h ≡ Asks c args to l s2 h → native_of set.program c ≡ Some native.Yield → args ≡ [] → Fit set W marks form h (Leaf native.Yield) (leaf_receiver native.Yield args) (Lk m p to i callee s2 l wl x old was)
    fit_yield here e named args_are = yield_fits here (yield_call i hp (sym (own_same l s) ∙ e) named args_are) named
