-- The top frame, at a put that waits: the call can be made again, with null for its tree, in the heap without that tree.
use Rattle.std.proofs.Common.{◌≡◌, cond, ℕ, ◌+◌, ◌≤◌, Bool, true, false, List, [], ◌∷◌, ◌++◌, drop, length, Option, Some, None, Ok, refl, sym, ap, subst, ◌∙◌}
use Rattle.std.specs.Prelude.{codes, reverse, slice_get}
use Rattle.std.proofs.lemmas.Bool.{false≢true}
use Rattle.std.proofs.lemmas.List.{length-reverse}
use Rattle.kilim_program.specs.declared.class.Method.{Method}
use Rattle.kilim_program.specs.declared.instr.Instr.{Instr}
use Rattle.kilim_program.specs.declared.instr.Instr.TheVariants as instr
use Rattle.kilim_program.specs.declared.names.BoxName.{BoxName}
use Rattle.kilim_program.specs.declared.names.MethodId.{MethodId}
use Rattle.kilim_program.specs.declared.ty.Ty.{Ty}
use Rattle.kilim_program.specs.declared.value.Value.{Value}
use Rattle.kilim_program.specs.declared.value.Value.TheVariants.{Box, Null, Ref}
use Rattle.kilim_program.specs.declared.verified.VType.{VType}
use Rattle.kilim_program.specs.BuiltIn.{class_type}
use Rattle.kilim_program.specs.Names.{◌>>=◌, method_at}
use Rattle.kilim_program.specs.Members.{named_type}
use Rattle.kilim_program.specs.Program.{Program}
use Rattle.kilim_program.specs.Same.{is_constructor}
use Rattle.kilim_type_sound.specs.Facts.{Selected}
use Rattle.kilim_type_sound.specs.Fits.{AreThere, Classes, HeapFits, Holds, IsThere, has_type, have_types}
use Rattle.kilim_type_sound.proofs.Grounds.{facts_hold}
use Rattle.kilim_isolation_pauses.specs.Pausing.{called}
use Rattle.kilim_run_machine.specs.Does.{calls_on, chosen, does, special}
use Rattle.kilim_run_machine.specs.Effect.{Asks}
use Rattle.kilim_run_state.specs.Machine.{Objects}
use Rattle.kilim_run_machine.specs.Natives.{native_method, native_of}
use Rattle.kilim_run_machine.specs.Natives as native
use Rattle.kilim_isolation_laws.specs.Laws.{IsRunOfAccepted}
use Rattle.kilim_run_model.specs.State.{Setting}
use Rattle.kilim_type_spec.specs.Step.{Types, peek, type_step, vtype}
use Rattle.kilim_type_laws.specs.Laws.{typing_at}
use Rattle.kilim_weave_spec.specs.Woven.{first_of, if_there, pausable_callee, receiver, taken}
use Rattle.kilim_weave_laws.specs.woven_programs.Law.{KeepsPauses}
use Rattle.kilim_fiber_laws.proofs.woven_served.ready.Asking.{asks_again, box_special_one, box_virtual_one, on_class, special_asked, static_asked, virtual_asked}
use Rattle.kilim_fiber_laws.proofs.woven_served.ready.Below.{none_named, receiver_assigns, types_same}
use Rattle.kilim_fiber_laws.proofs.woven_served.ready.Clean.{heap_old, stack_clean}
use Rattle.kilim_fiber_laws.proofs.woven_served.ready.Leaf.{IsCall, IsSound, OnClass, Special, Static, callee_there, heads, is_call, method_is}
use Rattle.kilim_fiber_laws.proofs.woven_served.ready.Leaf as leaf
use Rattle.kilim_fiber_laws.proofs.woven_served.ready.Receiver.{special_instance, static_static, virtual_instance}
use Rattle.kilim_fiber_laws.proofs.woven_served.ready.Shapes.{IsPutWait, wait_is}
use Rattle.kilim_fiber_laws.proofs.woven_served.ready.Values.{ref_fits}
use Rattle.kilim_fiber_spec.specs.alike.Shares.{Agree}
use Rattle.kilim_fiber_spec.specs.Links.{Drops, Fit, Forms, Leaf, Lk, ReceiverFits, RefFits, again, code, dummy_value, plan_of, with_dummies, with_receiver}
use Rattle.kilim_fiber_spec.specs.Rows.{Clean, Receives, below_arguments, value_class}
use Rattle.kilim_fiber_spec.specs.Thread.{fetch, own_in, own_of}
use Rattle.kilim_run_interp.specs.Step.{stack_limit}
use Rattle.kilim_fiber_laws.specs.stands.Law.{IsFormOf}

-- ---- one argument

one_long : {A : Type 0} (xs : List A) → length xs ≡ 1 → (x : A) × (xs ≡ x ∷ [])
one_long [] e = absurd (cc)
one_long (x ∷ []) e = (x, refl)
one_long (x ∷ y ∷ xs) e = absurd (cc)

one_value : (x y : Value) → x ∷ [] ≡ y ∷ [] → x ≡ y
one_value x y e = cc

one_reversed : (xs : List Value) (v : Value) → reverse xs ≡ v ∷ [] → xs ≡ v ∷ []
one_reversed xs v e =
    let only = one_long xs (sym (length-reverse xs) ∙ ap (λ (ys : List Value). length ys) e) in
    only.1 ∙ ap (λ (z : Value). z ∷ []) (one_value only.0 v (sym (ap reverse only.1) ∙ e))

one_dropped : (ts : List VType) → drop 1 (drop 1 ts) ≡ drop 2 ts
one_dropped [] = refl
one_dropped (t ∷ []) = refl
one_dropped (t ∷ u ∷ ts) = refl

type_known : (x y : Ty) → Some x ≡ Some y → x ≡ y
type_known x y e = cc

module _ (set : Setting) (run : IsRunOfAccepted set) (pauses : KeepsPauses set.program) (sound : IsSound set.program) (W : Program) (marks : List (List Bool)) (form : Forms set W marks)
    (is_form : (m : MethodId) (a : Method) → method_at set.program m ≡ Some a → IsFormOf set.program W (code set W marks) m (form m) a) (agree : Agree set.program W) (of : Classes) (h k : Objects) (heap : HeapFits set.program of h) (left : HeapFits set.program of k)
    (m : MethodId) (own : Method) (there : method_at set.program m ≡ Some own) (p to : ℕ) (l s : List Value) (stack : have_types set.program own of (typing_at set.program m p).stack s ≡ true) (g : Types) (callee : Method) (c : MethodId) (args s2 : List Value) (box : BoxName) (n : ℕ) where
  -- what a call of `putw` is, made again in the heap k
  record IsWaitCall (i : Instr) : Type 0 where
    is : s ≡ Ref n ∷ Box box ∷ s2
    param : Ty
    params : callee.params ≡ param ∷ []
    dummy : dummy_value (vtype param) ≡ Null
    instance : callee.is_static ≡ false
    names : called set.program i ≡ Some callee
    plain : is_constructor callee ≡ false
    again_asks : (l3 s3 : List Value) → does set.program own i to l3 (Null ∷ Box box ∷ s3) k ≡ Asks c (Box box ∷ Null ∷ []) to l3 s3 k
    drops : Drops callee.result None

  -- the method that is asked is `putw`
  wait_of : (id : MethodId) (x : Method) → method_at set.program id ≡ Some x → id ≡ c → native_of set.program c ≡ Some native.PutWait → IsPutWait x
  wait_of id x at same named = wait_is set.program run.keeps run.form id x at (sym (ap (λ (o : Option Method). o >>= native_method set.program) at) ∙ (ap (native_of set.program) same ∙ named))

  -- the stack, where the arguments are known
  stack_is : (top : List Value) (v : Value) → s ≡ top ++ v ∷ s2 → args ≡ v ∷ reverse top → args ≡ Box box ∷ Ref n ∷ [] → (s ≡ Ref n ∷ Box box ∷ s2) × (length top ≡ 1)
  stack_is top v is has are =
      let parts = heads v (Box box) (reverse top) (Ref n ∷ []) (sym has ∙ are) in
      let top_is = one_reversed top (Ref n) parts.1 in
      (is ∙ (ap (λ (xs : List Value). xs ++ v ∷ s2) top_is ∙ ap (λ (z : Value). Ref n ∷ z ∷ s2) parts.0), ap (λ (xs : List Value). length xs) top_is)

  wait_virtual : (id : MethodId) → if_there (method_at set.program id) ≡ Some callee → does set.program own (instr.Invokevirtual id) to l s h ≡ Asks c args to l s2 h → native_of set.program c ≡ Some native.PutWait → type_step set.program own p (instr.Invokevirtual id) (typing_at set.program m p) ≡ Ok g →
      Receives set.program (instr.Invokevirtual id) s h → args ≡ Box box ∷ Ref n ∷ [] → IsWaitCall (instr.Invokevirtual id)
  wait_virtual id hp e named step receives are =
      let found = callee_there (method_at set.program id) callee hp in
      let q = sound id callee found.0 found.1 in
      let r = virtual_asked set.program own id callee found.0 to h q.1 q.0 q.2 c args to l s2 h l s e in
      let st = stack_is r.0 r.1 r.3 r.5 are in
      let one : length callee.params ≡ 1 = sym r.4 ∙ st.1 in
      let mine : calls_on set.program callee id (Ref n ∷ []) to l s2 h (Box box) (named_type set.program (codes "kilim/Mailbox")) ≡ Asks c args to l s2 h =
      sym (box_virtual_one set.program own id callee found.0 to h q.1 q.0 q.2 c args to l s2 h one box (Ref n) l s2) ∙ (ap (λ (xs : List Value). does set.program own (instr.Invokevirtual id) to l xs h) (sym st.0) ∙ e) in
      let on = on_class c args to l s2 h set.program callee id (Ref n ∷ []) to l s2 h (Box box) (named_type set.program (codes "kilim/Mailbox")) mine in
      let instance = virtual_instance set.program own p callee (typing_at set.program m p) g id found.0 step in
      let plain = leaf.not_constructor set run pauses sound W marks form is_form agree of h heap m own there p to l s stack g callee c args s2 id found.0 found.1 in
      let below_is : below_arguments (length callee.params) s ≡ Box box ∷ s2 = ap (λ (j : ℕ). below_arguments j s) one ∙ ap (below_arguments 1) st.0 in
      let sel : Selected set.program callee (chosen set.program callee id on.class) =
      ((facts_hold set.program run.keeps).selects id callee found.0 instance plain on.class ((facts_hold set.program run.keeps).values (codes "kilim/Mailbox") on.class on.is refl) (receives callee found.0 (Box box) s2 below_is on.class on.is)).0 in
      let shape = wait_of (chosen set.program callee id on.class) sel.method sel.there on.asked.same named in
      record {
        is = st.0;
        param = shape.0.0;
        params = sym sel.params ∙ shape.0.1;
        dummy = shape.0.2;
        instance = instance;
        names = found.0;
        plain = plain;
        again_asks = λ l3 s3.
            box_virtual_one set.program own id callee found.0 to k q.1 q.0 q.2 c args to l s2 k one box Null l3 s3
            ∙ (ap (λ (o : Option Ty). calls_on set.program callee id (Null ∷ []) to l3 s3 k (Box box) o) on.is
            ∙ asks_again c args to l s2 h _ _ _ _ on.asked (Box box ∷ Null ∷ []) to l3 s3 k);
        drops = leaf.none_drops set run pauses sound W marks form is_form agree of h heap m own there p to l s stack g callee c args s2 callee.result (sym sel.result ∙ shape.2);
      }

  wait_special : (id : MethodId) → if_there (method_at set.program id) ≡ Some callee → does set.program own (instr.Invokespecial id) to l s h ≡ Asks c args to l s2 h → native_of set.program c ≡ Some native.PutWait → type_step set.program own p (instr.Invokespecial id) (typing_at set.program m p) ≡ Ok g →
      args ≡ Box box ∷ Ref n ∷ [] → IsWaitCall (instr.Invokespecial id)
  wait_special id hp e named step are =
      let found = callee_there (method_at set.program id) callee hp in
      let q = sound id callee found.0 found.1 in
      let r = special_asked set.program own id callee found.0 to h q.1 q.0 q.2 c args to l s2 h l s e in
      let st = stack_is r.0 r.1 r.2 r.4 are in
      let one : length callee.params ≡ 1 = sym r.3 ∙ st.1 in
      let plain = leaf.not_constructor set run pauses sound W marks form is_form agree of h heap m own there p to l s stack g callee c args s2 id found.0 found.1 in
      let row = special_instance set.program own p callee (typing_at set.program m p) g id found.0 plain step in
      let sel : Selected set.program callee (special set.program own callee id) = ((facts_hold set.program run.keeps).specials own id callee found.0 row.0 plain row.1 row.2).0 in
      let shape = wait_of (special set.program own callee id) sel.method sel.there r.5.same named in
      record {
        is = st.0;
        param = shape.0.0;
        params = sym sel.params ∙ shape.0.1;
        dummy = shape.0.2;
        instance = row.0;
        names = found.0;
        plain = plain;
        again_asks = λ l3 s3.
            box_special_one set.program own id callee found.0 to k q.1 q.0 q.2 c args to l s2 k one box Null l3 s3
            ∙ asks_again c args to l s2 h _ _ _ _ r.5 (Box box ∷ Null ∷ []) to l3 s3 k;
        drops = leaf.none_drops set run pauses sound W marks form is_form agree of h heap m own there p to l s stack g callee c args s2 callee.result (sym sel.result ∙ shape.2);
      }

  wait_by : (i : Instr) → IsCall i → pausable_callee set.program i ≡ Some callee → does set.program own i to l s h ≡ Asks c args to l s2 h → native_of set.program c ≡ Some native.PutWait → type_step set.program own p i (typing_at set.program m p) ≡ Ok g → Receives set.program i s h → args ≡ Box box ∷ Ref n ∷ [] → IsWaitCall i
  wait_by i (OnClass id) hp e named step receives are = wait_virtual id hp e named step receives are
  wait_by i (Special id) hp e named step receives are = wait_special id hp e named step are
  wait_by i (Static id) hp e named step receives are =
      let found = callee_there (method_at set.program id) callee hp in
      let q = sound id callee found.0 found.1 in
      let r = static_asked set.program own id callee found.0 to h q.1 q.0 q.2 c args to l s2 h l s e in
      absurd (false≢true (sym (wait_of id callee found.0 r.4 named).1 ∙ static_static set.program own p callee (typing_at set.program m p) g id found.0 step))

  -- ---- the receiver is a mailbox, whatever stands above it

  box_receives : (i : Instr) → IsCall i → pausable_callee set.program i ≡ Some callee → s ≡ Ref n ∷ Box box ∷ s2 → length callee.params ≡ 1 → Receives set.program i s h → (v : Value) → Receives set.program i (v ∷ Box box ∷ s2) k
  box_receives i (OnClass id) hp is one receives v = λ a at x rest e ty class.
      let found = callee_there (method_at set.program id) callee hp in
      let same : a ≡ callee = method_is a callee (sym at ∙ found.0) in
      let many : length a.params ≡ 1 = ap (λ (z : Method). length z.params) same ∙ one in
      let parts = heads (Box box) x s2 rest (sym (ap (λ (j : ℕ). below_arguments j (v ∷ Box box ∷ s2)) many) ∙ e) in
      receives a at (Box box) s2 (ap (λ (j : ℕ). below_arguments j s) many ∙ ap (below_arguments 1) is) ty (ap (λ (z : Value). value_class set.program z k) parts.0 ∙ class)
  box_receives i (Special id) hp is one receives v = tt
  box_receives i (Static id) hp is one receives v = tt

  -- ---- the frame

  module _ (i : Instr) (f : fetch set.program m p ≡ Some (i, to)) (hp : pausable_callee set.program i ≡ Some callee) (receives : Receives set.program i s h) (slots : (j : ℕ) → Holds set.program own of (peek (typing_at set.program m p).locals j) (slice_get l j))
      (locals : (j : ℕ) → (form m).live to j ≡ true → (v : Value) → slice_get l j ≡ Some v → IsThere k v) (wl : List Value) (x : Value) (old : ℕ) (was : Value) (self_here : IsThere k x) where
    wait_fits : AreThere k s2 → IsWaitCall i → native_of set.program c ≡ Some native.PutWait → Fit set W marks form k (Leaf native.PutWait) (Box box) (Lk m p to i callee s2 l wl x old was)
    wait_fits here w named =
        let one : length callee.params ≡ 1 = ap (λ (tys : List Ty). length tys) w.params in
        let again_is : (s3 : List Value) → again callee (Box box) s3 ≡ Null ∷ Box box ∷ s3 =
        λ s3. ap (λ (tys : List Ty). with_dummies tys (with_receiver callee.is_static (Box box) s3)) w.params
        ∙ (ap (λ (z : Bool). with_dummies (w.param ∷ []) (with_receiver z (Box box) s3)) w.instance ∙ ap (λ (z : Value). z ∷ Box box ∷ s3) w.dummy) in
        let two : taken callee ≡ 2 = ap (λ (tys : List Ty). length tys + cond callee.is_static 0 1) w.params ∙ ap (λ (z : Bool). 1 + cond z 0 1) w.instance in
        let call = is_call set.program callee i hp in
        let received = box_receives i call hp w.is one receives in
        let receives_now : Receives set.program i s k = subst (λ (xs : List Value). Receives set.program i xs k) (sym w.is) (received (Ref n)) in
        let typed : have_types set.program own of (typing_at set.program m p).stack (Ref n ∷ Box box ∷ s2) ≡ true = subst (λ (xs : List Value). have_types set.program own of (typing_at set.program m p).stack xs ≡ true) w.is stack in
        let first = leaf.one_off set run pauses sound W marks form is_form agree of h heap m own there p to l s stack g callee c args s2 (typing_at set.program m p).stack (Ref n) (Box box ∷ s2) typed in
        let second = leaf.one_off set run pauses sound W marks form is_form agree of h heap m own there p to l s stack g callee c args s2 (drop 1 (typing_at set.program m p).stack) (Box box) s2 first.1 in
        let below_typed : have_types set.program own of (drop 2 (typing_at set.program m p).stack) s2 ≡ true = subst (λ (ts : List VType). have_types set.program own of ts s2 ≡ true) (one_dropped (typing_at set.program m p).stack) second.1 in
        let clean_all : Clean (Ref n ∷ Box box ∷ s2) = subst Clean w.is (stack_clean set.program (none_named set run pauses W marks form is_form agree of h heap) own of (typing_at set.program m p).stack s stack) in (
          leaf.stack_fits set run pauses sound W marks form is_form agree of k left m own there p to l s stack g callee c args s2 i f hp receives_now slots locals wl x old was self_here 2 two below_typed here,
          leaf.locals_fit set run pauses sound W marks form is_form agree of k left m own there p to l s stack g callee c args s2 i f hp receives_now slots locals wl x old was self_here,
          subst (λ (z : Bool). ReceiverFits set W marks form z k (receiver (plan_of set W marks form m) callee p) (Box box)) (sym w.instance)
              (subst (λ (y : Types). RefFits W k (first_of (drop (length callee.params) y.stack)) (Box box)) (sym (types_same set run pauses W marks form is_form agree of k left m own there p))
              (ref_fits set.program W agree (none_named set run pauses W marks form is_form agree of k left) of k left (heap_old set.program of k left) own (first_of (drop (length callee.params) (typing_at set.program m p).stack)) (class_type callee.owner.0)
              (receiver_assigns set run pauses W marks form is_form agree of k left m own there p to i callee f w.names w.instance w.plain) (Box box)
              (subst (λ (tys : List Ty). has_type set.program own of (first_of (drop (length tys) (typing_at set.program m p).stack)) (Box box) ≡ true) (sym w.params) second.0) tt)),
          (
            c,
            Box box ∷ Null ∷ [],
            (λ l3 s3.
                ap (λ (xs : List Value). does set.program (own_of set.program m) i to l3 xs k) (again_is s3)
                ∙ (leaf.own_same set run pauses sound W marks form is_form agree of k left m own there p to l s stack g callee c args s2 i f hp receives_now slots locals wl x old was self_here l3 (Null ∷ Box box ∷ s3) ∙ w.again_asks l3 s3)),
            named,
            (refl, w.drops),
          ),
          heap_old set.program of k left,
          record { clean = subst Clean (sym (again_is s2)) (λ e. absurd (cc), clean_all.1); receives = subst (λ (xs : List Value). Receives set.program i xs k) (sym (again_is s2)) (received Null) },
          subst (λ (xs : List Value). length xs ≤ stack_limit set.program m) (sym (again_is s2))
              (subst (λ (xs : List Value). length xs ≤ stack_limit set.program m) w.is (leaf.stack_low set run pauses sound W marks form is_form agree of k left m own there p to l s stack g callee c args s2 i f hp receives_now slots locals wl x old was self_here)),
          self_here,
        )

    pub fit_wait : AreThere k s2 → does set.program (own_of set.program m) i to l s h ≡ Asks c args to l s2 h → native_of set.program c ≡ Some native.PutWait → type_step set.program own p i (typing_at set.program m p) ≡ Ok g → args ≡ Box box ∷ Ref n ∷ [] →
        Fit set W marks form k (Leaf native.PutWait) (Box box) (Lk m p to i callee s2 l wl x old was)
    fit_wait here e named step are = wait_fits here (wait_by i (is_call set.program callee i hp) hp (sym (ap (λ (o : Option Method). does set.program (own_in o) i to l s h) there) ∙ e) named step receives are) named
