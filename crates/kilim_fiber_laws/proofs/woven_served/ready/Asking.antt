-- What a pausable call of `get` or of `yield` is, where it asks the built-in method.
use Rattle.std.proofs.Common.{◌≡◌, cond, ℕ, zero, suc, Bool, true, false, List, [], ◌∷◌, ◌++◌, length, Option, Some, None, refl, sym, ap, subst, ◌∙◌}
use Rattle.std.specs.Prelude.{◌||◌, codes, reverse}
use Rattle.std.specs.FinMap.{get}
use Rattle.kilim_program.specs.declared.class.Method.{Method}
use Rattle.kilim_program.specs.declared.instr.Instr.TheVariants as instr
use Rattle.kilim_program.specs.declared.names.MethodId.{MethodId}
use Rattle.kilim_program.specs.declared.ty.Ty.{Ty}
use Rattle.kilim_program.specs.declared.value.Value.{Value}
use Rattle.kilim_program.specs.declared.value.Value.TheVariants.{Box, Fiber, Int, Long, Null, Ref, Text}
use Rattle.kilim_program.specs.Names.{method_at}
use Rattle.kilim_program.specs.Program.{Program}
use Rattle.kilim_run_state.specs.declared.value.Object.{Object as HeapObject}
use Rattle.kilim_run_machine.specs.Does.{calls_method, calls_on, calls_text, chosen, does, gives_message, keeps_message, special, takes_element}
use Rattle.kilim_run_machine.specs.Effect.{Asks, Calls, Effect, Goes, Raises, Stuck, as_class, as_receiver, on_value, on_values, with_some}
use Rattle.kilim_program.specs.Members.{named_type}
use Rattle.kilim_run_state.specs.Machine.{Objects}
use Rattle.kilim_run_machine.specs.Natives.{is_built_in_constructor, is_get_message, is_handed_out, is_message_constructor, is_of_message, is_text_method}
use Rattle.kilim_fiber_spec.proofs.alike.Handed.{asks_other}
use Rattle.kilim_fiber_spec.proofs.alike.Lands.{hushed, q_index, q_int, q_object, q_some, q_value}

-- ---- what an effect that asks comes from

module _ (c : MethodId) (args : List Value) (q : ℕ) (l2 s2 : List Value) (h2 : Objects) where
  pub not_stuck : Stuck ≡ Asks c args q l2 s2 h2 → ⊥
  not_stuck e = cc

  not_raised : (why : _) → Raises why ≡ Asks c args q l2 s2 h2 → ⊥
  not_raised why e = cc

  pub not_called : (k : MethodId) (xs : List Value) (p : ℕ) (l s : List Value) (h : Objects) → Calls k xs p l s h ≡ Asks c args q l2 s2 h2 → ⊥
  not_called k xs p l s h e = cc

  -- what keeps and gives the message of an exception asks nothing
  not_kept : (xs : List Value) (p : ℕ) (l r : List Value) (h : Objects) → keeps_message xs p l r h ≡ Asks c args q l2 s2 h2 → ⊥
  not_kept [] p l r h e = not_stuck e
  not_kept (v ∷ []) p l r h e = not_stuck e
  not_kept (v ∷ w ∷ []) p l r h e =
      let quiet : hushed (keeps_message (v ∷ w ∷ []) p l r h) ≡ keeps_message (v ∷ w ∷ []) p l r h = simp (q_object, q_some) in
      not_stuck (sym (ap hushed e) ∙ (quiet ∙ e))
  not_kept (v ∷ w ∷ x ∷ xs) p l r h e = not_stuck e

  not_given : (xs : List Value) (p : ℕ) (l r : List Value) (h : Objects) → gives_message xs p l r h ≡ Asks c args q l2 s2 h2 → ⊥
  not_given [] p l r h e = not_stuck e
  not_given (v ∷ []) p l r h e =
      let quiet : hushed (gives_message (v ∷ []) p l r h) ≡ gives_message (v ∷ []) p l r h = simp (q_object, q_some) in
      not_stuck (sym (ap hushed e) ∙ (quiet ∙ e))
  not_given (v ∷ w ∷ xs) p l r h e = not_stuck e

  -- the topmost values, and those below
  pub record IsSplit (n : ℕ) (s : List Value) (go : List Value → List Value → Effect) : Type 0 where
    pub top : List Value
    pub rest : List Value
    pub is : s ≡ top ++ rest
    pub long : length top ≡ n
    pub asks : go top rest ≡ Asks c args q l2 s2 h2

  pub split : (n : ℕ) (s : List Value) (go : List Value → List Value → Effect) → on_values n s go ≡ Asks c args q l2 s2 h2 → IsSplit n s go
  split zero s go e = record { top = []; rest = s; is = refl; long = refl; asks = e }
  split (suc n) [] go e = absurd (not_stuck e)
  split (suc n) (v ∷ s) go e =
      let r = split n s (λ vs below. go (v ∷ vs) below) e in
      record { top = v ∷ r.top; rest = r.rest; is = ap (λ (xs : List Value). v ∷ xs) r.is; long = ap suc r.long; asks = r.asks }

  pub record IsFirst (s : List Value) (go : Value → List Value → Effect) : Type 0 where
    pub value : Value
    pub rest : List Value
    pub is : s ≡ value ∷ rest
    pub asks : go value rest ≡ Asks c args q l2 s2 h2

  pub first : (s : List Value) (go : Value → List Value → Effect) → on_value s go ≡ Asks c args q l2 s2 h2 → IsFirst s go
  first [] go e = absurd (not_stuck e)
  first (v ∷ s) go e = record { value = v; rest = s; is = refl; asks = e }

  -- the method that is asked
  pub record IsMethod (o : Option Method) (k : MethodId) (xs r : List Value) : Type 0 where
    pub method : Method
    pub there : o ≡ Some method
    pub built_in : method.built_in ≡ true
    pub no_message : is_of_message method ≡ false
    pub same : k ≡ c
    pub args_are : xs ≡ args
    pub rest_is : r ≡ s2

  asked_parts : (k : MethodId) (xs : List Value) (p : ℕ) (l r : List Value) (h : Objects) → Asks k xs p l r h ≡ Asks c args q l2 s2 h2 → (k ≡ c) × (xs ≡ args) × (r ≡ s2)
  asked_parts k xs p l r h e = (cc, cc, cc)

  pub method_of : (o : Option Method) (k : MethodId) (xs : List Value) (p : ℕ) (l r : List Value) (h : Objects) → calls_method o k xs p l r h ≡ Asks c args q l2 s2 h2 → IsMethod o k xs r
  method_of None k xs p l r h e = absurd (not_stuck e)
  method_of (Some m) k xs p l r h e = by m.built_in (is_message_constructor m) (is_get_message m) refl refl refl e
    where
      by : (z keeps gives : Bool) → m.built_in ≡ z → is_message_constructor m ≡ keeps → is_get_message m ≡ gives
          → cond z (cond keeps (keeps_message xs p l r h) (cond gives (gives_message xs p l r h) (Asks k xs p l r h))) (Calls k xs p l r h) ≡ Asks c args q l2 s2 h2 → IsMethod (Some m) k xs r
      by true true gives b keeps_is gives_is e = absurd (not_kept xs p l r h e)
      by true false true b keeps_is gives_is e = absurd (not_given xs p l r h e)
      by true false false b keeps_is gives_is e =
          let a = asked_parts k xs p l r h e in
          record { method = m; there = refl; built_in = b; no_message = ap (λ (z : Bool). z || is_get_message m) keeps_is ∙ gives_is; same = a.0; args_are = a.1; rest_is = a.2 }
      by false keeps gives b keeps_is gives_is e = absurd (not_called k xs p l r h e)

  -- called again, on any stack
  pub asks_again : (o : Option Method) (k : MethodId) (xs r : List Value) → IsMethod o k xs r → (ys : List Value) (p : ℕ) (l s : List Value) (h : Objects) → calls_method o k ys p l s h ≡ Asks c ys p l s h
  asks_again o k xs r is ys p l s h =
      ap (λ (o : Option Method). calls_method o k ys p l s h) is.there
      ∙ (ap (λ (d : Effect). cond is.method.built_in d (Calls k ys p l s h)) (asks_other is.method k ys p l s h is.no_message)
      ∙ (ap (λ (z : Bool). cond z (Asks k ys p l s h) (Calls k ys p l s h)) is.built_in
      ∙ ap (λ (x : MethodId). Asks x ys p l s h) is.same))

  -- the class on which a call asks
  pub record IsOn (p : Program) (named : Method) (id : MethodId) (xs r : List Value) (v : Value) (o : Option Ty) : Type 0 where
    pub class : Ty
    pub is : o ≡ Some class
    pub asked : IsMethod (method_at p (chosen p named id class)) (chosen p named id class) (v ∷ xs) r

  pub on_class : (p : Program) (named : Method) (id : MethodId) (xs : List Value) (to : ℕ) (l r : List Value) (h : Objects) (v : Value) (o : Option Ty) → calls_on p named id xs to l r h v o ≡ Asks c args q l2 s2 h2 → IsOn p named id xs r v o
  on_class p named id xs to l r h v None e = absurd (not_raised _ e)
  on_class p named id xs to l r h v (Some ty) e = record { class = ty; is = refl; asked = method_of (method_at p (chosen p named id ty)) (chosen p named id ty) (v ∷ xs) to l r h e }

  -- a call on a value comes to some class
  pub some_class : (p : Program) (v : Value) (h : Objects) (go : Option Ty → Effect) → as_class p v h go ≡ Asks c args q l2 s2 h2 → (o : Option Ty) × (go o ≡ Asks c args q l2 s2 h2)
  some_class p (Int x) h go e = absurd (not_stuck e)
  some_class p (Long x) h go e = absurd (not_stuck e)
  some_class p Null h go e = (None, e)
  some_class p (Ref n) h go e = by (get h n) e
    where
      by : (o : Option HeapObject) → with_some o (λ object. go (Some object.class)) ≡ Asks c args q l2 s2 h2 → (o : Option Ty) × (go o ≡ Asks c args q l2 s2 h2)
      by None e = absurd (not_stuck e)
      by (Some object) e = (Some object.class, e)
  some_class p (Text units) h go e = (named_type p (codes "java/lang/String"), e)
  some_class p (Box box) h go e = (named_type p (codes "kilim/Mailbox"), e)
  some_class p Fiber h go e = (named_type p (codes "kilim/Fiber"), e)

  pub some_receiver : (v : Value) (go : Value → Effect) → as_receiver v go ≡ Asks c args q l2 s2 h2 → go v ≡ Asks c args q l2 s2 h2
  some_receiver (Int x) go e = absurd (not_stuck e)
  some_receiver (Long x) go e = absurd (not_stuck e)
  some_receiver Null go e = absurd (not_raised _ e)
  some_receiver (Ref n) go e = e
  some_receiver (Text units) go e = e
  some_receiver (Box box) go e = e
  some_receiver Fiber go e = e

  -- an element that is taken asks nothing
  pub not_taken : (to : ℕ) (l s : List Value) (h : Objects) → takes_element to l s h ≡ Asks c args q l2 s2 h2 → ⊥
  not_taken to l s h e =
      let quiet : hushed (takes_element to l s h) ≡ takes_element to l s h = simp (q_value, q_int, q_object, q_index) in
      not_stuck (sym (ap hushed e) ∙ (quiet ∙ e))

-- ---- calls by kind

module _ (p : Program) (own : Method) (id : MethodId) (named : Method) (at : method_at p id ≡ Some named) (to : ℕ) (h : Objects) (no_text : is_text_method p named ≡ false) (plain : is_built_in_constructor named ≡ false) (out : is_handed_out p named ≡ named.built_in) (c : MethodId) (args : List Value) (q : ℕ) (l2 s2 : List Value) (h2 : Objects) where
  virtual_is : (l s : List Value) → does p own (instr.Invokevirtual id) to l s h ≡ on_values (length named.params) s (λ vs below. on_value below (λ receiver rest. cond (is_text_method p named) (calls_text named (reverse vs) to l rest h receiver) (as_class p receiver h (calls_on p named id (reverse vs) to l rest h receiver))))
  unfolding does
  virtual_is l s = ap (λ (o : Option Method). with_some o (λ method. on_values (length method.params) s (λ args below. on_value below (λ receiver rest. cond (is_text_method p method) (calls_text method (reverse args) to l rest h receiver) (as_class p receiver h (calls_on p method id (reverse args) to l rest h receiver)))))) at

  -- the call on a mailbox without parameters, on any stack
  pub box_virtual : named.params ≡ [] → (b : _) → (l s : List Value) → does p own (instr.Invokevirtual id) to l (Box b ∷ s) h ≡ calls_on p named id [] to l s h (Box b) (named_type p (codes "kilim/Mailbox"))
  box_virtual none b l s =
      virtual_is l (Box b ∷ s)
      ∙ (ap (λ (tys : List Ty). on_values (length tys) (Box b ∷ s) (λ vs below. on_value below (λ receiver rest. cond (is_text_method p named) (calls_text named (reverse vs) to l rest h receiver) (as_class p receiver h (calls_on p named id (reverse vs) to l rest h receiver))))) none
      ∙ ap (λ (z : Bool). cond z (calls_text named (reverse []) to l s h (Box b)) (as_class p (Box b) h (calls_on p named id (reverse []) to l s h (Box b)))) no_text)

  special_is : (l s : List Value) → does p own (instr.Invokespecial id) to l s h ≡ on_values (length named.params) s (λ vs below. on_value below (λ v rest. as_receiver v (λ receiver. calls_method (method_at p (special p own named id)) (special p own named id) (receiver ∷ reverse vs) to l rest h)))
  unfolding does
  special_is l s =
      ap (λ (o : Option Method). with_some o (λ method. cond (is_built_in_constructor method) (on_value s (λ v rest. as_receiver v (λ receiver. Goes to l rest h)))
      (on_values (length method.params) s (λ args below. on_value below (λ v rest. as_receiver v (λ receiver. calls_method (method_at p (special p own method id)) (special p own method id) (receiver ∷ reverse args) to l rest h)))))) at
      ∙ ap (λ (z : Bool). cond z (on_value s (λ v rest. as_receiver v (λ receiver. Goes to l rest h)))
      (on_values (length named.params) s (λ vs below. on_value below (λ v rest. as_receiver v (λ receiver. calls_method (method_at p (special p own named id)) (special p own named id) (receiver ∷ reverse vs) to l rest h))))) plain

  pub box_special : named.params ≡ [] → (b : _) → (l s : List Value) → does p own (instr.Invokespecial id) to l (Box b ∷ s) h ≡ calls_method (method_at p (special p own named id)) (special p own named id) (Box b ∷ []) to l s h
  box_special none b l s =
      special_is l (Box b ∷ s)
      ∙ ap (λ (tys : List Ty). on_values (length tys) (Box b ∷ s) (λ vs below. on_value below (λ v rest. as_receiver v (λ receiver. calls_method (method_at p (special p own named id)) (special p own named id) (receiver ∷ reverse vs) to l rest h)))) none

  -- the same with one argument
  pub box_virtual_one : length named.params ≡ 1 → (b : _) (v : Value) → (l s : List Value) → does p own (instr.Invokevirtual id) to l (v ∷ Box b ∷ s) h ≡ calls_on p named id (v ∷ []) to l s h (Box b) (named_type p (codes "kilim/Mailbox"))
  box_virtual_one one b v l s =
      virtual_is l (v ∷ Box b ∷ s)
      ∙ (ap (λ (n : ℕ). on_values n (v ∷ Box b ∷ s) (λ vs below. on_value below (λ receiver rest. cond (is_text_method p named) (calls_text named (reverse vs) to l rest h receiver) (as_class p receiver h (calls_on p named id (reverse vs) to l rest h receiver))))) one
      ∙ ap (λ (z : Bool). cond z (calls_text named (reverse (v ∷ [])) to l s h (Box b)) (as_class p (Box b) h (calls_on p named id (reverse (v ∷ [])) to l s h (Box b)))) no_text)

  pub box_special_one : length named.params ≡ 1 → (b : _) (v : Value) → (l s : List Value) → does p own (instr.Invokespecial id) to l (v ∷ Box b ∷ s) h ≡ calls_method (method_at p (special p own named id)) (special p own named id) (Box b ∷ v ∷ []) to l s h
  box_special_one one b v l s =
      special_is l (v ∷ Box b ∷ s)
      ∙ ap (λ (n : ℕ). on_values n (v ∷ Box b ∷ s) (λ vs below. on_value below (λ u rest. as_receiver u (λ receiver. calls_method (method_at p (special p own named id)) (special p own named id) (receiver ∷ reverse vs) to l rest h)))) one

  static_is : (l s : List Value) → does p own (instr.Invokestatic id) to l s h ≡ cond named.built_in (on_values (length named.params) s (λ vs rest. Asks id (reverse vs) to l rest h)) (cond named.built_in (takes_element to l s h) (on_values (length named.params) s (λ vs rest. Calls id (reverse vs) to l rest h)))
  unfolding does
  static_is l s =
      ap (λ (o : Option Method). with_some o (λ method. cond (is_handed_out p method) (on_values (length method.params) s (λ args rest. Asks id (reverse args) to l rest h)) (cond method.built_in (takes_element to l s h) (on_values (length method.params) s (λ args rest. Calls id (reverse args) to l rest h))))) at
      ∙ ap (λ (z : Bool). cond z (on_values (length named.params) s (λ vs rest. Asks id (reverse vs) to l rest h)) (cond named.built_in (takes_element to l s h) (on_values (length named.params) s (λ vs rest. Calls id (reverse vs) to l rest h)))) out

  pub virtual_asked : (l s : List Value) → does p own (instr.Invokevirtual id) to l s h ≡ Asks c args q l2 s2 h2 →
      (top : List Value) × (v : Value) × (o : Option Ty) × (s ≡ top ++ v ∷ s2) × (length top ≡ length named.params) × (args ≡ v ∷ reverse top) × IsOn c args q l2 s2 h2 p named id (reverse top) s2 v o
  virtual_asked l s e =
      let a = split c args q l2 s2 h2 (length named.params) s (λ vs below. on_value below (λ receiver rest. cond (is_text_method p named) (calls_text named (reverse vs) to l rest h receiver) (as_class p receiver h (calls_on p named id (reverse vs) to l rest h receiver)))) (sym (virtual_is l s) ∙ e) in
      let b = first c args q l2 s2 h2 a.rest (λ receiver rest. cond (is_text_method p named) (calls_text named (reverse a.top) to l rest h receiver) (as_class p receiver h (calls_on p named id (reverse a.top) to l rest h receiver))) a.asks in
      let d : as_class p b.value h (calls_on p named id (reverse a.top) to l b.rest h b.value) ≡ Asks c args q l2 s2 h2 =
      sym (ap (λ (z : Bool). cond z (calls_text named (reverse a.top) to l b.rest h b.value) (as_class p b.value h (calls_on p named id (reverse a.top) to l b.rest h b.value))) no_text) ∙ b.asks in
      let f = some_class c args q l2 s2 h2 p b.value h (calls_on p named id (reverse a.top) to l b.rest h b.value) d in
      let g = on_class c args q l2 s2 h2 p named id (reverse a.top) to l b.rest h b.value f.0 f.1 in (
        a.top,
        b.value,
        f.0,
        a.is ∙ ap (λ (xs : List Value). a.top ++ xs) (b.is ∙ ap (λ (xs : List Value). b.value ∷ xs) g.asked.rest_is),
        a.long,
        sym g.asked.args_are,
        subst (λ (xs : List Value). IsOn c args q l2 s2 h2 p named id (reverse a.top) xs b.value f.0) g.asked.rest_is g,
      )

  pub special_asked : (l s : List Value) → does p own (instr.Invokespecial id) to l s h ≡ Asks c args q l2 s2 h2 →
      (top : List Value) × (v : Value) × (s ≡ top ++ v ∷ s2) × (length top ≡ length named.params) × (args ≡ v ∷ reverse top) × IsMethod c args q l2 s2 h2 (method_at p (special p own named id)) (special p own named id) (v ∷ reverse top) s2
  special_asked l s e =
      let a = split c args q l2 s2 h2 (length named.params) s (λ vs below. on_value below (λ v rest. as_receiver v (λ receiver. calls_method (method_at p (special p own named id)) (special p own named id) (receiver ∷ reverse vs) to l rest h))) (sym (special_is l s) ∙ e) in
      let b = first c args q l2 s2 h2 a.rest (λ v rest. as_receiver v (λ receiver. calls_method (method_at p (special p own named id)) (special p own named id) (receiver ∷ reverse a.top) to l rest h)) a.asks in
      let d = some_receiver c args q l2 s2 h2 b.value (λ receiver. calls_method (method_at p (special p own named id)) (special p own named id) (receiver ∷ reverse a.top) to l b.rest h) b.asks in
      let g = method_of c args q l2 s2 h2 (method_at p (special p own named id)) (special p own named id) (b.value ∷ reverse a.top) to l b.rest h d in (
        a.top,
        b.value,
        a.is ∙ ap (λ (xs : List Value). a.top ++ xs) (b.is ∙ ap (λ (xs : List Value). b.value ∷ xs) g.rest_is),
        a.long,
        sym g.args_are,
        subst (λ (xs : List Value). IsMethod c args q l2 s2 h2 (method_at p (special p own named id)) (special p own named id) (b.value ∷ reverse a.top) xs) g.rest_is g,
      )

  pub static_asked : (l s : List Value) → does p own (instr.Invokestatic id) to l s h ≡ Asks c args q l2 s2 h2 →
      (top : List Value) × (s ≡ top ++ s2) × (length top ≡ length named.params) × (args ≡ reverse top) × (id ≡ c) × (named.built_in ≡ true)
  static_asked l s e = by named.built_in refl (sym (static_is l s) ∙ e)
    where
      by : (z : Bool) → named.built_in ≡ z → cond z (on_values (length named.params) s (λ vs rest. Asks id (reverse vs) to l rest h)) (cond z (takes_element to l s h) (on_values (length named.params) s (λ vs rest. Calls id (reverse vs) to l rest h))) ≡ Asks c args q l2 s2 h2 →
          (top : List Value) × (s ≡ top ++ s2) × (length top ≡ length named.params) × (args ≡ reverse top) × (id ≡ c) × (named.built_in ≡ true)
      by true built e =
          let a = split c args q l2 s2 h2 (length named.params) s (λ vs rest. Asks id (reverse vs) to l rest h) e in
          let d = asked_parts c args q l2 s2 h2 id (reverse a.top) to l a.rest h a.asks in
          (a.top, a.is ∙ ap (λ (xs : List Value). a.top ++ xs) d.2, a.long, sym d.1, d.0, built)
      by false built e =
          let a = split c args q l2 s2 h2 (length named.params) s (λ vs rest. Calls id (reverse vs) to l rest h) e in
          absurd (not_called c args q l2 s2 h2 id (reverse a.top) to l a.rest h a.asks)

  pub static_again : named.params ≡ [] → named.built_in ≡ true → (l s : List Value) → does p own (instr.Invokestatic id) to l s h ≡ Asks id [] to l s h
  static_again none built l s =
      static_is l s ∙ (ap (λ (z : Bool). cond z (on_values (length named.params) s (λ vs rest. Asks id (reverse vs) to l rest h)) (cond named.built_in (takes_element to l s h) (on_values (length named.params) s (λ vs rest. Calls id (reverse vs) to l rest h)))) built
      ∙ ap (λ (tys : List Ty). on_values (length tys) s (λ vs rest. Asks id (reverse vs) to l rest h)) none)
