-- The call at which a frame stands, made again with dummies for arguments, enters the same method with the same receiver.
use Rattle.std.proofs.Common.{◌≡◌, cond, ℕ, Bool, true, false, List, ◌∷◌, length, Option, Some, None, refl, sym, ap, ◌∙◌}
use Rattle.std.specs.Prelude.{◌&&◌, ◌||◌, not, reverse}
use Rattle.std.proofs.lemmas.Bool.{false≢true}
use Rattle.kilim_program.specs.declared.class.Method.{Method}
use Rattle.kilim_program.specs.declared.instr.Instr.{Instr}
use Rattle.kilim_program.specs.declared.instr.Instr.TheVariants as instr
use Rattle.kilim_program.specs.declared.names.MethodId.{MethodId}
use Rattle.kilim_program.specs.declared.ty.Ty.{Ty}
use Rattle.kilim_program.specs.declared.value.Value.{Value}
use Rattle.kilim_program.specs.declared.value.Value.TheVariants.{Box, Fiber, Int, Long, Null, Ref, Text}
use Rattle.kilim_program.specs.Names.{method_at}
use Rattle.kilim_program.specs.Program.{Program}
use Rattle.kilim_type_sound.specs.Fits.{Classes, HeapFits, IsThere}
use Rattle.kilim_isolation_pauses.specs.Pausing.{called}
use Rattle.kilim_run_state.specs.declared.value.Object.{Object as HeapObject}
use Rattle.kilim_run_machine.specs.Does.{calls_built_in, calls_method, calls_on, calls_text, does, special, takes_element}
use Rattle.kilim_run_machine.specs.Effect.{Asks, Calls, Effect, Goes, as_class, as_receiver, on_value, on_values, with_some}
use Rattle.kilim_run_state.specs.Machine.{Objects}
use Rattle.kilim_run_machine.specs.Natives.{is_built_in_constructor, is_handed_out, is_of_message, is_take, is_text_method}
use Rattle.kilim_fiber_laws.specs.receivers.called.Law.{Target, class_named, is_object}
use Rattle.kilim_fiber_laws.proofs.woven_served.ready.Dummies.{dummies_taken}
use Rattle.kilim_fiber_laws.specs.woven_served.ready.Law.{dummies_down, new_args}
use Rattle.kilim_fiber_spec.specs.Links.{again, with_dummies, with_receiver}

module _ (p : Program) (of : Classes) (h : Objects) (heap : HeapFits p of h) where
  some_is : (x y : Ty) → Some x ≡ Some y → x ≡ y
  some_is x y e = cc

  none_is : (x : Ty) → None ≡ Some x → ⊥
  none_is x e = cc

  -- the class of a receiver is as it was
  class_now : (y : Value) (ty : Ty) → class_named p of y ≡ Some ty → IsThere h y → (go : Option Ty → Effect) → as_class p y h go ≡ go (Some ty)
  class_now (Int x) ty e t go = absurd (none_is ty e)
  class_now (Long x) ty e t go = absurd (none_is ty e)
  class_now Null ty e t go = absurd (none_is ty e)
  class_now (Ref n) ty e t go =
      let same = some_is t.0.class ty (sym (heap.classes n t.0 t.1) ∙ e) in
      ap (λ (o : Option HeapObject). with_some o (λ object. go (Some object.class))) t.1 ∙ ap (λ (c : Ty). go (Some c)) same
  class_now (Text units) ty e t go = ap go e
  class_now (Box box) ty e t go = ap go e
  class_now Fiber ty e t go = ap go e

  receiver_now : (y : Value) → is_object y ≡ true → (go : Value → Effect) → as_receiver y go ≡ go y
  receiver_now (Int x) e go = absurd (false≢true e)
  receiver_now (Long x) e go = absurd (false≢true e)
  receiver_now Null e go = absurd (false≢true e)
  receiver_now (Ref n) e go = refl
  receiver_now (Text units) e go = refl
  receiver_now (Box box) e go = refl
  receiver_now Fiber e go = refl

  method_now : (c : MethodId) (callee : Method) (args : List Value) (to : ℕ) (l s : List Value) → method_at p c ≡ Some callee → callee.built_in ≡ false → calls_method (method_at p c) c args to l s h ≡ Calls c args to l s h
  method_now c callee args to l s there coded =
      ap (λ (o : Option Method). calls_method o c args to l s h) there ∙ ap (λ (z : Bool). cond z (calls_built_in callee c args to l s h) (Calls c args to l s h)) coded

  module _ (own : Method) (named : Method) (c : MethodId) (callee : Method) (entered : method_at p c ≡ Some callee) (coded : callee.built_in ≡ false) (y : Value) (there : IsThere h y) (to : ℕ) (l s : List Value) where
    on_object : named.is_static ≡ false → again named y s ≡ with_dummies named.params (y ∷ s)
    on_object e = ap (λ (z : Bool). with_dummies named.params (with_receiver z y s)) e

    by_args : named.is_static ≡ false → y ∷ reverse (dummies_down named.params) ≡ new_args named y
    by_args e = sym (ap (λ (z : Bool). cond z (reverse (dummies_down named.params)) (y ∷ reverse (dummies_down named.params))) e)

    virtual_again : (id : MethodId) → method_at p id ≡ Some named → Target p of own (instr.Invokevirtual id) named c y → does p own (instr.Invokevirtual id) to l (again named y s) h ≡ Calls c (y ∷ reverse (dummies_down named.params)) to l s h
    unfolding does
    virtual_again id at t =
        ap (λ (o : Option Method). with_some o (λ method. on_values (length method.params) (again named y s) (λ args below. on_value below (λ receiver rest. cond (is_text_method p method) (calls_text method (reverse args) to l rest h receiver) (as_class p receiver h (calls_on p method id (reverse args) to l rest h receiver)))))) at
        ∙ (ap (λ (st : List Value). on_values (length named.params) st (λ args below. on_value below (λ receiver rest. cond (is_text_method p named) (calls_text named (reverse args) to l rest h receiver) (as_class p receiver h (calls_on p named id (reverse args) to l rest h receiver))))) (on_object t.0)
        ∙ (dummies_taken named.params (y ∷ s) (λ args below. on_value below (λ receiver rest. cond (is_text_method p named) (calls_text named (reverse args) to l rest h receiver) (as_class p receiver h (calls_on p named id (reverse args) to l rest h receiver))))
        ∙ (ap (λ (z : Bool). cond z (calls_text named (reverse (dummies_down named.params)) to l s h y) (as_class p y h (calls_on p named id (reverse (dummies_down named.params)) to l s h y))) t.1
        ∙ (class_now y t.2.0 t.2.1 there (calls_on p named id (reverse (dummies_down named.params)) to l s h y)
        ∙ (ap (λ (k : MethodId). calls_method (method_at p k) k (y ∷ reverse (dummies_down named.params)) to l s h) (sym t.2.3)
        ∙ method_now c callee (y ∷ reverse (dummies_down named.params)) to l s entered coded)))))

    special_again : (id : MethodId) → method_at p id ≡ Some named → Target p of own (instr.Invokespecial id) named c y → does p own (instr.Invokespecial id) to l (again named y s) h ≡ Calls c (y ∷ reverse (dummies_down named.params)) to l s h
    unfolding does
    special_again id at t =
        ap (λ (o : Option Method). with_some o (λ method. cond (is_built_in_constructor method) (on_value (again named y s) (λ v rest. as_receiver v (λ receiver. Goes to l rest h)))
        (on_values (length method.params) (again named y s) (λ args below. on_value below (λ v rest. as_receiver v (λ receiver. calls_method (method_at p (special p own method id)) (special p own method id) (receiver ∷ reverse args) to l rest h)))))) at
        ∙ (ap (λ (z : Bool). cond z (on_value (again named y s) (λ v rest. as_receiver v (λ receiver. Goes to l rest h)))
        (on_values (length named.params) (again named y s) (λ args below. on_value below (λ v rest. as_receiver v (λ receiver. calls_method (method_at p (special p own named id)) (special p own named id) (receiver ∷ reverse args) to l rest h))))) t.3
        ∙ (ap (λ (st : List Value). on_values (length named.params) st (λ args below. on_value below (λ v rest. as_receiver v (λ receiver. calls_method (method_at p (special p own named id)) (special p own named id) (receiver ∷ reverse args) to l rest h)))) (on_object t.0)
        ∙ (dummies_taken named.params (y ∷ s) (λ args below. on_value below (λ v rest. as_receiver v (λ receiver. calls_method (method_at p (special p own named id)) (special p own named id) (receiver ∷ reverse args) to l rest h)))
        ∙ (receiver_now y t.1 (λ receiver. calls_method (method_at p (special p own named id)) (special p own named id) (receiver ∷ reverse (dummies_down named.params)) to l s h)
        ∙ (ap (λ (k : MethodId). calls_method (method_at p k) k (y ∷ reverse (dummies_down named.params)) to l s h) (sym t.2)
        ∙ method_now c callee (y ∷ reverse (dummies_down named.params)) to l s entered coded)))))

    static_again : (id : MethodId) → method_at p id ≡ Some named → Target p of own (instr.Invokestatic id) named c y → does p own (instr.Invokestatic id) to l (again named y s) h ≡ Calls c (reverse (dummies_down named.params)) to l s h
    unfolding does
    static_again id at t =
        ap (λ (o : Option Method). with_some o (λ method. cond (is_handed_out p method) (on_values (length method.params) (again named y s) (λ args rest. Asks id (reverse args) to l rest h)) (cond method.built_in (takes_element to l (again named y s) h) (on_values (length method.params) (again named y s) (λ args rest. Calls id (reverse args) to l rest h))))) at
        ∙ (ap (λ (z : Bool). cond z (on_values (length named.params) (again named y s) (λ args rest. Asks id (reverse args) to l rest h)) (cond named.built_in (takes_element to l (again named y s) h) (on_values (length named.params) (again named y s) (λ args rest. Calls id (reverse args) to l rest h)))) not_out
        ∙ (ap (λ (z : Bool). cond z (takes_element to l (again named y s) h) (on_values (length named.params) (again named y s) (λ args rest. Calls id (reverse args) to l rest h))) t.3
        ∙ (ap (λ (z : Bool). on_values (length named.params) (with_dummies named.params (with_receiver z y s)) (λ args rest. Calls id (reverse args) to l rest h)) t.2
        ∙ (dummies_taken named.params s (λ args rest. Calls id (reverse args) to l rest h)
        ∙ ap (λ (k : MethodId). Calls k (reverse (dummies_down named.params)) to l s h) (sym t.0)))))
      where
        not_out : is_handed_out p named ≡ false
        not_out = ap (λ (z : Bool). z && not (is_built_in_constructor named || (is_text_method p named || (is_take p named || is_of_message named)))) t.3

    pub redone : (i : Instr) → called p i ≡ Some named → Target p of own i named c y → does p own i to l (again named y s) h ≡ Calls c (new_args named y) to l s h
    redone (instr.Invokevirtual id) at t = virtual_again id at t ∙ ap (λ (args : List Value). Calls c args to l s h) (by_args t.0)
    redone (instr.Invokespecial id) at t = special_again id at t ∙ ap (λ (args : List Value). Calls c args to l s h) (by_args t.0)
    redone (instr.Invokestatic id) at t = static_again id at t ∙ ap (λ (args : List Value). Calls c args to l s h) (sym (ap (λ (z : Bool). cond z (reverse (dummies_down named.params)) (y ∷ reverse (dummies_down named.params))) t.2))
    redone i at t = absurd t
