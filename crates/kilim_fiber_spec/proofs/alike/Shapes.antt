-- What a pausable call can do.
use Rattle.std.proofs.Common.{◌≡◌, ◌≢◌, ℕ, zero, suc, Bool, true, false, List, [], ◌∷◌, length, Option, Some, None, refl, sym, ap, subst, ◌∙◌}
use Rattle.std.specs.Prelude.{if◌then◌else◌, reverse, codes}
use Rattle.std.specs.FinMap.{get}
use Rattle.kilim_run_state.specs.declared.cause.EndCause.TheVariants as cause
use Rattle.kilim_program.specs.declared.class.Method.{Method}
use Rattle.kilim_program.specs.declared.instr.Instr.{Instr}
use Rattle.kilim_program.specs.declared.instr.Instr.TheVariants as instr
use Rattle.kilim_program.specs.declared.names.MethodId.{MethodId}
use Rattle.kilim_program.specs.declared.ty.Ty.{Ty}
use Rattle.kilim_run_state.specs.declared.value.Object.{Object}
use Rattle.kilim_program.specs.declared.value.Value.{Value}
use Rattle.kilim_program.specs.declared.value.Value.TheVariants.{Int, Long, Null, Ref, Text, Box, Fiber}
use Rattle.kilim_program.specs.Program.{Program}
use Rattle.kilim_run_state.specs.Machine.{Objects}
use Rattle.kilim_program.specs.Names.{method_at}
use Rattle.kilim_run_machine.specs.Effect.{Effect, Goes, Calls, Asks, with_some, on_value, on_values, as_receiver, as_class}
use Rattle.kilim_run_machine.specs.Does.{does, calls_method, calls_on, calls_text, chosen, special, takes_element}
use Rattle.kilim_run_machine.specs.Natives.{is_built_in_constructor, is_text_method, is_handed_out, is_of_message}
use Rattle.kilim_program.specs.Members.{named_type}
use Rattle.kilim_weave_spec.specs.Woven.{pausable_callee}
use Rattle.kilim_fiber_spec.specs.alike.Shares.{SharesCalls, Specials}
use Rattle.kilim_fiber_spec.specs.Rows.{Clean, IsClean, below_arguments, class_if, value_class}
use Rattle.kilim_fiber_spec.specs.Serves.{Shape, IsCall, IsNative, IsRaise, IsStuck}
use Rattle.kilim_fiber_spec.proofs.alike.Handed.{asks_other}
use Rattle.kilim_fiber_spec.proofs.alike.Hands.{callee_is}

none_is : {A : Type 0} (a : A) → None ≡ Some a → ⊥
none_is a e = cc

module _ (P W : Program) (fiber : Ty) (shares : SharesCalls P W fiber) (to : ℕ) (l : List Value) (heap : Objects) where
  Sh : Effect → Type 0
  Sh e = Shape to l heap e

  s_calls_method : (id : MethodId) (a : Method) → method_at P id ≡ Some a → is_of_message a ≡ false → (args s : List Value) → Shape to l heap (calls_method (method_at P id) id args to l s heap)
  s_calls_method id a e other args s =
      subst (λ (o : Option Method). Shape to l heap (calls_method o id args to l s heap)) (sym e)
      (subst (λ (d : Effect). Shape to l heap (if a.built_in then d else Calls id args to l s heap)) (sym (asks_other a id args to l s heap other)) (kinds a.built_in))
    where
      kinds : (t : Bool) → Shape to l heap (if t then Asks id args to l s heap else Calls id args to l s heap)
      kinds true = IsNative id args s refl
      kinds false = IsCall id args s refl

  s_values : (n : ℕ) (s : List Value) (go : List Value → List Value → Effect) → ((vs r : List Value) → Shape to l heap (go vs r)) → Shape to l heap (on_values n s go)
  s_values zero s go h = h [] s
  s_values (suc n) [] go h = IsStuck refl
  s_values (suc n) (v ∷ s) go h = s_values n s (λ vs r. go (v ∷ vs) r) (λ vs r. h (v ∷ vs) r)

  -- with what stands below them
  s_values_at : (n : ℕ) (s : List Value) (go : List Value → List Value → Effect) → ((vs r : List Value) → below_arguments n s ≡ r → Shape to l heap (go vs r)) → Shape to l heap (on_values n s go)
  s_values_at zero s go h = h [] s refl
  s_values_at (suc n) [] go h = IsStuck refl
  s_values_at (suc n) (v ∷ s) go h = s_values_at n s (λ vs r. go (v ∷ vs) r) (λ vs r e. h (v ∷ vs) r e)

  s_top : (s : List Value) (go : Value → List Value → Effect) → ((v : Value) (r : List Value) → s ≡ v ∷ r → (v ≢ Fiber) → Shape to l heap (go v r)) → Clean s → Shape to l heap (on_value s go)
  s_top [] go h c = IsStuck refl
  s_top (v ∷ s) go h c = h v s refl c.0

  s_value : (s : List Value) (go : Value → List Value → Effect) → ((v : Value) (r : List Value) → Shape to l heap (go v r)) → Shape to l heap (on_value s go)
  s_value [] go h = IsStuck refl
  s_value (v ∷ s) go h = h v s

  s_receiver : (v : Value) (go : Value → Effect) → ((u : Value) → Shape to l heap (go u)) → Shape to l heap (as_receiver v go)
  s_receiver (Int x) go h = IsStuck refl
  s_receiver (Long x) go h = IsStuck refl
  s_receiver Null go h = IsRaise cause.Null refl
  s_receiver (Ref n) go h = h (Ref n)
  s_receiver (Text u) go h = h (Text u)
  s_receiver (Box u) go h = h (Box u)
  s_receiver Fiber go h = h Fiber

  s_class : (v : Value) (go : Option Ty → Effect) → (v ≢ Fiber) → Shape to l heap (go None) → ((ty : Ty) → value_class P v heap ≡ Some ty → Shape to l heap (go (Some ty))) → Shape to l heap (as_class P v heap go)
  s_class (Int x) go ne n h = IsStuck refl
  s_class (Long x) go ne n h = IsStuck refl
  s_class Null go ne n h = n
  s_class (Ref k) go ne n h = by (get heap k) refl
    where
      by : (o : Option Object) → get heap k ≡ o → Shape to l heap (with_some o (λ object. go (Some object.class)))
      by None e = IsStuck refl
      by (Some object) e = h object.class (ap class_if e)
  s_class (Text u) go ne n h = by (named_type P (codes "java/lang/String")) refl
    where
      by : (o : Option Ty) → named_type P (codes "java/lang/String") ≡ o → Shape to l heap (go o)
      by None e = n
      by (Some ty) e = h ty e
  s_class (Box u) go ne n h = by (named_type P (codes "kilim/Mailbox")) refl
    where
      by : (o : Option Ty) → named_type P (codes "kilim/Mailbox") ≡ o → Shape to l heap (go o)
      by None e = n
      by (Some ty) e = h ty e
  s_class Fiber go ne n h = absurd (ne refl)

  clean_below : (n : ℕ) (s r : List Value) → below_arguments n s ≡ r → Clean s → Clean r
  clean_below zero s r e c = subst Clean e c
  clean_below (suc n) [] r e c = subst Clean e tt
  clean_below (suc n) (v ∷ s) r e c = clean_below n s r e c.1

  -- no constructor, no method of strings and not `kilim/Sys.take` is pausable
  pub shapes : (own its : Method) → ((id : MethodId) (a : Method) → method_at P id ≡ Some a → a.pausable ≡ true → (is_built_in_constructor a ≡ false) × (is_text_method P a ≡ false) × (is_handed_out P a ≡ a.built_in))
      → (i : Instr) (callee : Method) (s : List Value) → pausable_callee P i ≡ Some callee
      → ((id : MethodId) (a b : Method) → i ≡ instr.Invokespecial id → method_at P id ≡ Some a → a.pausable ≡ true → method_at W id ≡ Some b → Specials P W own its id a b)
      → IsClean P i s heap → Shape to l heap (does P own i to l s heap)
  unfolding does
  shapes own its sound (instr.Invokevirtual id) callee s hp sp clean =
      let k = callee_is P id callee hp in
      let z = sound id k.0 k.1 k.2 in
      let a = shares.changed id k.0 k.1 k.2 in
      subst (λ (o : Option Method). Shape to l heap (with_some o (λ method. on_values (length method.params) s (λ args below. on_value below (λ receiver rest. if is_text_method P method then calls_text method (reverse args) to l rest heap receiver else as_class P receiver heap (calls_on P method id (reverse args) to l rest heap receiver)))))) (sym k.1)
      (subst (λ (t : Bool). Shape to l heap (on_values (length k.0.params) s (λ args below. on_value below (λ receiver rest. if t then calls_text k.0 (reverse args) to l rest heap receiver else as_class P receiver heap (calls_on P k.0 id (reverse args) to l rest heap receiver))))) (sym z.1)
      (s_values_at (length k.0.params) s (λ args below. on_value below (λ receiver rest. as_class P receiver heap (calls_on P k.0 id (reverse args) to l rest heap receiver)))
      (λ vs r below. s_top r (λ receiver rest. as_class P receiver heap (calls_on P k.0 id (reverse vs) to l rest heap receiver))
      (λ v rest top ne. s_class v (calls_on P k.0 id (reverse vs) to l rest heap v) ne (IsRaise cause.Null refl)
      (λ ty class.
      let b = a.selected ty (clean.receives k.0 k.1 v rest (below ∙ top) ty class) in
      s_calls_method (chosen P k.0 id ty) b.0 b.1 b.2 (v ∷ reverse vs) rest))
      (clean_below (length k.0.params) s r below clean.clean))))
  shapes own its sound (instr.Invokestatic id) callee s hp sp clean =
      let k = callee_is P id callee hp in
      let z = sound id k.0 k.1 k.2 in
      subst (λ (o : Option Method). Shape to l heap (with_some o (λ method. if is_handed_out P method then on_values (length method.params) s (λ args rest. Asks id (reverse args) to l rest heap) else (if method.built_in then takes_element to l s heap else on_values (length method.params) s (λ args rest. Calls id (reverse args) to l rest heap))))) (sym k.1)
      (subst (λ (t : Bool). Shape to l heap (if t then on_values (length k.0.params) s (λ args rest. Asks id (reverse args) to l rest heap) else (if k.0.built_in then takes_element to l s heap else on_values (length k.0.params) s (λ args rest. Calls id (reverse args) to l rest heap)))) (sym z.2)
      (kinds k.0 k.0.built_in))
    where
      kinds : (a : Method) (t : Bool) → Shape to l heap (if t then on_values (length a.params) s (λ args rest. Asks id (reverse args) to l rest heap) else (if t then takes_element to l s heap else on_values (length a.params) s (λ args rest. Calls id (reverse args) to l rest heap)))
      kinds a true = s_values (length a.params) s _ (λ vs r. IsNative id (reverse vs) r refl)
      kinds a false = s_values (length a.params) s _ (λ vs r. IsCall id (reverse vs) r refl)
  shapes own its sound (instr.Invokespecial id) callee s hp sp clean =
      let k = callee_is P id callee hp in
      let z = sound id k.0 k.1 k.2 in
      let q = (sp id k.0 (shares.changed id k.0 k.1 k.2).method refl k.1 k.2 (shares.changed id k.0 k.1 k.2).there).there in
      subst (λ (o : Option Method). Shape to l heap (with_some o (λ method. if is_built_in_constructor method then on_value s (λ v rest. as_receiver v (λ receiver. Goes to l rest heap)) else on_values (length method.params) s (λ args below. on_value below (λ v rest. as_receiver v (λ receiver. calls_method (method_at P (special P own method id)) (special P own method id) (receiver ∷ reverse args) to l rest heap)))))) (sym k.1)
      (subst (λ (t : Bool). Shape to l heap (if t then on_value s (λ v rest. as_receiver v (λ receiver. Goes to l rest heap)) else on_values (length k.0.params) s (λ args below. on_value below (λ v rest. as_receiver v (λ receiver. calls_method (method_at P (special P own k.0 id)) (special P own k.0 id) (receiver ∷ reverse args) to l rest heap))))) (sym z.0)
      (s_values (length k.0.params) s _ (λ vs r. s_value r _ (λ v rest. s_receiver v _ (λ u. s_calls_method (special P own k.0 id) q.0 q.1 q.2 (u ∷ reverse vs) rest)))))
  shapes own its sound i callee s hp sp clean = absurd (none_is callee hp)
