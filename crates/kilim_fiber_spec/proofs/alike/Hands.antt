-- A pausable call of the woven program does what that of the unwoven one does, with the fiber as its last argument.
use Rattle.std.proofs.Common.{◌≡◌, ◌≢◌, ℕ, zero, suc, Bool, true, false, List, [], ◌∷◌, ◌++◌, length, Option, Some, None, refl, sym, ap, ◌∙◌, arith}
use Rattle.std.specs.Prelude.{if◌then◌else◌, ◌||◌, reverse, codes}
use Rattle.std.specs.FinMap.{get}
use Rattle.std.proofs.lemmas.List.{reverse-append, length-append}
use Rattle.kilim_run_state.specs.declared.cause.EndCause.TheVariants as cause
use Rattle.kilim_program.specs.declared.class.Method.{Method}
use Rattle.kilim_program.specs.declared.instr.Instr.{Instr}
use Rattle.kilim_program.specs.declared.instr.Instr.TheVariants as instr
use Rattle.kilim_program.specs.declared.names.MethodId.{MethodId}
use Rattle.kilim_program.specs.declared.ty.Ty.{Ty}
use Rattle.kilim_run_state.specs.declared.value.Object.{Object}
use Rattle.kilim_program.specs.declared.value.Value.{Value}
use Rattle.kilim_program.specs.declared.value.Value.TheVariants.{Int, Long, Null, Ref, Text, Box, Fiber}
use Rattle.kilim_program.specs.Program.{Program}
use Rattle.kilim_run_state.specs.Machine.{Objects}
use Rattle.kilim_program.specs.Names.{method_at}
use Rattle.kilim_run_machine.specs.Effect.{Effect, Goes, Calls, Asks, Raises, with_some, on_value, on_values, as_receiver, as_class}
use Rattle.kilim_program.specs.Members.{named_type}
use Rattle.kilim_run_machine.specs.Does.{does, calls_method, calls_on, calls_text, chosen, special, takes_element}
use Rattle.kilim_run_machine.specs.Natives.{is_built_in_constructor, is_text_method, is_handed_out, is_message_constructor, is_get_message, is_of_message}
use Rattle.kilim_weave_spec.specs.Woven.{if_there, pausable_callee}
use Rattle.kilim_fiber_spec.specs.alike.Shares.{SharesCalls, Specials}
use Rattle.kilim_fiber_spec.specs.Rows.{handed, OldHeap, is_old_base, Clean, IsClean, below_arguments, class_if, value_class}
use Rattle.kilim_fiber_spec.proofs.alike.Handed.{asks_other}

none_is : {A : Type 0} (a : A) → None ≡ Some a → ⊥
none_is a e = cc

module _ (P W : Program) (fiber : Ty) (shares : SharesCalls P W fiber) (nx to : ℕ) (l wl : List Value) (heap : Objects) where
  H : Effect → Effect
  H e = handed nx wl e

  h_value : (s : List Value) (go : Value → List Value → Effect) → handed nx wl (on_value s go) ≡ on_value s (λ v r. handed nx wl (go v r))
  h_value [] go = refl
  h_value (v ∷ s) go = refl

  h_receiver : (v : Value) (go : Value → Effect) → handed nx wl (as_receiver v go) ≡ as_receiver v (λ x. handed nx wl (go x))
  h_receiver (Int x) go = refl
  h_receiver v go = refl

  -- the arguments, the fiber last
  h_values : (n : ℕ) (s : List Value) (go ho : List Value → List Value → Effect) → Clean s → ((vs r : List Value) → Clean r → ho vs r ≡ handed nx wl (go vs r)) → on_values n s ho ≡ handed nx wl (on_values n s go)
  h_values zero s go ho c h = h [] s c
  h_values (suc n) [] go ho c h = refl
  h_values (suc n) (v ∷ s) go ho c h = h_values n s (λ vs r. go (v ∷ vs) r) (λ vs r. ho (v ∷ vs) r) c.1 (λ vs r z. h (v ∷ vs) r z)

  -- with what stands below them
  h_values_at : (n : ℕ) (s : List Value) (go ho : List Value → List Value → Effect) → Clean s → ((vs r : List Value) → below_arguments n s ≡ r → Clean r → ho vs r ≡ handed nx wl (go vs r)) → on_values n s ho ≡ handed nx wl (on_values n s go)
  h_values_at zero s go ho c h = h [] s refl c
  h_values_at (suc n) [] go ho c h = refl
  h_values_at (suc n) (v ∷ s) go ho c h = h_values_at n s (λ vs r. go (v ∷ vs) r) (λ vs r. ho (v ∷ vs) r) c.1 (λ vs r e z. h (v ∷ vs) r e z)

  more : (b : Method) (a : Method) (s : List Value) (go : List Value → List Value → Effect) → b.params ≡ a.params ++ fiber ∷ [] → on_values (length b.params) (Fiber ∷ s) go ≡ on_values (length a.params) s (λ vs r. go (Fiber ∷ vs) r)
  more b a s go e =
      let n = length-append a.params (fiber ∷ []) in
      let m : length b.params ≡ suc (length a.params) = ap (λ (ps : List Ty). length ps) e ∙ n ∙ omega arith in
      ap (λ (k : ℕ). on_values k (Fiber ∷ s) go) m

  last : (vs : List Value) → reverse (Fiber ∷ vs) ≡ reverse vs ++ Fiber ∷ []
  last vs = reverse-append (Fiber ∷ []) vs

  -- the call of a method of P
  h_calls : (id : MethodId) (a : Method) → method_at P id ≡ Some a → is_of_message a ≡ false → (args s : List Value) → calls_method (method_at W id) id (args ++ Fiber ∷ []) nx wl s heap ≡ handed nx wl (calls_method (method_at P id) id args to l s heap)
  h_calls id a e other args s =
      let z = shares.built_in id a e in
      let its = ap (λ (t : Bool). t || is_get_message z.0) z.2.1 ∙ ap (λ (t : Bool). is_message_constructor a || t) z.2.2 ∙ other in
      ap (λ (o : Option Method). calls_method o id (args ++ Fiber ∷ []) nx wl s heap) z.1
      ∙ ap (λ (d : Effect). if z.0.built_in then d else Calls id (args ++ Fiber ∷ []) nx wl s heap) (asks_other z.0 id (args ++ Fiber ∷ []) nx wl s heap its)
      ∙ ap (λ (t : Bool). if t then Asks id (args ++ Fiber ∷ []) nx wl s heap else Calls id (args ++ Fiber ∷ []) nx wl s heap) z.2.0 ∙ kinds a.built_in
      ∙ ap (λ (d : Effect). handed nx wl (if a.built_in then d else Calls id args to l s heap)) (sym (asks_other a id args to l s heap other))
      ∙ ap (λ (o : Option Method). handed nx wl (calls_method o id args to l s heap)) (sym e)
    where
      kinds : (t : Bool) → (if t then Asks id (args ++ Fiber ∷ []) nx wl s heap else Calls id (args ++ Fiber ∷ []) nx wl s heap) ≡ handed nx wl (if t then Asks id args to l s heap else Calls id args to l s heap)
      kinds true = refl
      kinds false = refl

  h_if : (b : Bool) (d1 d2 e1 e2 : Effect) → d1 ≡ handed nx wl e1 → d2 ≡ handed nx wl e2 → (if b then d1 else d2) ≡ handed nx wl (if b then e1 else e2)
  h_if true d1 d2 e1 e2 h k = h
  h_if false d1 d2 e1 e2 h k = k

  -- the class of a receiver
  h_class : (old : OldHeap P heap) (v : Value) (go ho : Option Ty → Effect) → ((ty : Ty) → is_old_base P ty.base → value_class P v heap ≡ Some ty → ho (Some ty) ≡ handed nx wl (go (Some ty))) → ho None ≡ Raises cause.Null → go None ≡ Raises cause.Null
      → (v ≢ Fiber) → as_class W v heap ho ≡ handed nx wl (as_class P v heap go)
  h_class old (Int x) go ho h hn gn ne = refl
  h_class old (Long x) go ho h hn gn ne = refl
  h_class old Null go ho h hn gn ne = hn ∙ sym (ap (handed nx wl) gn)
  h_class old (Ref n) go ho h hn gn ne = by (get heap n) refl
    where
      by : (o : Option Object) → get heap n ≡ o → with_some o (λ object. ho (Some object.class)) ≡ handed nx wl (with_some o (λ object. go (Some object.class)))
      by None e = refl
      by (Some object) e = h object.class (old n object e) (ap class_if e)
  h_class old (Text u) go ho h hn gn ne = ap ho shares.same_text ∙ by (named_type P (codes "java/lang/String")) refl
    where
      by : (o : Option Ty) → named_type P (codes "java/lang/String") ≡ o → ho o ≡ handed nx wl (go o)
      by None e = hn ∙ sym (ap (handed nx wl) gn)
      by (Some ty) e = h ty (shares.text ty e) e
  h_class old (Box u) go ho h hn gn ne = ap ho shares.same_box ∙ by (named_type P (codes "kilim/Mailbox")) refl
    where
      by : (o : Option Ty) → named_type P (codes "kilim/Mailbox") ≡ o → ho o ≡ handed nx wl (go o)
      by None e = hn ∙ sym (ap (handed nx wl) gn)
      by (Some ty) e = h ty (shares.box ty e) e
  h_class old Fiber go ho h hn gn ne = absurd (ne refl)

  h_top : (s : List Value) (go ho : Value → List Value → Effect) → Clean s → ((v : Value) (r : List Value) → s ≡ v ∷ r → (v ≢ Fiber) → ho v r ≡ handed nx wl (go v r)) → on_value s ho ≡ handed nx wl (on_value s go)
  h_top [] go ho c h = refl
  h_top (v ∷ s) go ho c h = h v s refl c.0

  h_as_receiver : (v : Value) (go ho : Value → Effect) → ((u : Value) → ho u ≡ handed nx wl (go u)) → as_receiver v ho ≡ handed nx wl (as_receiver v go)
  h_as_receiver (Int x) go ho h = refl
  h_as_receiver (Long x) go ho h = refl
  h_as_receiver Null go ho h = refl
  h_as_receiver (Ref n) go ho h = h (Ref n)
  h_as_receiver (Text u) go ho h = h (Text u)
  h_as_receiver (Box u) go ho h = h (Box u)
  h_as_receiver Fiber go ho h = h Fiber

-- a pausable call names a pausable method
pub callee_is : (P : Program) (id : MethodId) (callee : Method) → if_there (method_at P id) ≡ Some callee → (a : Method) × (method_at P id ≡ Some a) × (a.pausable ≡ true)
callee_is P id callee h = by (method_at P id) refl
  where
    flag : (a : Method) (b : Bool) → a.pausable ≡ b → if_there (method_at P id) ≡ Some callee → method_at P id ≡ Some a → a.pausable ≡ true
    flag a true e h g = e
    flag a false e h g = let z : None ≡ Some callee = sym (ap if_there g ∙ ap (λ (t : Bool). if t then Some a else None) e) ∙ h in absurd (cc)

    by : (o : Option Method) → method_at P id ≡ o → (a : Method) × (method_at P id ≡ Some a) × (a.pausable ≡ true)
    by None e = let z : None ≡ Some callee = sym (ap if_there e) ∙ h in absurd (cc)
    by (Some a) e = (a, e, flag a a.pausable refl h e)

pub hands : (P W : Program) (mine its : Method) (fiber : Ty) → SharesCalls P W fiber
    → (i : Instr) (callee : Method) (to nx : ℕ) (l wl s : List Value) (heap : Objects) → pausable_callee P i ≡ Some callee
    → ((id : MethodId) (a b : Method) → i ≡ instr.Invokespecial id → method_at P id ≡ Some a → a.pausable ≡ true → method_at W id ≡ Some b → Specials P W mine its id a b)
    → OldHeap P heap → IsClean P i s heap → does W its i nx wl (Fiber ∷ s) heap ≡ handed nx wl (does P mine i to l s heap)
unfolding does
hands P W mine its fiber shares (instr.Invokevirtual id) callee to nx l wl s heap hp sp old clean =
    let k = callee_is P id callee hp in
    let a = k.0 in
    let z = shares.changed id a k.1 k.2 in
    let b = z.method in
    ap (λ (o : Option Method). with_some o (λ method. on_values (length method.params) (Fiber ∷ s) (λ args below. on_value below (λ receiver rest. if is_text_method W method then calls_text method (reverse args) nx wl rest heap receiver else as_class W receiver heap (calls_on W method id (reverse args) nx wl rest heap receiver))))) z.there
    ∙ ap (λ (t : Bool). on_values (length b.params) (Fiber ∷ s) (λ args below. on_value below (λ receiver rest. if t then calls_text b (reverse args) nx wl rest heap receiver else as_class W receiver heap (calls_on W b id (reverse args) nx wl rest heap receiver)))) z.still_no_text
    ∙ more P W fiber shares nx to l wl heap b a s (λ args below. on_value below (λ receiver rest. as_class W receiver heap (calls_on W b id (reverse args) nx wl rest heap receiver))) z.params
    ∙ h_values_at P W fiber shares nx to l wl heap (length a.params) s
    (λ args below. on_value below (λ receiver rest. as_class P receiver heap (calls_on P a id (reverse args) to l rest heap receiver)))
    (λ args below. on_value below (λ receiver rest. as_class W receiver heap (calls_on W b id (reverse (Fiber ∷ args)) nx wl rest heap receiver))) clean.clean
    (λ vs r below c. h_top P W fiber shares nx to l wl heap r _ _ c (λ v rest top ne.
    h_class P W fiber shares nx to l wl heap old v (calls_on P a id (reverse vs) to l rest heap v) (calls_on W b id (reverse (Fiber ∷ vs)) nx wl rest heap v)
    (λ ty is_old class.
    let fits = clean.receives a k.1 v rest (below ∙ top) ty class in
    let q = z.selected ty fits in
    ap (λ (args : List Value). calls_method (method_at W (chosen W b id ty)) (chosen W b id ty) (v ∷ args) nx wl rest heap) (last P W fiber shares nx to l wl heap vs)
    ∙ ap (λ (t : MethodId). calls_method (method_at W t) t (v ∷ (reverse vs ++ Fiber ∷ [])) nx wl rest heap) (z.agrees ty is_old fits)
    ∙ h_calls P W fiber shares nx to l wl heap (chosen P a id ty) q.0 q.1 q.2 (v ∷ reverse vs) rest)
    refl refl ne))
    ∙ ap (λ (t : Bool). handed nx wl (on_values (length a.params) s (λ args below. on_value below (λ receiver rest. if t then calls_text a (reverse args) to l rest heap receiver else as_class P receiver heap (calls_on P a id (reverse args) to l rest heap receiver))))) (sym z.no_text)
    ∙ ap (λ (o : Option Method). handed nx wl (with_some o (λ method. on_values (length method.params) s (λ args below. on_value below (λ receiver rest. if is_text_method P method then calls_text method (reverse args) to l rest heap receiver else as_class P receiver heap (calls_on P method id (reverse args) to l rest heap receiver)))))) (sym k.1)
hands P W mine its fiber shares (instr.Invokespecial id) callee to nx l wl s heap hp sp old clean =
    let k = callee_is P id callee hp in
    let a = k.0 in
    let z = shares.changed id a k.1 k.2 in
    let b = z.method in
    let q = sp id a b refl k.1 k.2 z.there in
    ap (λ (o : Option Method). with_some o (λ method. if is_built_in_constructor method then on_value (Fiber ∷ s) (λ v rest. as_receiver v (λ receiver. Goes nx wl rest heap)) else on_values (length method.params) (Fiber ∷ s) (λ args below. on_value below (λ v rest. as_receiver v (λ receiver. calls_method (method_at W (special W its method id)) (special W its method id) (receiver ∷ reverse args) nx wl rest heap))))) z.there
    ∙ ap (λ (t : Bool). if t then on_value (Fiber ∷ s) (λ v rest. as_receiver v (λ receiver. Goes nx wl rest heap)) else on_values (length b.params) (Fiber ∷ s) (λ args below. on_value below (λ v rest. as_receiver v (λ receiver. calls_method (method_at W (special W its b id)) (special W its b id) (receiver ∷ reverse args) nx wl rest heap)))) z.still_plain
    ∙ ap (λ (t : MethodId). on_values (length b.params) (Fiber ∷ s) (λ args below. on_value below (λ v rest. as_receiver v (λ receiver. calls_method (method_at W t) t (receiver ∷ reverse args) nx wl rest heap)))) q.agrees
    ∙ more P W fiber shares nx to l wl heap b a s (λ args below. on_value below (λ v rest. as_receiver v (λ receiver. calls_method (method_at W (special P mine a id)) (special P mine a id) (receiver ∷ reverse args) nx wl rest heap))) z.params
    ∙ h_values P W fiber shares nx to l wl heap (length a.params) s
    (λ args below. on_value below (λ v rest. as_receiver v (λ receiver. calls_method (method_at P (special P mine a id)) (special P mine a id) (receiver ∷ reverse args) to l rest heap)))
    (λ args below. on_value below (λ v rest. as_receiver v (λ receiver. calls_method (method_at W (special P mine a id)) (special P mine a id) (receiver ∷ reverse (Fiber ∷ args)) nx wl rest heap))) clean.clean
    (λ vs r c. h_top P W fiber shares nx to l wl heap r
    (λ v rest. as_receiver v (λ receiver. calls_method (method_at P (special P mine a id)) (special P mine a id) (receiver ∷ reverse vs) to l rest heap))
    (λ v rest. as_receiver v (λ receiver. calls_method (method_at W (special P mine a id)) (special P mine a id) (receiver ∷ reverse (Fiber ∷ vs)) nx wl rest heap)) c
    (λ v rest top ne. h_as_receiver P W fiber shares nx to l wl heap v
    (λ receiver. calls_method (method_at P (special P mine a id)) (special P mine a id) (receiver ∷ reverse vs) to l rest heap)
    (λ receiver. calls_method (method_at W (special P mine a id)) (special P mine a id) (receiver ∷ reverse (Fiber ∷ vs)) nx wl rest heap)
    (λ u.
    ap (λ (args : List Value). calls_method (method_at W (special P mine a id)) (special P mine a id) (u ∷ args) nx wl rest heap) (last P W fiber shares nx to l wl heap vs)
    ∙ h_calls P W fiber shares nx to l wl heap (special P mine a id) q.there.0 q.there.1 q.there.2 (u ∷ reverse vs) rest)))
    ∙ ap (λ (t : Bool). handed nx wl (if t then on_value s (λ v rest. as_receiver v (λ receiver. Goes to l rest heap)) else on_values (length a.params) s (λ args below. on_value below (λ v rest. as_receiver v (λ receiver. calls_method (method_at P (special P mine a id)) (special P mine a id) (receiver ∷ reverse args) to l rest heap))))) (sym z.plain)
    ∙ ap (λ (o : Option Method). handed nx wl (with_some o (λ method. if is_built_in_constructor method then on_value s (λ v rest. as_receiver v (λ receiver. Goes to l rest heap)) else on_values (length method.params) s (λ args below. on_value below (λ v rest. as_receiver v (λ receiver. calls_method (method_at P (special P mine method id)) (special P mine method id) (receiver ∷ reverse args) to l rest heap)))))) (sym k.1)
hands P W mine its fiber shares (instr.Invokestatic id) callee to nx l wl s heap hp sp old clean =
    let k = callee_is P id callee hp in
    let a = k.0 in
    let z = shares.changed id a k.1 k.2 in
    let b = z.method in
    ap (λ (o : Option Method). with_some o (λ method. if is_handed_out W method then on_values (length method.params) (Fiber ∷ s) (λ args rest. Asks id (reverse args) nx wl rest heap) else (if method.built_in then takes_element nx wl (Fiber ∷ s) heap else on_values (length method.params) (Fiber ∷ s) (λ args rest. Calls id (reverse args) nx wl rest heap)))) z.there
    ∙ ap (λ (t : Bool). if t then on_values (length b.params) (Fiber ∷ s) (λ args rest. Asks id (reverse args) nx wl rest heap) else (if b.built_in then takes_element nx wl (Fiber ∷ s) heap else on_values (length b.params) (Fiber ∷ s) (λ args rest. Calls id (reverse args) nx wl rest heap))) (z.still_handed_out ∙ z.built_in)
    ∙ ap (λ (t : Bool). if a.built_in then on_values (length b.params) (Fiber ∷ s) (λ args rest. Asks id (reverse args) nx wl rest heap) else (if t then takes_element nx wl (Fiber ∷ s) heap else on_values (length b.params) (Fiber ∷ s) (λ args rest. Calls id (reverse args) nx wl rest heap))) z.built_in
    ∙ kinds a.built_in _ _ _ _ _
    (more P W fiber shares nx to l wl heap b a s (λ args rest. Asks id (reverse args) nx wl rest heap) z.params
    ∙ h_values P W fiber shares nx to l wl heap (length a.params) s (λ args rest. Asks id (reverse args) to l rest heap) (λ args rest. Asks id (reverse (Fiber ∷ args)) nx wl rest heap) clean.clean
    (λ vs r c. ap (λ (args : List Value). Asks id args nx wl r heap) (last P W fiber shares nx to l wl heap vs)))
    (more P W fiber shares nx to l wl heap b a s (λ args rest. Calls id (reverse args) nx wl rest heap) z.params
    ∙ h_values P W fiber shares nx to l wl heap (length a.params) s (λ args rest. Calls id (reverse args) to l rest heap) (λ args rest. Calls id (reverse (Fiber ∷ args)) nx wl rest heap) clean.clean
    (λ vs r c. ap (λ (args : List Value). Calls id args nx wl r heap) (last P W fiber shares nx to l wl heap vs)))
    ∙ ap (λ (t : Bool). handed nx wl (if t then on_values (length a.params) s (λ args rest. Asks id (reverse args) to l rest heap) else (if a.built_in then takes_element to l s heap else on_values (length a.params) s (λ args rest. Calls id (reverse args) to l rest heap)))) (sym z.handed_out)
    ∙ ap (λ (o : Option Method). handed nx wl (with_some o (λ method. if is_handed_out P method then on_values (length method.params) s (λ args rest. Asks id (reverse args) to l rest heap) else (if method.built_in then takes_element to l s heap else on_values (length method.params) s (λ args rest. Calls id (reverse args) to l rest heap))))) (sym k.1)
  where
    kinds : (t : Bool) (A B C x y : Effect) → A ≡ handed nx wl x → C ≡ handed nx wl y → (if t then A else (if t then B else C)) ≡ handed nx wl (if t then x else (if t then takes_element to l s heap else y))
    kinds true A B C x y h k = h
    kinds false A B C x y h k = k
hands P W mine its fiber shares i callee to nx l wl s heap hp sp old clean = absurd (none_is callee hp)
