-- What is asked at a mailbox doesn't depend on the heap.
use Rattle.std.proofs.Common.{◌≡◌, ℕ, zero, suc, Bool, true, false, cond, List, [], ◌∷◌, Option, Some, None, length, refl}
use Rattle.std.specs.Prelude.{ℤ, pos, negsuc, reverse, slice_get}
use Rattle.std.specs.FinMap.{get}
use Rattle.std.proofs.lemmas.Bool.{false≢true}
use Rattle.kilim_program.specs.declared.class.Method.{Method}
use Rattle.kilim_program.specs.Program.{Program}
use Rattle.kilim_program.specs.declared.instr.Instr.{Instr}
use Rattle.kilim_program.specs.declared.instr.Instr.TheVariants.{Invokevirtual, Invokespecial, Invokestatic}
use Rattle.kilim_program.specs.declared.names.MethodId.{MethodId}
use Rattle.kilim_program.specs.declared.ty.Ty.{Ty}
use Rattle.kilim_program.specs.declared.value.Value.{Value}
use Rattle.kilim_program.specs.declared.value.Value.TheVariants.{Int, Long, Null, Ref, Text, Box, Fiber}
use Rattle.kilim_program.specs.BuiltIn.{message_field}
use Rattle.kilim_run_state.specs.Shapes.{field_in}
use Rattle.kilim_program.specs.Names.{method_at}
use Rattle.kilim_program.specs.Lengths.{fetched}
use Rattle.kilim_run_state.specs.declared.value.Object.{Object}
use Rattle.kilim_run_state.specs.Machine.{Objects, Activation}
use Rattle.kilim_run_machine.specs.Natives.{is_built_in_constructor, is_get_message, is_handed_out, is_message_constructor, is_text_method}
use Rattle.kilim_run_machine.specs.Effect.{Effect, Goes, Makes, Opens, Calls, Asks, Returns, Raises, Throws, Ends, Stuck, with_some, on_value, on_values, on_receiver, as_receiver, as_class, text_of}
use Rattle.kilim_run_machine.specs.Does.{does, chosen, calls_built_in, calls_method, calls_on, gives_message, keeps_message, special, calls_text, takes_element, text_answers, at_unit, unit_at}
use Rattle.kilim_run_machine.specs.Moves.{effect_of, effect_in, effect_found}
use Rattle.kilim_isolation_laws.proofs.at_rest.Quiet.{NoAsk, AsksNothing, is_call, no_if, no_when, no_some, no_int, no_receiver, no_on_int, no_object, no_on_object, no_on_receiver, no_index, no_ask}

-- what a mailbox alone is asked, the other one asks too, on its own heap
abbrev pub SameAsk : Objects → Effect → Effect → Type 0
SameAsk k (Asks m [] place locals stack heap) d = Unit {0}
SameAsk k (Asks m (Int x ∷ vs) place locals stack heap) d = Unit {0}
SameAsk k (Asks m (Long x ∷ vs) place locals stack heap) d = Unit {0}
SameAsk k (Asks m (Null ∷ vs) place locals stack heap) d = Unit {0}
SameAsk k (Asks m (Ref n ∷ vs) place locals stack heap) d = Unit {0}
SameAsk k (Asks m (Text units ∷ vs) place locals stack heap) d = Unit {0}
SameAsk k (Asks m (Fiber ∷ vs) place locals stack heap) d = Unit {0}
SameAsk k (Asks m (Box box ∷ vs) place locals stack heap) d = d ≡ Asks m (Box box ∷ vs) place locals stack k
SameAsk k (Goes place locals stack heap) d = Unit {0}
SameAsk k (Makes object place locals stack heap) d = Unit {0}
SameAsk k (Opens place locals stack heap) d = Unit {0}
SameAsk k (Calls m args place locals stack heap) d = Unit {0}
SameAsk k (Returns value heap) d = Unit {0}
SameAsk k (Raises cause) d = Unit {0}
SameAsk k (Throws object class cause) d = Unit {0}
SameAsk k (Ends cause) d = Unit {0}
SameAsk k Stuck d = Unit {0}

pub record AsksSame (k : Objects) (e d : Effect) : Type 0 where
  pub same : SameAsk k e d

nothing_same : (k : Objects) (e d : Effect) → AsksNothing e → SameAsk k e d
nothing_same k (Goes place locals stack heap) d h = tt
nothing_same k (Makes object place locals stack heap) d h = tt
nothing_same k (Opens place locals stack heap) d h = tt
nothing_same k (Calls m args place locals stack heap) d h = tt
nothing_same k (Asks m args place locals stack heap) d h = absurd h
nothing_same k (Returns value heap) d h = tt
nothing_same k (Raises cause) d h = tt
nothing_same k (Throws object class cause) d h = tt
nothing_same k (Ends cause) d h = tt
nothing_same k Stuck d h = tt

quiet_same : (k : Objects) (e d : Effect) → NoAsk e → AsksSame k e d
quiet_same k e d h = record { same = nothing_same k e d h.holds }

module _ (h k : Objects) where
  args_same : (m : MethodId) (args : List Value) (place : ℕ) (locals stack : List Value) → SameAsk k (Asks m args place locals stack h) (Asks m args place locals stack k)
  args_same m [] place locals stack = tt
  args_same m (Int x ∷ vs) place locals stack = tt
  args_same m (Long x ∷ vs) place locals stack = tt
  args_same m (Null ∷ vs) place locals stack = tt
  args_same m (Ref n ∷ vs) place locals stack = tt
  args_same m (Text units ∷ vs) place locals stack = tt
  args_same m (Fiber ∷ vs) place locals stack = tt
  args_same m (Box box ∷ vs) place locals stack = refl

  asks_same : (m : MethodId) (args : List Value) (place : ℕ) (locals stack : List Value) → AsksSame k (Asks m args place locals stack h) (Asks m args place locals stack k)
  asks_same m args place locals stack = record { same = args_same m args place locals stack }

  if_same : (b : Bool) (x y u v : Effect) → AsksSame k x u → AsksSame k y v → AsksSame k (cond b x y) (cond b u v)
  if_same true x y u v p q = p
  if_same false x y u v p q = q

  some_same : {A : Type 0} (o : Option A) (go ho : A → Effect) → ((x : A) → AsksSame k (go x) (ho x)) → AsksSame k (with_some o go) (with_some o ho)
  some_same None go ho f = record { same = tt }
  some_same (Some x) go ho f = f x

  value_same : (st : List Value) (go ho : Value → List Value → Effect) → ((v : Value) (rest : List Value) → AsksSame k (go v rest) (ho v rest)) → AsksSame k (on_value st go) (on_value st ho)
  value_same [] go ho f = record { same = tt }
  value_same (v ∷ rest) go ho f = f v rest

  values_same : (n : ℕ) (st : List Value) (go ho : List Value → List Value → Effect) → ((vs rest : List Value) → AsksSame k (go vs rest) (ho vs rest)) → AsksSame k (on_values n st go) (on_values n st ho)
  values_same zero st go ho f = f [] st
  values_same (suc n) st go ho f =
      value_same st (λ v rest. on_values n rest (λ vs below. go (v ∷ vs) below)) (λ v rest. on_values n rest (λ vs below. ho (v ∷ vs) below))
      (λ v rest. values_same n rest (λ vs below. go (v ∷ vs) below) (λ vs below. ho (v ∷ vs) below) (λ vs below. f (v ∷ vs) below))

  receiver_same : (v : Value) (go ho : Value → Effect) → ((r : Value) → AsksSame k (go r) (ho r)) → AsksSame k (as_receiver v go) (as_receiver v ho)
  receiver_same (Int x) go ho f = record { same = tt }
  receiver_same (Long x) go ho f = record { same = tt }
  receiver_same Null go ho f = record { same = tt }
  receiver_same (Ref n) go ho f = f (Ref n)
  receiver_same (Text units) go ho f = f (Text units)
  receiver_same (Box box) go ho f = f (Box box)
  receiver_same Fiber go ho f = f Fiber

  on_receiver_same : (st : List Value) (go ho : Value → List Value → Effect) → ((r : Value) (rest : List Value) → AsksSame k (go r rest) (ho r rest)) → AsksSame k (on_receiver st go) (on_receiver st ho)
  on_receiver_same st go ho f =
      value_same st (λ v rest. as_receiver v (λ r. go r rest)) (λ v rest. as_receiver v (λ r. ho r rest)) (λ v rest. receiver_same v (λ r. go r rest) (λ r. ho r rest) (λ r. f r rest))

  keeps_quiet : (args : List Value) (next : ℕ) (locals rest : List Value) → NoAsk (keeps_message args next locals rest h)
  keeps_quiet [] next locals rest = record { holds = tt }
  keeps_quiet (v ∷ []) next locals rest = record { holds = tt }
  keeps_quiet (v ∷ w ∷ []) next locals rest = no_object v h _ (λ n object. no_some (field_in object.fields message_field) _ (λ old. record { holds = tt }))
  keeps_quiet (v ∷ w ∷ x ∷ xs) next locals rest = record { holds = tt }

  gives_quiet : (args : List Value) (next : ℕ) (locals rest : List Value) → NoAsk (gives_message args next locals rest h)
  gives_quiet [] next locals rest = record { holds = tt }
  gives_quiet (v ∷ []) next locals rest = no_object v h _ (λ n object. no_some (field_in object.fields message_field) _ (λ w. record { holds = tt }))
  gives_quiet (v ∷ w ∷ ws) next locals rest = record { holds = tt }

  method_same : (o : Option Method) (m : MethodId) (args : List Value) (next : ℕ) (locals rest : List Value) → AsksSame k (calls_method o m args next locals rest h) (calls_method o m args next locals rest k)
  method_same None m args next locals rest = record { same = tt }
  method_same (Some method) m args next locals rest =
      if_same method.built_in (calls_built_in method m args next locals rest h) (Calls m args next locals rest h) (calls_built_in method m args next locals rest k) (Calls m args next locals rest k)
      (if_same (is_message_constructor method) _ _ _ _ (quiet_same k _ _ (keeps_quiet args next locals rest)) (if_same (is_get_message method) _ _ _ _ (quiet_same k _ _ (gives_quiet args next locals rest)) (asks_same m args next locals rest)))
      (record { same = tt })

  either_same : (b : Bool) (x y d : Effect) → AsksSame k x d → AsksSame k y d → AsksSame k (cond b x y) d
  either_same true x y d p q = p
  either_same false x y d p q = q

  -- a name as the receiver is no mailbox
  named_same : (o : Option Method) (m : MethodId) (n : ℕ) (args : List Value) (next : ℕ) (locals rest : List Value) (d : Effect) → AsksSame k (calls_method o m (Ref n ∷ args) next locals rest h) d
  named_same None m n args next locals rest d = record { same = tt }
  named_same (Some method) m n args next locals rest d =
      either_same method.built_in (calls_built_in method m (Ref n ∷ args) next locals rest h) (Calls m (Ref n ∷ args) next locals rest h) d
      (either_same (is_message_constructor method) _ _ d (quiet_same k _ d (keeps_quiet (Ref n ∷ args) next locals rest)) (either_same (is_get_message method) _ _ d (quiet_same k _ d (gives_quiet (Ref n ∷ args) next locals rest)) (record { same = tt })))
      (record { same = tt })

  module _ (p : Program) (named : Method) (m : MethodId) (args : List Value) (next : ℕ) (locals rest : List Value) where
    class_same : (receiver : Value) (ty : Option Ty) → AsksSame k (calls_on p named m args next locals rest h receiver ty) (calls_on p named m args next locals rest k receiver ty)
    class_same receiver None = record { same = tt }
    class_same receiver (Some ty) = method_same (method_at p (chosen p named m ty)) (chosen p named m ty) (receiver ∷ args) next locals rest

    object_same : (n : ℕ) (o : Option Object) (d : Effect) → AsksSame k (with_some o (λ object. calls_on p named m args next locals rest h (Ref n) (Some object.class))) d
    object_same n None d = record { same = tt }
    object_same n (Some object) d = named_same (method_at p (chosen p named m object.class)) (chosen p named m object.class) n args next locals rest d

    virtual_same : (receiver : Value) → AsksSame k (as_class p receiver h (calls_on p named m args next locals rest h receiver)) (as_class p receiver k (calls_on p named m args next locals rest k receiver))
    virtual_same (Int x) = record { same = tt }
    virtual_same (Long x) = record { same = tt }
    virtual_same Null = record { same = tt }
    virtual_same (Ref n) = object_same n (get h n) _
    virtual_same (Text units) = class_same (Text units) _
    virtual_same (Box box) = class_same (Box box) _
    virtual_same Fiber = class_same Fiber _

  unit_quiet : (o : Option ℕ) (go : Value → Effect) → ((v : Value) → NoAsk (go v)) → NoAsk (at_unit o go)
  unit_quiet None go f = record { holds = tt }
  unit_quiet (Some unit) go f = f _

  at_quiet : (units : List ℕ) (i : ℤ) (go : Value → Effect) → ((v : Value) → NoAsk (go v)) → NoAsk (unit_at units i go)
  at_quiet units (negsuc i) go f = record { holds = tt }
  at_quiet units (pos i) go f = unit_quiet (slice_get units i) go f

  answers_quiet : (name units : List ℕ) (args : List Value) (go : Value → Effect) → ((v : Value) → NoAsk (go v)) → NoAsk (text_answers name units args go)
  answers_quiet name units [] go f = no_when _ _ (f _)
  answers_quiet name units (v ∷ []) go f = no_if _ _ _ (f _) (no_when _ _ (no_int v _ (λ i. at_quiet units i go f)))
  answers_quiet name units (v ∷ w ∷ vs) go f = record { holds = tt }

  text_quiet : (named : Method) (args : List Value) (next : ℕ) (locals rest : List Value) (heap : Objects) (receiver : Value) → NoAsk (calls_text named args next locals rest heap receiver)
  text_quiet named args next locals rest heap receiver =
      no_receiver receiver _ (λ r. no_some (text_of r) _ (λ units. answers_quiet named.name units args (λ v. Goes next locals (v ∷ rest) heap) (λ v. record { holds = tt })))

  take_quiet : (next : ℕ) (locals stack : List Value) (heap : Objects) → NoAsk (takes_element next locals stack heap)
  take_quiet next locals stack heap = no_on_int stack _ (λ i below. no_on_object below heap _ (λ n object rest. no_index object.elements i _ (λ j v. record { holds = tt })))

  module _ (p : Program) (own : Method) where
    call_same : (i : Instr) → is_call i ≡ true → (next : ℕ) (locals stack : List Value) → AsksSame k (does p own i next locals stack h) (does p own i next locals stack k)
    unfolding does
    call_same (Invokevirtual m) e next locals stack =
        some_same (method_at p m) _ _ (λ method. values_same (length method.params) stack _ _ (λ args below. value_same below _ _ (λ receiver rest.
        if_same (is_text_method p method) _ _ _ _ (quiet_same k _ _ (text_quiet method (reverse args) next locals rest h receiver)) (virtual_same p method m (reverse args) next locals rest receiver))))
    call_same (Invokespecial m) e next locals stack =
        some_same (method_at p m) _ _ (λ method. if_same (is_built_in_constructor method) _ _ _ _ (quiet_same k _ _ (no_on_receiver stack _ (λ receiver rest. record { holds = tt })))
        (values_same (length method.params) stack _ _ (λ args below. on_receiver_same below _ _ (λ receiver rest.
        method_same (method_at p (special p own method m)) (special p own method m) (receiver ∷ reverse args) next locals rest))))
    call_same (Invokestatic m) e next locals stack =
        some_same (method_at p m) _ _ (λ method. if_same (is_handed_out p method) _ _ _ _ (values_same (length method.params) stack _ _ (λ args rest. asks_same m (reverse args) next locals rest))
        (if_same method.built_in _ _ _ _ (quiet_same k _ _ (take_quiet next locals stack h)) (values_same (length method.params) stack _ _ (λ args rest. record { same = tt }))))
    call_same i e next locals stack = absurd (false≢true e)

    row_same : (i : Instr) (b : Bool) → is_call i ≡ b → (next : ℕ) (locals stack : List Value) → AsksSame k (does p own i next locals stack h) (does p own i next locals stack k)
    row_same i true e next locals stack = call_same i e next locals stack
    row_same i false e next locals stack = quiet_same k (does p own i next locals stack h) (does p own i next locals stack k) (no_ask p own i next locals stack h e)

  found_same : (p : Program) (own : Method) (top : Activation) (found : Option (Instr × ℕ)) → AsksSame k (effect_found p own top h found) (effect_found p own top k found)
  found_same p own top None = record { same = tt }
  found_same p own top (Some found) = row_same p own found.0 (is_call found.0) refl found.1 top.locals top.stack

  in_same : (p : Program) (top : Activation) (method : Option Method) → AsksSame k (effect_in p top h method) (effect_in p top k method)
  in_same p top None = record { same = tt }
  in_same p top (Some method) = found_same p method top (fetched method.code method.code_length top.place)

  pub effect_same : (p : Program) (top : Activation) → AsksSame k (effect_of p top h) (effect_of p top k)
  effect_same p top = in_same p top (method_at p top.method)
