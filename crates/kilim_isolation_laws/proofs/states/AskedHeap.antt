-- What asks a built-in method leaves the heap as it is.
use Rattle.std.proofs.Common.{◌≡◌, ℕ, zero, suc, Bool, true, false, cond, List, [], ◌∷◌, Option, Some, None, length, refl}
use Rattle.std.specs.Prelude.{ℤ, pos, negsuc, nat_lt, reverse, slice_get}
use Rattle.std.specs.FinMap.{get}
use Rattle.std.proofs.lemmas.Bool.{false≢true}
use Rattle.kilim_program.specs.declared.class.Method.{Method}
use Rattle.kilim_program.specs.Program.{Program}
use Rattle.kilim_program.specs.declared.instr.Instr.{Instr}
use Rattle.kilim_program.specs.declared.instr.Instr.TheVariants.{Invokevirtual, Invokespecial, Invokestatic}
use Rattle.kilim_program.specs.declared.names.MethodId.{MethodId}
use Rattle.kilim_program.specs.declared.ty.Ty.{Ty}
use Rattle.kilim_program.specs.declared.value.Value.{Value}
use Rattle.kilim_program.specs.declared.value.Value.TheVariants.{Int, Long, Null, Ref, Text, Box, Fiber}
use Rattle.kilim_program.specs.BuiltIn.{message_field}
use Rattle.kilim_run_state.specs.Shapes.{field_in}
use Rattle.kilim_program.specs.Names.{method_at}
use Rattle.kilim_program.specs.Lengths.{fetched}
use Rattle.kilim_run_state.specs.declared.cause.EndCause.TheVariants as cause
use Rattle.kilim_run_state.specs.Machine.{Objects, Activation}
use Rattle.kilim_run_machine.specs.Natives.{is_built_in_constructor, is_get_message, is_handed_out, is_message_constructor, is_text_method}
use Rattle.kilim_run_machine.specs.Effect.{Effect, Goes, Makes, Opens, Calls, Asks, Returns, Raises, Throws, Ends, Stuck, with_some, on_value, on_values, on_receiver, as_receiver, as_class, text_of}
use Rattle.kilim_run_machine.specs.Does.{does, chosen, calls_built_in, calls_method, calls_on, gives_message, keeps_message, special, calls_text, takes_element, text_answers, at_unit, unit_at}
use Rattle.kilim_run_machine.specs.Moves.{Move, effect_of, effect_in, effect_found, entered, frame_limit, goes_on, move_by, moves, receiver_of, returned}
use Rattle.kilim_run_machine.specs.Moves as move
use Rattle.kilim_isolation_laws.proofs.at_rest.Quiet.{NoAsk, AsksNothing, is_call, no_if, no_when, no_some, no_int, no_receiver, no_on_int, no_object, no_on_object, no_on_receiver, no_index, no_ask}

abbrev SameHeap : Objects → Effect → Type 0
SameHeap h (Asks m args place locals stack k) = k ≡ h
SameHeap h e = Unit {0}

record AskStays (h : Objects) (e : Effect) : Type 0 where
  same : SameHeap h e

module _ (h : Objects) where
  nothing_stays : (e : Effect) → AsksNothing e → SameHeap h e
  nothing_stays (Goes place locals stack heap) n = tt
  nothing_stays (Makes object place locals stack heap) n = tt
  nothing_stays (Opens place locals stack heap) n = tt
  nothing_stays (Calls m args place locals stack heap) n = tt
  nothing_stays (Asks m args place locals stack heap) n = absurd n
  nothing_stays (Returns value heap) n = tt
  nothing_stays (Raises c) n = tt
  nothing_stays (Throws object class c) n = tt
  nothing_stays (Ends c) n = tt
  nothing_stays Stuck n = tt

  quiet_stays : (e : Effect) → NoAsk e → AskStays h e
  quiet_stays e n = record { same = nothing_stays e n.holds }

  if_stays : (b : Bool) (x y : Effect) → AskStays h x → AskStays h y → AskStays h (cond b x y)
  if_stays true x y p q = p
  if_stays false x y p q = q

  some_stays : {A : Type 0} (o : Option A) (go : A → Effect) → ((x : A) → AskStays h (go x)) → AskStays h (with_some o go)
  some_stays None go f = record { same = tt }
  some_stays (Some x) go f = f x

  value_stays : (st : List Value) (go : Value → List Value → Effect) → ((v : Value) (rest : List Value) → AskStays h (go v rest)) → AskStays h (on_value st go)
  value_stays [] go f = record { same = tt }
  value_stays (v ∷ rest) go f = f v rest

  values_stay : (n : ℕ) (st : List Value) (go : List Value → List Value → Effect) → ((vs rest : List Value) → AskStays h (go vs rest)) → AskStays h (on_values n st go)
  values_stay zero st go f = f [] st
  values_stay (suc n) st go f = value_stays st (λ v rest. on_values n rest (λ vs below. go (v ∷ vs) below)) (λ v rest. values_stay n rest (λ vs below. go (v ∷ vs) below) (λ vs below. f (v ∷ vs) below))

  receiver_stays : (v : Value) (go : Value → Effect) → ((r : Value) → AskStays h (go r)) → AskStays h (as_receiver v go)
  receiver_stays (Int x) go f = record { same = tt }
  receiver_stays (Long x) go f = record { same = tt }
  receiver_stays Null go f = record { same = tt }
  receiver_stays (Ref n) go f = f (Ref n)
  receiver_stays (Text units) go f = f (Text units)
  receiver_stays (Box box) go f = f (Box box)
  receiver_stays Fiber go f = f Fiber

  on_receiver_stays : (st : List Value) (go : Value → List Value → Effect) → ((r : Value) (rest : List Value) → AskStays h (go r rest)) → AskStays h (on_receiver st go)
  on_receiver_stays st go f = value_stays st (λ v rest. as_receiver v (λ r. go r rest)) (λ v rest. receiver_stays v (λ r. go r rest) (λ r. f r rest))

  keeps_quiet : (args : List Value) (next : ℕ) (locals rest : List Value) → NoAsk (keeps_message args next locals rest h)
  keeps_quiet [] next locals rest = record { holds = tt }
  keeps_quiet (v ∷ []) next locals rest = record { holds = tt }
  keeps_quiet (v ∷ w ∷ []) next locals rest = no_object v h _ (λ n object. no_some (field_in object.fields message_field) _ (λ old. record { holds = tt }))
  keeps_quiet (v ∷ w ∷ x ∷ xs) next locals rest = record { holds = tt }

  gives_quiet : (args : List Value) (next : ℕ) (locals rest : List Value) → NoAsk (gives_message args next locals rest h)
  gives_quiet [] next locals rest = record { holds = tt }
  gives_quiet (v ∷ []) next locals rest = no_object v h _ (λ n object. no_some (field_in object.fields message_field) _ (λ w. record { holds = tt }))
  gives_quiet (v ∷ w ∷ ws) next locals rest = record { holds = tt }

  method_stays : (o : Option Method) (m : MethodId) (args : List Value) (next : ℕ) (locals rest : List Value) → AskStays h (calls_method o m args next locals rest h)
  method_stays None m args next locals rest = record { same = tt }
  method_stays (Some method) m args next locals rest = if_stays method.built_in (calls_built_in method m args next locals rest h) (Calls m args next locals rest h)
      (if_stays (is_message_constructor method) _ _ (quiet_stays _ (keeps_quiet args next locals rest)) (if_stays (is_get_message method) _ _ (quiet_stays _ (gives_quiet args next locals rest)) (record { same = refl })))
      (record { same = tt })

  module _ (p : Program) (named : Method) (m : MethodId) (args : List Value) (next : ℕ) (locals rest : List Value) where
    class_stays : (receiver : Value) (ty : Option Ty) → AskStays h (calls_on p named m args next locals rest h receiver ty)
    class_stays receiver None = record { same = tt }
    class_stays receiver (Some ty) = method_stays (method_at p (chosen p named m ty)) (chosen p named m ty) (receiver ∷ args) next locals rest

    virtual_stays : (receiver : Value) → AskStays h (as_class p receiver h (calls_on p named m args next locals rest h receiver))
    virtual_stays (Int x) = record { same = tt }
    virtual_stays (Long x) = record { same = tt }
    virtual_stays Null = record { same = tt }
    virtual_stays (Ref n) = some_stays (get h n) (λ object. calls_on p named m args next locals rest h (Ref n) (Some object.class)) (λ object. class_stays (Ref n) (Some object.class))
    virtual_stays (Text units) = class_stays (Text units) _
    virtual_stays (Box box) = class_stays (Box box) _
    virtual_stays Fiber = class_stays Fiber _

  unit_quiet : (o : Option ℕ) (go : Value → Effect) → ((v : Value) → NoAsk (go v)) → NoAsk (at_unit o go)
  unit_quiet None go f = record { holds = tt }
  unit_quiet (Some unit) go f = f _

  at_quiet : (units : List ℕ) (i : ℤ) (go : Value → Effect) → ((v : Value) → NoAsk (go v)) → NoAsk (unit_at units i go)
  at_quiet units (negsuc i) go f = record { holds = tt }
  at_quiet units (pos i) go f = unit_quiet (slice_get units i) go f

  answers_quiet : (name units : List ℕ) (args : List Value) (go : Value → Effect) → ((v : Value) → NoAsk (go v)) → NoAsk (text_answers name units args go)
  answers_quiet name units [] go f = no_when _ _ (f _)
  answers_quiet name units (v ∷ []) go f = no_if _ _ _ (f _) (no_when _ _ (no_int v _ (λ i. at_quiet units i go f)))
  answers_quiet name units (v ∷ w ∷ vs) go f = record { holds = tt }

  text_quiet : (named : Method) (args : List Value) (next : ℕ) (locals rest : List Value) (receiver : Value) → NoAsk (calls_text named args next locals rest h receiver)
  text_quiet named args next locals rest receiver = no_receiver receiver _ (λ r. no_some (text_of r) _ (λ units. answers_quiet named.name units args (λ v. Goes next locals (v ∷ rest) h) (λ v. record { holds = tt })))

  take_quiet : (next : ℕ) (locals stack : List Value) → NoAsk (takes_element next locals stack h)
  take_quiet next locals stack = no_on_int stack _ (λ i below. no_on_object below h _ (λ n object rest. no_index object.elements i _ (λ j v. record { holds = tt })))

  module _ (p : Program) (own : Method) where
    call_stays : (i : Instr) → is_call i ≡ true → (next : ℕ) (locals stack : List Value) → AskStays h (does p own i next locals stack h)
    unfolding does
    call_stays (Invokevirtual m) e next locals stack =
        some_stays (method_at p m) _ (λ method. values_stay (length method.params) stack _ (λ args below. value_stays below _ (λ receiver rest.
        if_stays (is_text_method p method) _ _ (quiet_stays _ (text_quiet method (reverse args) next locals rest receiver)) (virtual_stays p method m (reverse args) next locals rest receiver))))
    call_stays (Invokespecial m) e next locals stack =
        some_stays (method_at p m) _ (λ method. if_stays (is_built_in_constructor method) _ _ (quiet_stays _ (no_on_receiver stack _ (λ receiver rest. record { holds = tt })))
        (values_stay (length method.params) stack _ (λ args below. on_receiver_stays below _ (λ receiver rest.
        method_stays (method_at p (special p own method m)) (special p own method m) (receiver ∷ reverse args) next locals rest))))
    call_stays (Invokestatic m) e next locals stack =
        some_stays (method_at p m) _ (λ method. if_stays (is_handed_out p method) _ _ (values_stay (length method.params) stack _ (λ args rest. record { same = refl }))
        (if_stays method.built_in _ _ (quiet_stays _ (take_quiet next locals stack)) (values_stay (length method.params) stack _ (λ args rest. record { same = tt }))))
    call_stays i e next locals stack = absurd (false≢true e)

    row_stays : (i : Instr) (b : Bool) → is_call i ≡ b → (next : ℕ) (locals stack : List Value) → AskStays h (does p own i next locals stack h)
    row_stays i true e next locals stack = call_stays i e next locals stack
    row_stays i false e next locals stack = quiet_stays (does p own i next locals stack h) (no_ask p own i next locals stack h e)

  found_stays : (p : Program) (own : Method) (top : Activation) (found : Option (Instr × ℕ)) → AskStays h (effect_found p own top h found)
  found_stays p own top None = record { same = tt }
  found_stays p own top (Some found) = row_stays p own found.0 (is_call found.0) refl found.1 top.locals top.stack

  in_stays : (p : Program) (top : Activation) (method : Option Method) → AskStays h (effect_in p top h method)
  in_stays p top None = record { same = tt }
  in_stays p top (Some method) = found_stays p method top (fetched method.code method.code_length top.place)

-- ---- of a move

abbrev pub MoveStays : Objects → Move → Type 0
MoveStays h (move.Asks m args frames k) = k ≡ h
MoveStays h m = Unit {0}

called_stays : (h : Objects) (p : Program) (m : MethodId) (args : List Value) (frames : List Activation) (k : Objects) (z : Bool) → MoveStays h (cond z (move.Runs (move.Enters (receiver_of p m args)) (entered p m args ∷ frames) k) (move.Ends cause.Depth))
called_stays h p m args frames k true = tt
called_stays h p m args frames k false = tt

returned_stays : (h : Objects) (v : Option Value) (frames : List Activation) (k : Objects) → MoveStays h (returned v frames k)
returned_stays h v [] k = tt
returned_stays h v (a ∷ as1) k = tt

move_stays : (h : Objects) (p : Program) (e : Effect) (top : Activation) (below : List Activation) → SameHeap h e → MoveStays h (move_by p e top below)
move_stays h p (Goes place ls st k) top below s = tt
move_stays h p (Makes o place ls st k) top below s = tt
move_stays h p (Opens place ls st k) top below s = tt
move_stays h p (Calls m args place ls st k) top below s = called_stays h p m args (goes_on top place ls st ∷ below) k (nat_lt (length (goes_on top place ls st ∷ below)) frame_limit)
move_stays h p (Asks m args place ls st k) top below s = s
move_stays h p (Returns v k) top below s = returned_stays h v below k
move_stays h p (Raises c) top below s = tt
move_stays h p (Throws object class c) top below s = tt
move_stays h p (Ends c) top below s = tt
move_stays h p Stuck top below s = tt

pub asking_stays : (p : Program) (top : Activation) (below : List Activation) (h : Objects) → MoveStays h (moves p top below h)
unfolding moves
asking_stays p top below h = move_stays h p (effect_of p top h) top below (in_stays h p top (method_at p top.method)).same
