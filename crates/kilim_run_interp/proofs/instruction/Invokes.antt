-- What the rows of calls say, with the operands as they stand on the stack.
use Rattle.std.proofs.Common.{◌≡◌, ◌∙◌, sym, ap, refl, ℕ, zero, suc, ◌+◌, ◌<◌, ◌≤◌, Bool, true, false, true≢false, cond, List, [], ◌∷◌, Option, Some, None, length, take, drop, reverse, slice_get, is_some, arith, length-take}
use Rattle.std.proofs.lemmas.Bool.{or_parts}
use Rattle.std.proofs.lemmas.List.{length-reverse}
use Rattle.kilim_program.specs.declared.ty.Ty.{Ty}
use Rattle.std.specs.FinMap.{get}
use Rattle.kilim_program.specs.declared.class.Method.{Method}
use Rattle.kilim_program.specs.declared.instr.Instr.TheVariants.{Invokespecial, Invokestatic, Invokevirtual}
use Rattle.kilim_program.specs.declared.names.MethodId.{MethodId}
use Rattle.kilim_program.specs.declared.value.Value.{Value}
use Rattle.kilim_program.specs.declared.value.Value.TheVariants.{Int, Long, Null, Ref, Text, Box, Fiber}
use Rattle.kilim_program.specs.Program.{Program}
use Rattle.kilim_program.specs.Names.{method_at}
use Rattle.kilim_run_state.specs.declared.cause.EndCause.TheVariants as cause
use Rattle.kilim_run_state.specs.declared.value.Object.{Object}
use Rattle.kilim_run_state.specs.Machine.{Objects}
use Rattle.kilim_run_machine.specs.Natives.{is_built_in_constructor, is_get_message, is_handed_out, is_message_constructor, is_of_message, is_text_method}
use Rattle.kilim_run_machine.specs.Effect.{Effect, Goes, Calls, Asks, Raises, Stuck, on_values, as_receiver, as_class, with_some}
use Rattle.kilim_run_machine.specs.Does.{chosen, does, is_null, special, calls_built_in, calls_method, calls_on, calls_text, gives_message, keeps_message, text_answers}
use Rattle.kilim_run_interp.specs.declared.instruction.calls.Target.TheVariants.{NoReceiver, WithCode, BuiltIn, KeepsMessage, GivesMessage, Nowhere}
use Rattle.kilim_run_interp.specs.instruction.Calls.{built_in_target, on_call, Reaches}
use Rattle.kilim_run_rows.specs.Types.{class_of, is_found, type_at}
use Rattle.kilim_run_rows.specs.Outcome.{is_stuck}
use Rattle.kilim_run_interp.proofs.instruction.Operands.{values_there, values_taken, call_there, call_taken, receiver_first}

-- ---- values

receiver_goes : (r : Value) (go : Value → Effect) → is_stuck (as_receiver r go) ≡ false → is_null r ≡ false → as_receiver r go ≡ go r
receiver_goes (Int x) go fine other = absurd (true≢false fine)
receiver_goes (Long x) go fine other = absurd (true≢false fine)
receiver_goes Null go fine other = absurd (true≢false other)
receiver_goes (Ref n) go fine other = refl
receiver_goes (Text t) go fine other = refl
receiver_goes (Box b) go fine other = refl
receiver_goes Fiber go fine other = refl

found_by : (o : Option Object) (f : Option Ty → Effect) → is_stuck (with_some o (λ (object : Object). f (Some object.class))) ≡ false → is_some o ≡ true
found_by None f fine = absurd (true≢false fine)
found_by (Some object) f fine = refl

found : (p : Program) (r : Value) (h : Objects) (f : Option Ty → Effect) → is_stuck (as_class p r h f) ≡ false → is_found r h ≡ true
found p (Int x) h f fine = absurd (true≢false fine)
found p (Long x) h f fine = absurd (true≢false fine)
found p Null h f fine = refl
found p (Ref n) h f fine = found_by (get h n) f fine
found p (Text t) h f fine = refl
found p (Box b) h f fine = refl
found p Fiber h f fine = refl

answers_two : (name units : List ℕ) (xs : List Value) (go : Value → Effect) → 1 < length xs → text_answers name units xs go ≡ Stuck
answers_two name units [] go more = absurd (omega (arith, more))
answers_two name units (v ∷ []) go more = absurd (omega (arith, more))
answers_two name units (v ∷ w ∷ vs) go more = refl

text_two : (named : Method) (args : List Value) (next : ℕ) (ls rest : List Value) (h : Objects) (r : Value) → 1 < length args → is_null r ≡ false → is_stuck (calls_text named args next ls rest h r) ≡ false → ⊥
text_two named args next ls rest h (Int x) more other fine = absurd (true≢false fine)
text_two named args next ls rest h (Long x) more other fine = absurd (true≢false fine)
text_two named args next ls rest h Null more other fine = absurd (true≢false other)
text_two named args next ls rest h (Ref n) more other fine = absurd (true≢false fine)
text_two named args next ls rest h (Text t) more other fine =
    let stuck = answers_two named.name t args (λ v. Goes next ls (v ∷ rest) h) more in
    true≢false (ap is_stuck (sym stuck) ∙ fine)
text_two named args next ls rest h (Box b) more other fine = absurd (true≢false fine)
text_two named args next ls rest h Fiber more other fine = absurd (true≢false fine)

text_go : Method → ℕ → List Value → Objects → List Value → Value → List Value → Effect
text_go named next ls h args receiver rest = calls_text named (reverse args) next ls rest h receiver

-- no method of strings has more than one parameter
pub text_many : (named : Method) (n next : ℕ) (ls stack : List Value) (h : Objects) (r : Value) → 1 < n → slice_get stack n ≡ Some r → is_null r ≡ false →
    is_stuck (on_call n stack (λ args receiver rest. calls_text named (reverse args) next ls rest h receiver)) ≡ false → ⊥
unfolding text_go
text_many named n next ls stack h r more at other fine =
    let less : n < length stack = call_there n stack (text_go named next ls h) fine in
    let row = call_taken n stack (text_go named next ls h) r at in
    let size : length (reverse (take n stack)) ≡ n = length-reverse (take n stack) ∙ (length-take n stack ∙ omega (arith, less)) in
    text_two named (reverse (take n stack)) next ls (drop (n + 1) stack) h r (omega (arith, more, size)) other (ap is_stuck (sym row) ∙ fine)

pub text_null : (named : Method) (n next : ℕ) (ls stack : List Value) (h : Objects) (r : Value) → slice_get stack n ≡ Some r → is_null r ≡ true →
    is_stuck (on_call n stack (λ args receiver rest. calls_text named (reverse args) next ls rest h receiver)) ≡ false →
    on_call n stack (λ args receiver rest. calls_text named (reverse args) next ls rest h receiver) ≡ Raises cause.Null
unfolding text_go
text_null named n next ls stack h (Int x) at null fine = absurd (true≢false (sym null))
text_null named n next ls stack h (Long x) at null fine = absurd (true≢false (sym null))
text_null named n next ls stack h Null at null fine = call_taken n stack (text_go named next ls h) Null at
text_null named n next ls stack h (Ref m) at null fine = absurd (true≢false (sym null))
text_null named n next ls stack h (Text t) at null fine = absurd (true≢false (sym null))
text_null named n next ls stack h (Box b) at null fine = absurd (true≢false (sym null))
text_null named n next ls stack h Fiber at null fine = absurd (true≢false (sym null))

pub text_there : (named : Method) (n next : ℕ) (ls stack : List Value) (h : Objects) →
    is_stuck (on_call n stack (λ args receiver rest. calls_text named (reverse args) next ls rest h receiver)) ≡ false → n < length stack
unfolding text_go
text_there named n next ls stack h fine = call_there n stack (text_go named next ls h) fine

-- a call of a built-in method is what its kind says
built_in_called : (o : Option Method) (method : Method) (id : MethodId) (args : List Value) (next : ℕ) (ls rest : List Value) (h : Objects) → o ≡ Some method → method.built_in ≡ true →
    calls_method o id args next ls rest h ≡ calls_built_in method id args next ls rest h
built_in_called o method id args next ls rest h there built_in =
    ap (λ (z : Option Method). calls_method z id args next ls rest h) there ∙ ap (λ (z : Bool). cond z (calls_built_in method id args next ls rest h) (Calls id args next ls rest h)) built_in

-- what it comes to, by its kind
kept : (method : Method) (id : MethodId) (args : List Value) (next : ℕ) (ls rest : List Value) (h : Objects) → is_message_constructor method ≡ true → calls_built_in method id args next ls rest h ≡ keeps_message args next ls rest h
kept method id args next ls rest h keeps = ap (λ (z : Bool). cond z (keeps_message args next ls rest h) (cond (is_get_message method) (gives_message args next ls rest h) (Asks id args next ls rest h))) keeps

given : (method : Method) (id : MethodId) (args : List Value) (next : ℕ) (ls rest : List Value) (h : Objects) → is_message_constructor method ≡ false → is_get_message method ≡ true → calls_built_in method id args next ls rest h ≡ gives_message args next ls rest h
given method id args next ls rest h keeps gives =
    ap (λ (z : Bool). cond z (keeps_message args next ls rest h) (cond (is_get_message method) (gives_message args next ls rest h) (Asks id args next ls rest h))) keeps
    ∙ ap (λ (z : Bool). cond z (gives_message args next ls rest h) (Asks id args next ls rest h)) gives

asked : (method : Method) (id : MethodId) (args : List Value) (next : ℕ) (ls rest : List Value) (h : Objects) → is_message_constructor method ≡ false → is_get_message method ≡ false → calls_built_in method id args next ls rest h ≡ Asks id args next ls rest h
asked method id args next ls rest h keeps gives =
    ap (λ (z : Bool). cond z (keeps_message args next ls rest h) (cond (is_get_message method) (gives_message args next ls rest h) (Asks id args next ls rest h))) keeps
    ∙ ap (λ (z : Bool). cond z (gives_message args next ls rest h) (Asks id args next ls rest h)) gives

same_class : (c d : Option Ty) → Some c ≡ Some d → c ≡ d
same_class c d e = cc

no_class : (c : Option Ty) → None ≡ Some c → ⊥
no_class c e = cc

object_is : (o : Option Object) (go : Option Ty → Effect) (c : Option Ty) → class_of o ≡ Some c → with_some o (λ (object : Object). go (Some object.class)) ≡ go c
object_is None go c is = absurd (no_class c is)
object_is (Some object) go c is = ap go (same_class (Some object.class) c is)

-- a call on a value goes on with its class
pub class_is : (p : Program) (v : Value) (h : Objects) (go : Option Ty → Effect) (c : Option Ty) → type_at p v h ≡ Some c → as_class p v h go ≡ go c
class_is p (Int x) h go c is = absurd (no_class c is)
class_is p (Long x) h go c is = absurd (no_class c is)
class_is p Null h go c is = ap go (same_class _ c is)
class_is p (Ref n) h go c is = object_is (get h n) go c is
class_is p (Text units) h go c is = ap go (same_class _ c is)
class_is p (Box box) h go c is = ap go (same_class _ c is)
class_is p Fiber h go c is = ap go (same_class _ c is)

pub asks_built_in : (o : Option Method) (method : Method) (id : MethodId) (args : List Value) (next : ℕ) (ls rest : List Value) (h : Objects) → o ≡ Some method → method.built_in ≡ true → is_of_message method ≡ false →
    calls_method o id args next ls rest h ≡ Asks id args next ls rest h
asks_built_in o method id args next ls rest h there built_in none =
    let parts = or_parts (is_message_constructor method) (is_get_message method) none in
    built_in_called o method id args next ls rest h there built_in ∙ asked method id args next ls rest h parts.0 parts.1

-- what a call on an object reaches, where that is a built-in method
pub reaches_built_in : (p : Program) (named : Method) (m : MethodId) (r : Value) (h : Objects) (ty : Ty) (target : Method) → ((go : Option Ty → Effect) → as_class p r h go ≡ go (Some ty)) → method_at p (chosen p named m ty) ≡ Some target
    → target.built_in ≡ true → Reaches p named m r h (built_in_target (chosen p named m ty) target)
reaches_built_in p named m r h ty target is there built = by (is_message_constructor target) (is_get_message target) refl refl
  where
    row : (args : List Value) (next : ℕ) (ls rest : List Value) → as_class p r h (calls_on p named m args next ls rest h r) ≡ calls_built_in target (chosen p named m ty) (r ∷ args) next ls rest h
    row args next ls rest = is (calls_on p named m args next ls rest h r) ∙ built_in_called (method_at p (chosen p named m ty)) target (chosen p named m ty) (r ∷ args) next ls rest h there built

    by : (k g : Bool) → is_message_constructor target ≡ k → is_get_message target ≡ g → Reaches p named m r h (cond k KeepsMessage (cond g GivesMessage (BuiltIn (chosen p named m ty))))
    by true g keeps gives = λ args next ls rest. row args next ls rest ∙ kept target (chosen p named m ty) (r ∷ args) next ls rest h keeps
    by false true keeps gives = λ args next ls rest. row args next ls rest ∙ given target (chosen p named m ty) (r ∷ args) next ls rest h keeps gives
    by false false keeps gives = λ args next ls rest. row args next ls rest ∙ asked target (chosen p named m ty) (r ∷ args) next ls rest h keeps gives

module _ (p : Program) (own : Method) (m : MethodId) (named : Method) (next : ℕ) (ls stack : List Value) (h : Objects) (there : method_at p m ≡ Some named) where
  -- ---- static methods

  asks_row : is_handed_out p named ≡ true → does p own (Invokestatic m) next ls stack h ≡ on_values (length named.params) stack (λ args rest. Asks m (reverse args) next ls rest h)
  unfolding does
  asks_row handed = rw (there, handed)

  calls_row : is_handed_out p named ≡ false → named.built_in ≡ false → does p own (Invokestatic m) next ls stack h ≡ on_values (length named.params) stack (λ args rest. Calls m (reverse args) next ls rest h)
  unfolding does
  calls_row other code = rw (there, other, code)

  pub static_asks : is_handed_out p named ≡ true → is_stuck (does p own (Invokestatic m) next ls stack h) ≡ false →
      (length named.params ≤ length stack) × (does p own (Invokestatic m) next ls stack h ≡ Asks m (reverse (take (length named.params) stack)) next ls (drop (length named.params) stack) h)
  static_asks handed fine =
      let row = asks_row handed in
      let less = values_there (length named.params) stack (λ args rest. Asks m (reverse args) next ls rest h) (ap is_stuck (sym row) ∙ fine) in
      (less, row ∙ values_taken (length named.params) stack (λ args rest. Asks m (reverse args) next ls rest h) less)

  pub static_calls : is_handed_out p named ≡ false → named.built_in ≡ false → is_stuck (does p own (Invokestatic m) next ls stack h) ≡ false →
      (length named.params ≤ length stack) × (does p own (Invokestatic m) next ls stack h ≡ Calls m (reverse (take (length named.params) stack)) next ls (drop (length named.params) stack) h)
  static_calls other code fine =
      let row = calls_row other code in
      let less = values_there (length named.params) stack (λ args rest. Calls m (reverse args) next ls rest h) (ap is_stuck (sym row) ∙ fine) in
      (less, row ∙ values_taken (length named.params) stack (λ args rest. Calls m (reverse args) next ls rest h) less)

  -- ---- `invokespecial`

  special_go : List Value → Value → List Value → Effect
  special_go args v rest = as_receiver v (λ r. calls_method (method_at p (special p own named m)) (special p own named m) (r ∷ reverse args) next ls rest h)

  special_row : is_built_in_constructor named ≡ false → does p own (Invokespecial m) next ls stack h ≡ on_call (length named.params) stack special_go
  unfolding does special_go
  special_row other = rw (there, other)

  pub special_there : is_built_in_constructor named ≡ false → is_stuck (does p own (Invokespecial m) next ls stack h) ≡ false → length named.params < length stack
  special_there other fine = call_there (length named.params) stack special_go (ap is_stuck (sym (special_row other)) ∙ fine)

  special_at : (r : Value) → is_built_in_constructor named ≡ false → slice_get stack (length named.params) ≡ Some r →
      does p own (Invokespecial m) next ls stack h ≡ special_go (take (length named.params) stack) r (drop (length named.params + 1) stack)
  special_at r other at = special_row other ∙ call_taken (length named.params) stack special_go r at

  pub special_null : (r : Value) → is_built_in_constructor named ≡ false → slice_get stack (length named.params) ≡ Some r → is_null r ≡ true →
      is_stuck (does p own (Invokespecial m) next ls stack h) ≡ false → does p own (Invokespecial m) next ls stack h ≡ Raises cause.Null
  unfolding special_go
  special_null (Int x) other at null fine = absurd (true≢false (sym null))
  special_null (Long x) other at null fine = absurd (true≢false (sym null))
  special_null Null other at null fine = special_at Null other at
  special_null (Ref n) other at null fine = absurd (true≢false (sym null))
  special_null (Text t) other at null fine = absurd (true≢false (sym null))
  special_null (Box b) other at null fine = absurd (true≢false (sym null))
  special_null Fiber other at null fine = absurd (true≢false (sym null))

  pub special_goes : (r : Value) → is_built_in_constructor named ≡ false → slice_get stack (length named.params) ≡ Some r → is_null r ≡ false →
      is_stuck (does p own (Invokespecial m) next ls stack h) ≡ false →
      does p own (Invokespecial m) next ls stack h ≡
      calls_method (method_at p (special p own named m)) (special p own named m) (reverse (take (length named.params + 1) stack)) next ls (drop (length named.params + 1) stack) h
  unfolding special_go
  special_goes r other at null fine =
      let n : ℕ = length named.params in
      let id : MethodId = special p own named m in
      let row = special_at r other at in
      let goes = receiver_goes r (λ w. calls_method (method_at p id) id (w ∷ reverse (take n stack)) next ls (drop (n + 1) stack) h) (ap is_stuck (sym row) ∙ fine) null in
      row ∙ (goes ∙ ap (λ (args : List Value). calls_method (method_at p id) id args next ls (drop (n + 1) stack) h) (sym (receiver_first n stack r at)))

  -- the same as a call on the receiver
  on_receiver_again : (r : Value) → slice_get stack (length named.params) ≡ Some r → (go : List Value → Value → List Value → Effect) →
      go (take (length named.params) stack) r (drop (length named.params + 1) stack) ≡ on_call (length named.params) stack go
  on_receiver_again r at go = sym (call_taken (length named.params) stack go r at)

  -- of a built-in method
  module _ (r : Value) (other : is_built_in_constructor named ≡ false) (at : slice_get stack (length named.params) ≡ Some r) (is_there : is_null r ≡ false) (fine : is_stuck (does p own (Invokespecial m) next ls stack h) ≡ false)
      (method : Method) (found : method_at p (special p own named m) ≡ Some method) (built_in : method.built_in ≡ true) where
    special_built : does p own (Invokespecial m) next ls stack h ≡ calls_built_in method (special p own named m) (reverse (take (length named.params + 1) stack)) next ls (drop (length named.params + 1) stack) h
    special_built =
        special_goes r other at is_there fine
        ∙ built_in_called (method_at p (special p own named m)) method (special p own named m) (reverse (take (length named.params + 1) stack)) next ls (drop (length named.params + 1) stack) h found built_in

    pub special_keeps : is_message_constructor method ≡ true → does p own (Invokespecial m) next ls stack h ≡ on_call (length named.params) stack (λ args receiver rest. keeps_message (receiver ∷ reverse args) next ls rest h)
    special_keeps keeps =
        special_built ∙ (kept method (special p own named m) (reverse (take (length named.params + 1) stack)) next ls (drop (length named.params + 1) stack) h keeps
        ∙ (ap (λ (args : List Value). keeps_message args next ls (drop (length named.params + 1) stack) h) (receiver_first (length named.params) stack r at)
        ∙ on_receiver_again r at (λ args receiver rest. keeps_message (receiver ∷ reverse args) next ls rest h)))

    pub special_gives : is_message_constructor method ≡ false → is_get_message method ≡ true → does p own (Invokespecial m) next ls stack h ≡ on_call (length named.params) stack (λ args receiver rest. gives_message (receiver ∷ reverse args) next ls rest h)
    special_gives keeps gives =
        special_built ∙ (given method (special p own named m) (reverse (take (length named.params + 1) stack)) next ls (drop (length named.params + 1) stack) h keeps gives
        ∙ (ap (λ (args : List Value). gives_message args next ls (drop (length named.params + 1) stack) h) (receiver_first (length named.params) stack r at)
        ∙ on_receiver_again r at (λ args receiver rest. gives_message (receiver ∷ reverse args) next ls rest h)))

    pub special_asks : is_message_constructor method ≡ false → is_get_message method ≡ false → does p own (Invokespecial m) next ls stack h ≡ Asks (special p own named m) (reverse (take (length named.params + 1) stack)) next ls (drop (length named.params + 1) stack) h
    special_asks keeps gives = special_built ∙ asked method (special p own named m) (reverse (take (length named.params + 1) stack)) next ls (drop (length named.params + 1) stack) h keeps gives

  -- ---- `invokevirtual`

  virtual_go : List Value → Value → List Value → Effect
  virtual_go args r rest = as_class p r h (calls_on p named m (reverse args) next ls rest h r)

  virtual_row : is_text_method p named ≡ false → does p own (Invokevirtual m) next ls stack h ≡ on_call (length named.params) stack virtual_go
  unfolding does virtual_go
  virtual_row other = rw (there, other)

  pub text_row : is_text_method p named ≡ true →
      does p own (Invokevirtual m) next ls stack h ≡ on_call (length named.params) stack (λ args receiver rest. calls_text named (reverse args) next ls rest h receiver)
  unfolding does
  text_row text = rw (there, text)

  pub virtual_there : is_text_method p named ≡ false → is_stuck (does p own (Invokevirtual m) next ls stack h) ≡ false → length named.params < length stack
  virtual_there other fine = call_there (length named.params) stack virtual_go (ap is_stuck (sym (virtual_row other)) ∙ fine)

  virtual_at : (r : Value) → is_text_method p named ≡ false → slice_get stack (length named.params) ≡ Some r →
      does p own (Invokevirtual m) next ls stack h ≡ as_class p r h (calls_on p named m (reverse (take (length named.params) stack)) next ls (drop (length named.params + 1) stack) h r)
  unfolding virtual_go
  virtual_at r other at = virtual_row other ∙ call_taken (length named.params) stack virtual_go r at

  pub virtual_found : (r : Value) → is_text_method p named ≡ false → slice_get stack (length named.params) ≡ Some r → is_stuck (does p own (Invokevirtual m) next ls stack h) ≡ false → is_found r h ≡ true
  virtual_found r other at fine =
      found p r h (calls_on p named m (reverse (take (length named.params) stack)) next ls (drop (length named.params + 1) stack) h r) (ap is_stuck (sym (virtual_at r other at)) ∙ fine)

  pub virtual_calls : (r : Value) (id : MethodId) → is_text_method p named ≡ false → slice_get stack (length named.params) ≡ Some r → Reaches p named m r h (WithCode id) →
      does p own (Invokevirtual m) next ls stack h ≡ Calls id (reverse (take (length named.params + 1) stack)) next ls (drop (length named.params + 1) stack) h
  virtual_calls r id other at reaches =
      let n : ℕ = length named.params in
      virtual_at r other at ∙ (reaches (reverse (take n stack)) next ls (drop (n + 1) stack) ∙ ap (λ (args : List Value). Calls id args next ls (drop (n + 1) stack) h) (sym (receiver_first n stack r at)))

  pub virtual_asks : (r : Value) (id : MethodId) → is_text_method p named ≡ false → slice_get stack (length named.params) ≡ Some r → Reaches p named m r h (BuiltIn id) →
      does p own (Invokevirtual m) next ls stack h ≡ Asks id (reverse (take (length named.params + 1) stack)) next ls (drop (length named.params + 1) stack) h
  virtual_asks r id other at reaches =
      let n : ℕ = length named.params in
      virtual_at r other at ∙ (reaches (reverse (take n stack)) next ls (drop (n + 1) stack) ∙ ap (λ (args : List Value). Asks id args next ls (drop (n + 1) stack) h) (sym (receiver_first n stack r at)))

  pub virtual_keeps : (r : Value) → is_text_method p named ≡ false → slice_get stack (length named.params) ≡ Some r → Reaches p named m r h KeepsMessage →
      does p own (Invokevirtual m) next ls stack h ≡ on_call (length named.params) stack (λ args receiver rest. keeps_message (receiver ∷ reverse args) next ls rest h)
  virtual_keeps r other at reaches =
      virtual_at r other at ∙ (reaches (reverse (take (length named.params) stack)) next ls (drop (length named.params + 1) stack) ∙ on_receiver_again r at (λ args receiver rest. keeps_message (receiver ∷ reverse args) next ls rest h))

  pub virtual_gives : (r : Value) → is_text_method p named ≡ false → slice_get stack (length named.params) ≡ Some r → Reaches p named m r h GivesMessage →
      does p own (Invokevirtual m) next ls stack h ≡ on_call (length named.params) stack (λ args receiver rest. gives_message (receiver ∷ reverse args) next ls rest h)
  virtual_gives r other at reaches =
      virtual_at r other at ∙ (reaches (reverse (take (length named.params) stack)) next ls (drop (length named.params + 1) stack) ∙ on_receiver_again r at (λ args receiver rest. gives_message (receiver ∷ reverse args) next ls rest h))

  pub virtual_null : (r : Value) → is_text_method p named ≡ false → slice_get stack (length named.params) ≡ Some r → Reaches p named m r h NoReceiver → does p own (Invokevirtual m) next ls stack h ≡ Raises cause.Null
  virtual_null r other at reaches = virtual_at r other at ∙ reaches (reverse (take (length named.params) stack)) next ls (drop (length named.params + 1) stack)

  pub virtual_nowhere : (r : Value) → is_text_method p named ≡ false → slice_get stack (length named.params) ≡ Some r → Reaches p named m r h Nowhere → is_stuck (does p own (Invokevirtual m) next ls stack h) ≡ false → ⊥
  virtual_nowhere r other at reaches fine =
      let stuck = virtual_at r other at ∙ reaches (reverse (take (length named.params) stack)) next ls (drop (length named.params + 1) stack) in
      true≢false (ap is_stuck (sym stuck) ∙ fine)

-- ---- the message of an exception

some_at : (n : ℕ) (vs : List Value) → n < length vs → (r : Value) × (slice_get vs n ≡ Some r)
some_at n [] less = absurd (omega (arith, less))
some_at zero (v ∷ vs) less = (v, refl)
some_at (suc n) (v ∷ vs) less = some_at n vs (omega (arith, less))

keeps_stuck : (r : Value) (args : List Value) (next : ℕ) (ls rest : List Value) (h : Objects) → (length args ≡ 1 → ⊥) → keeps_message (r ∷ args) next ls rest h ≡ Stuck
keeps_stuck r [] next ls rest h other = refl
keeps_stuck r (v ∷ []) next ls rest h other = absurd (other refl)
keeps_stuck r (v ∷ w ∷ ws) next ls rest h other = refl

gives_stuck : (r : Value) (args : List Value) (next : ℕ) (ls rest : List Value) (h : Objects) → (length args ≡ 0 → ⊥) → gives_message (r ∷ args) next ls rest h ≡ Stuck
gives_stuck r [] next ls rest h other = absurd (other refl)
gives_stuck r (v ∷ vs) next ls rest h other = refl

keeps_go : ℕ → List Value → Objects → List Value → Value → List Value → Effect
keeps_go next ls h args receiver rest = keeps_message (receiver ∷ reverse args) next ls rest h

gives_go : ℕ → List Value → Objects → List Value → Value → List Value → Effect
gives_go next ls h args receiver rest = gives_message (receiver ∷ reverse args) next ls rest h

taken_size : (n : ℕ) (stack : List Value) → n < length stack → length (reverse (take n stack)) ≡ n
taken_size n stack less = length-reverse (take n stack) ∙ (length-take n stack ∙ omega (arith, less))

-- the message is the one argument, and where it is given there is none
pub keeps_one : (n next : ℕ) (ls stack : List Value) (h : Objects) → (n ≡ 1 → ⊥) → is_stuck (on_call n stack (λ args receiver rest. keeps_message (receiver ∷ reverse args) next ls rest h)) ≡ false → ⊥
unfolding keeps_go
keeps_one n next ls stack h other fine =
    let less : n < length stack = call_there n stack (keeps_go next ls h) fine in
    let r = some_at n stack less in
    let size = taken_size n stack less in
    let stuck = call_taken n stack (keeps_go next ls h) r.0 r.1 ∙ keeps_stuck r.0 (reverse (take n stack)) next ls (drop (n + 1) stack) h (λ e. other (sym size ∙ e)) in
    true≢false (ap is_stuck (sym stuck) ∙ fine)

pub gives_alone : (n next : ℕ) (ls stack : List Value) (h : Objects) → (n ≡ 0 → ⊥) → is_stuck (on_call n stack (λ args receiver rest. gives_message (receiver ∷ reverse args) next ls rest h)) ≡ false → ⊥
unfolding gives_go
gives_alone n next ls stack h other fine =
    let less : n < length stack = call_there n stack (gives_go next ls h) fine in
    let r = some_at n stack less in
    let size = taken_size n stack less in
    let stuck = call_taken n stack (gives_go next ls h) r.0 r.1 ∙ gives_stuck r.0 (reverse (take n stack)) next ls (drop (n + 1) stack) h (λ e. other (sym size ∙ e)) in
    true≢false (ap is_stuck (sym stuck) ∙ fine)

-- a call of a method that isn't there is stuck
pub is_there : (o : Option Method) (id : MethodId) (args : List Value) (next : ℕ) (ls rest : List Value) (h : Objects) → is_stuck (calls_method o id args next ls rest h) ≡ false → o ≡ None → ⊥
is_there None id args next ls rest h fine none = absurd (true≢false fine)
is_there (Some method) id args next ls rest h fine none = absurd (cc)

pub calls_code : (o : Option Method) (method : Method) (id : MethodId) (args : List Value) (next : ℕ) (ls rest : List Value) (h : Objects) → o ≡ Some method → method.built_in ≡ false →
    calls_method o id args next ls rest h ≡ Calls id args next ls rest h
calls_code o method id args next ls rest h there code = rw (there, code)
