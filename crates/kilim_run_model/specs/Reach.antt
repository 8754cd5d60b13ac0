-- Who reaches which object (own): a thread by its operand stacks and its live locals, a place in a queue by its name.
use Rattle.std.specs.Prelude.{◌≡◌, ℕ, suc, Bool, true, List, [], ◌∷◌, Option, Some, None, slice_get, ◌⊎◌}
use Rattle.std.specs.FinMap.{get}
use Rattle.kilim_program.specs.declared.names.BoxName.{BoxName}
use Rattle.kilim_program.specs.declared.names.FieldId.{FieldId}
use Rattle.kilim_program.specs.declared.names.MethodId.{MethodId}
use Rattle.kilim_run_state.specs.declared.value.Object.{Object}
use Rattle.kilim_program.specs.declared.value.Value.{Value}
use Rattle.kilim_program.specs.declared.value.Value.TheVariants.{Ref}
use Rattle.kilim_run_state.specs.Machine.{Objects, Activation}
use Rattle.kilim_run_model.specs.State.{Setting, Thread, Alive, Ended, State}
use Rattle.kilim_run_model.specs.Turn.{kept_by}
use Rattle.kilim_run_model.specs.Runs.{played}

-- the value is a reference to that object
abbrev pub Names : Value → ℕ → Type 0
Names (Ref m) n = m ≡ n
Names v n = ⊥

abbrev pub SomeNames : List Value → ℕ → Type 0
SomeNames [] n = ⊥
SomeNames (v ∷ vs) n = Names v n ⊎ SomeNames vs n

abbrev pub FieldNames : List (FieldId × Value) → ℕ → Type 0
FieldNames [] n = ⊥
FieldNames (e ∷ es) n = Names e.1 n ⊎ FieldNames es n

-- a field or an element of the object is
abbrev pub Holds : Object → ℕ → Type 0
Holds o n = FieldNames o.fields n ⊎ SomeNames o.elements n

-- x is at or below n
pub data Below (h : Objects) (n : ℕ) : ℕ → Type 0 where
  Here : {x : ℕ} → n ≡ x → Below h n x
  Then : {x : ℕ} (y : ℕ) (o : Object) → Below h n y → get h y ≡ Some o → Holds o x → Below h n x

-- the locals from the i-th on that are live
abbrev pub LiveNames : (ℕ → Bool) → ℕ → List Value → ℕ → Type 0
LiveNames live i [] n = ⊥
LiveNames live i (v ∷ vs) n = ((live i ≡ true) × Names v n) ⊎ LiveNames live (suc i) vs n

-- Which locals count, by method, place and slot: of the top frame, and of one below it. A lower frame has the place behind its
-- call, and the call's arguments are no longer on its stack. A local of it may count where it is live after the call, and where it
-- is live at a handler whose range has the call.
pub record Liveness : Type 0 where
  pub top : MethodId → ℕ → ℕ → Bool
  pub below : MethodId → ℕ → ℕ → Bool

abbrev pub LowerName : Liveness → List Activation → ℕ → Type 0
LowerName live [] n = ⊥
LowerName live (f ∷ fs) n = SomeNames f.stack n ⊎ (LiveNames (live.below f.method f.place) 0 f.locals n ⊎ LowerName live fs n)

abbrev pub FramesName : Liveness → List Activation → ℕ → Type 0
FramesName live [] n = ⊥
FramesName live (f ∷ fs) n = SomeNames f.stack n ⊎ (LiveNames (live.top f.method f.place) 0 f.locals n ⊎ LowerName live fs n)

abbrev pub MaybeNames : Option ℕ → ℕ → Type 0
MaybeNames None n = ⊥
MaybeNames (Some m) n = m ≡ n

-- Task 0 also reaches the object that it keeps. An ended thread reaches nothing.
abbrev pub OptionNames : Liveness → Option Thread → Option ℕ → ℕ → Type 0
OptionNames live None kept n = ⊥
OptionNames live (Some (Ended cause)) kept n = ⊥
OptionNames live (Some (Alive frames done boxes)) kept n = FramesName live frames n ⊎ MaybeNames kept n

-- what a thread reaches: what is at or below an object that its frames name, or that it keeps
abbrev pub Reaches : Liveness → State → ℕ → ℕ → Type 0
Reaches live s t x = (n : ℕ) × OptionNames live (slice_get s.threads t) (kept_by s t) n × Below s.heap n x

abbrev pub IsQueued : List (ℕ × ℕ) → ℕ → ℕ → Type 0
IsQueued [] i n = ⊥
IsQueued (e ∷ es) i n = ((e.0 ≡ i) × (e.1 ≡ n)) ⊎ IsQueued es i n

abbrev pub QueueReaches : State → BoxName → ℕ → ℕ → Type 0
QueueReaches s box i x = (n : ℕ) × IsQueued (s.mailboxes box).queue i n × Below s.heap n x

-- No object is reached by two threads, by a thread and a place in a queue, or by two places in queues. Strings and
-- mailboxes are values, and no objects.
pub record Isolated (live : Liveness) (s : State) : Type 0 where
  pub threads : (t u x : ℕ) → Reaches live s t x → Reaches live s u x → t ≡ u
  pub places : (t : ℕ) (box : BoxName) (i x : ℕ) → Reaches live s t x → QueueReaches s box i x → ⊥
  pub queues : (a b : BoxName) (i j x : ℕ) → QueueReaches s a i x → QueueReaches s b j x → (a ≡ b) × (i ≡ j)

-- in no interleaving
abbrev pub PlaysIsolated : Liveness → Setting → Type 0
PlaysIsolated live setting = (schedule : List ℕ) → Isolated live (played setting schedule)
