-- A thread on a heap of its own, with a list of deeds. Beside each frame stands the receiver with which it began, which no
-- step reads.
use Rattle.std.specs.Prelude.{ℕ, zero, suc, nat_lt, false, if◌then◌else◌, List, [], ◌∷◌, Option, Some, None, length}
use Rattle.kilim_run_state.specs.declared.cause.EndCause.{EndCause}
use Rattle.kilim_run_state.specs.declared.cause.EndCause.TheVariants as cause
use Rattle.kilim_program.specs.declared.class.Method.{Method}
use Rattle.kilim_program.specs.declared.instr.Instr.{Instr}
use Rattle.kilim_program.specs.declared.names.ClassId.{ClassId}
use Rattle.kilim_program.specs.declared.names.MethodId.{MethodId}
use Rattle.kilim_program.specs.declared.ty.Qualifier.TheVariants.{Safe}
use Rattle.kilim_program.specs.declared.value.Value.{Value}
use Rattle.kilim_program.specs.declared.value.Value.TheVariants.{Null, Ref}
use Rattle.kilim_program.specs.Program.{Program}
use Rattle.kilim_program.specs.Names.{method_at}
use Rattle.kilim_program.specs.Members.{execute_of}
use Rattle.kilim_run_machine.specs.Natives.{native_of}
use Rattle.kilim_run_machine.specs.Effect.{Effect, Goes, Makes, Opens, Calls, Asks, Returns, Raises, Throws, Ends, Stuck}
use Rattle.kilim_run_machine.specs.Does.{does}
use Rattle.kilim_run_machine.specs.Moves.{frame_limit, entered}
use Rattle.kilim_program.specs.Lengths.{fetched}
use Rattle.kilim_run_model.specs.State.{Setting}
use Rattle.kilim_run_machine.specs.Raising.{call_in, caught_behind, caught_in, index_at, other_index, raised_class}
use Rattle.kilim_run_state.specs.Machine.{Activation}
use Rattle.kilim_fiber_spec.specs.Acts.{World, Over, Lost, counted, with_heap, ending, spending, makes, opens_box, asks, thrown_to, raises}

-- the instruction at a place of a method, and the place behind it
abbrev pub code_in : Option Method → ℕ → Option (Instr × ℕ)
code_in None p = None
code_in (Some method) p = fetched method.code method.code_length p

abbrev pub fetch : Program → MethodId → ℕ → Option (Instr × ℕ)
fetch program m p = code_in (method_at program m) p

-- the method of a frame; where there is none, no instruction is found either
abbrev pub no_method : Method
no_method = record {
  name = [];
  owner = record { 0 = 0 };
  params = [];
  result = None;
  is_static = false;
  is_private = false;
  is_abstract = false;
  built_in = false;
  pausable = false;
  receiver = Safe;
  qualifiers = [];
  max_stack = 0;
  max_locals = 0;
  code_length = 0;
  code = [];
  frames = [];
  handlers = [];
}

abbrev pub own_in : Option Method → Method
own_in None = no_method
own_in (Some method) = method

abbrev pub own_of : Program → MethodId → Method
own_of program m = own_in (method_at program m)

-- a frame below the top one: it stands at the place behind its call; `self` is the receiver with which it began
pub data Frame : Type 0 where
  At : (m : MethodId) (place : ℕ) (locals stack : List Value) (self : Value) → Frame

pub data Thread : Type 0 where
  Run : (m : MethodId) (place : ℕ) (locals stack : List Value) (self : Value) (below : List Frame) (w : World) → Thread
  Stop : Over → Thread

abbrev pub push : Option Value → List Value → List Value
push None s = s
push (Some v) s = v ∷ s

-- the receiver, for a static method nothing
abbrev pub first_of : List Value → Value
first_of [] = Null
first_of (v ∷ vs) = v

abbrev pub self_in : Option Method → List Value → Value
self_in None args = Null
self_in (Some method) args = if method.is_static then Null else first_of args

abbrev pub self_of : Program → MethodId → List Value → Value
self_of program m args = self_in (method_at program m) args

abbrev pub frame : MethodId → ℕ → List Value → List Value → Activation
frame m p l s = record { method = m; place = p; locals = l; stack = s }

-- ---- the frames that are left where an object is thrown: those of kilim_run_machine, each with its receiver

abbrev pub or_left : Value → Option Activation → (rest left : List Frame) → List Frame
or_left x None rest left = left
or_left x (Some a) rest left = At a.method a.place a.locals a.stack x ∷ rest

abbrev pub left_behind : Program → ClassId → Value → List Frame → List Frame
left_behind p c v [] = []
left_behind p c v (At m q l s x ∷ b) = or_left x (caught_behind p c v (frame m q l s) (call_in (method_at p m) q)) b (left_behind p c v b)

-- where the top frame, which began with `x`, stands at the instruction that throws
abbrev pub left_at : Program → ClassId → Value → Activation → Value → List Frame → List Frame
left_at p c v top x b = or_left x (caught_in p c v top top.place (method_at p top.method)) b (left_behind p c v b)

module _ (set : Setting) where
  -- `execute` begins behind the constructor of task 0, or where it is the built-in one, the task is done
  abbrev pub begins_in : MethodId → ℕ → World → World → Option Method → Thread
  begins_in m n w after None = Stop Lost
  begins_in m n w after (Some method) =
      if method.built_in then ending set w Stop cause.Done else Run m 0 (entered set.program m (Ref n ∷ [])).locals [] (Ref n) [] after

  abbrev pub begins : ℕ → World → World → Option MethodId → Thread
  begins n w after None = Stop Lost
  begins n w after (Some m) = begins_in m n w after (method_at set.program m)

  -- A started task begins with its `execute`. Where that is the built-in one, the task is done in its first move; but one that may do no
  -- instruction is spent, before anything else is looked at.
  abbrev pub started_in : MethodId → ℕ → World → Option Method → Thread
  started_in m n w None = Stop Lost
  started_in m n w (Some method) =
      if method.built_in then spending set w Stop (ending set w Stop cause.Done) else Run m 0 (entered set.program m (Ref n ∷ [])).locals [] (Ref n) [] w

  abbrev pub started : ℕ → World → Option MethodId → Thread
  started n w None = Stop Lost
  started n w (Some m) = started_in m n w (method_at set.program m)

  -- the last frame returned: that of task 0's constructor, or that of `execute`
  abbrev pub finishes : World → Option ℕ → Thread
  finishes w None = ending set w Stop cause.Done
  finishes w (Some n) = begins n w (record (counted w) { kept = None }) (execute_of set.program set.main)

  abbrev pub returns : Option Value → List Frame → World → Thread
  returns v [] w = finishes w w.kept
  returns v (At m p l s x ∷ b) w = Run m p l (push v s) x b (counted w)

  abbrev pub calls : MethodId → List Value → List Frame → World → Thread
  calls m args b w = if nat_lt (length b) frame_limit then Run m 0 (entered set.program m args).locals [] (self_of set.program m args) b (counted w) else ending set w Stop cause.Depth

  abbrev pub stands_at : Frame → List Frame → World → Thread
  stands_at (At m p l s x) b w = Run m p l s x b w

  -- something is wrong with a value of a built-in method, behind whose call the frames stand
  abbrev pub raised_behind : List Frame → World → EndCause → Thread
  raised_behind b w why = raises set Stop stands_at (counted w) why set.program (λ c. left_behind set.program c (Ref w.next) b) (raised_class set.program other_index why)

  -- `top` is the top frame and w the world before the instruction, but for the heap.
  abbrev pub effect_does : Effect → Activation → Value → List Frame → World → Thread
  effect_does (Goes p l s heap) top x b w = Run top.method p l s x b (counted (with_heap w heap))
  effect_does (Makes object p l s heap) top x b w = makes set w Stop (λ after v. Run top.method p l (push v s) x b after) object (counted (with_heap w heap))
  effect_does (Opens p l s heap) top x b w = opens_box set (with_heap w heap) Stop (λ after v. Run top.method p l (push v s) x b after) (counted (with_heap w heap))
  effect_does (Calls c args p l s heap) top x b w = calls c args (At top.method p l s x ∷ b) (with_heap w heap)
  effect_does (Asks c args p l s heap) top x b w =
      asks set (with_heap w heap) Stop (λ after v. Run top.method p l (push v s) x b after) (raised_behind (At top.method p l s x ∷ b) (with_heap w heap)) (native_of set.program c) args
  effect_does (Returns v heap) top x b w = returns v b (with_heap w heap)
  effect_does (Raises why) top x b w = raises set Stop stands_at (counted w) why set.program (λ c. left_at set.program c (Ref w.next) top x b) (raised_class set.program (index_at set.program top) why)
  effect_does (Throws n c why) top x b w = thrown_to set Stop stands_at (counted w) why (counted w) (left_at set.program c (Ref n) top x b)
  effect_does (Ends why) top x b w = ending set w Stop why
  effect_does Stuck top x b w = Stop Lost

  abbrev pub found_does : Option (Instr × ℕ) → Activation → Value → List Frame → World → Thread
  found_does None top x b w = Stop Lost
  found_does (Some i) top x b w = effect_does (does set.program (own_of set.program top.method) i.0 i.1 top.locals top.stack w.heap) top x b w

  abbrev pub step : Thread → Thread
  step (Run m p l s x b w) = spending set w Stop (found_does (fetch set.program m p) (frame m p l s) x b w)
  step (Stop over) = Stop over

  abbrev pub steps : ℕ → Thread → Thread
  steps zero t = t
  steps (suc n) t = steps n (step t)
