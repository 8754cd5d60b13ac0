-- What makes calls again at a pause: what is saved passes the casts of the woven code, and each call comes to the same method. So a fiber
-- of the woven form of an accepted program does what the task does, from nothing open on its run.
use Rattle.std.specs.Prelude.{◌≡◌, ◌≢◌, ℕ, Bool, true, false, if◌then◌else◌, List, [], ◌∷◌, ◌++◌, Some, None, codes, reverse, slice_get}
use Rattle.std.specs.List.{list_any}
use Rattle.kilim_program.specs.declared.class.Form.TheVariants.{Plain}
use Rattle.kilim_program.specs.declared.class.Method.{Method}
use Rattle.kilim_program.specs.declared.instr.Instr.{Instr}
use Rattle.kilim_program.specs.declared.names.ClassId.{ClassId}
use Rattle.kilim_program.specs.declared.names.MethodId.{MethodId}
use Rattle.kilim_program.specs.declared.ty.Ty.{Ty}
use Rattle.kilim_program.specs.declared.value.Value.{Value}
use Rattle.kilim_program.specs.declared.value.Value.TheVariants.{Ref}
use Rattle.kilim_program.specs.declared.verified.VType.{VType}
use Rattle.kilim_program.specs.Keeps.{Keeps}
use Rattle.kilim_program.specs.Names.{is_task, method_at}
use Rattle.kilim_program.specs.Program.{Program}
use Rattle.kilim_type_sound.specs.Fits.{AreThere, Classes, HeapFits, Holds, IsThere, have_types}
use Rattle.kilim_run_machine.specs.Does.{does}
use Rattle.kilim_run_machine.specs.Effect.{Calls}
use Rattle.kilim_program.specs.Members.{named_type}
use Rattle.kilim_run_state.specs.Machine.{Objects}
use Rattle.kilim_program.specs.Members.{execute_of}
use Rattle.kilim_run_machine.specs.Moves.{entered}
use Rattle.kilim_isolation_laws.specs.Laws.{IsRunOfAccepted}
use Rattle.kilim_run_model.specs.State.{Setting}
use Rattle.kilim_type_spec.specs.Step.{is_unset, peek, vtype}
use Rattle.kilim_type_spec.specs.Typed.{IsLive}
use Rattle.kilim_fiber_laws.specs.simulation.beginnings.Law.{ServesAlong}
use Rattle.kilim_fiber_laws.specs.receivers.called.Law.{Boundary}
use Rattle.kilim_weave_spec.specs.Form.{WovenForm}
use Rattle.kilim_weave_spec.specs.Woven.{saved_from}
use Rattle.kilim_weave_laws.specs.woven_programs.keeps.Law.{NoneIsTooLong}
use Rattle.kilim_weave_laws.specs.woven_program.Made.{woven_counted, woven_program}
use Rattle.kilim_fiber_laws.specs.receivers.Law.{IsBegun}
use Rattle.kilim_fiber_spec.specs.alike.Shares.{Agree}
use Rattle.kilim_fiber_spec.specs.Acts.{Lost, World}
use Rattle.kilim_fiber_spec.specs.Fibers.{enter, new_fiber, wstarted}
use Rattle.kilim_fiber_spec.specs.Form.{is_pausable}
use Rattle.kilim_fiber_spec.specs.Links.{AllFit, Forms, SlotsFit, again, code, dummy_value}
use Rattle.kilim_fiber_laws.specs.stands.Law.{IsFormOf}
use Rattle.kilim_fiber_spec.specs.Rows.{OldHeap}
use Rattle.kilim_fiber_spec.specs.Runs.{most_uncounted}
use Rattle.kilim_fiber_spec.specs.Serves.{From, Serves}
use Rattle.kilim_fiber_spec.specs.Thread.{Run, Stop, Thread, fetch, self_of, started}

-- Values of verification types, of which none is uninitialized, and whose objects are in the heap, are so in the woven program: a stack,
-- and the locals that are live.
abbrev pub ValuesFit : Type 0
ValuesFit =
    (P W : Program) → Agree P W → named_type P (codes "kilim/Fiber") ≡ None → (of : Classes) (h : Objects) → HeapFits P of h → OldHeap P h → (own : Method) →
    ((ts : List VType) (vs : List Value) → have_types P own of ts vs ≡ true → list_any is_unset ts ≡ false → AreThere h vs → AllFit W h ts vs)
    × ((live : ℕ → Bool) (l : List Value) (ts : List VType) → list_any is_unset ts ≡ false → ((j : ℕ) → Holds P own of (peek ts j) (slice_get l j)) → ((j : ℕ) → live j ≡ true → (v : Value) → slice_get l j ≡ Some v → IsThere h v) → SlotsFit W h (saved_from live 0 ts) l)

-- the dummies for the parameters, the last one's first
abbrev pub dummies_down : List Ty → List Value
dummies_down [] = []
dummies_down (ty ∷ tys) = dummies_down tys ++ dummy_value (vtype ty) ∷ []

-- the arguments with which a call is made again
abbrev pub new_args : Method → Value → List Value
new_args named y = if named.is_static then reverse (dummies_down named.params) else y ∷ reverse (dummies_down named.params)

-- The call at which a frame stands, made again with its receiver and dummies for arguments, enters the same method.
abbrev pub CallsAgain : Type 0
CallsAgain =
    (P : Program) (of : Classes) (h : Objects) → HeapFits P of h → (c : MethodId) (y : Value) (m : MethodId) (to : ℕ) (l s : List Value) → (b : Boundary P of c y m to l s) → IsThere h y → (l2 s2 : List Value) →
    does P b.own b.i to l2 (again b.named y s2) h ≡ Calls c (new_args b.named y) to l2 s2 h

-- The `execute` of a task class is the same method in the woven program.
abbrev pub ExecuteIsSame : Type 0
ExecuteIsSame = (P W : Program) (counted : List (List Bool)) → Keeps P → P.form ≡ Plain → WovenForm P W counted → (c : ClassId) → is_task P c ≡ true → execute_of W c ≡ execute_of P c

-- Before a place there stands one instruction.
abbrev pub OneBefore : Type 0
OneBefore = (P : Program) → Keeps P → (m : MethodId) (a b : ℕ) (i j : Instr) (to : ℕ) → fetch P m a ≡ Some (i, to) → fetch P m b ≡ Some (j, to) → (a ≡ b) × (i ≡ j)

-- ---- the theorem

-- it begins as a task does, or is over, and not where no verified code comes
abbrev pub MayBegin : Setting → Thread → Type 0
MayBegin set (Run m p l s x b w) = IsBegun set (Run m p l s x b w)
MayBegin set (Stop o) = o ≢ Lost

-- A fiber of the woven program does what the task does: wherever it stands with its thread; from the beginning of the constructor of
-- task 0 on; and from where the `execute` of a started task begins, the task's own or the built-in one.
pub record ServesTasks (set : Setting) (W : Program) (marks : List (List Bool)) (form : Forms set W marks) : Type 0 where
  pub serves : (first : Thread) → MayBegin set first → Serves set W marks form most_uncounted (From set first)
  pub constructs : (c : MethodId) (w : World) (ps : List ℕ) → is_pausable set.program c ≡ false → MayBegin set (Run c 0 (entered set.program c (Ref 0 ∷ [])).locals [] (self_of set.program c (Ref 0 ∷ [])) [] w)
      → ServesAlong set W marks form most_uncounted (Run c 0 (entered set.program c (Ref 0 ∷ [])).locals [] (self_of set.program c (Ref 0 ∷ [])) [] w) (enter set W marks c (Ref 0 ∷ []) [] new_fiber w ps)
  pub executes : (class : ClassId) (c : MethodId) (w : World) (ps : List ℕ) → is_task set.program class ≡ true → execute_of set.program class ≡ Some c → MayBegin set (started set 0 w (Some c))
      → ServesAlong set W marks form most_uncounted (started set 0 w (Some c)) (wstarted set W marks 0 w new_fiber ps (Some c))

-- Of a run of an accepted program of which no method is too long to be woven, where each method's table tells which slots are live: a
-- fiber of the program that weaving makes does what the task does, whatever the task does.
abbrev pub TasksServe : Type 0
TasksServe =
    (set : Setting) → IsRunOfAccepted set → NoneIsTooLong set.program → (lives : MethodId → ℕ → ℕ → Bool) → ((id : MethodId) (m : Method) → method_at set.program id ≡ Some m → IsLive m (lives id)) →
    (form : Forms set (woven_program set.program lives) (woven_counted set.program lives)) × ServesTasks set (woven_program set.program lives) (woven_counted set.program lives) form

-- The same of each woven form of the program, and by old place each woven method has its form.
pub record FormServes (set : Setting) (W : Program) (marks : List (List Bool)) : Type 0 where
  pub form : Forms set W marks
  pub is : (m : MethodId) (a : Method) → method_at set.program m ≡ Some a → IsFormOf set.program W (code set W marks) m (form m) a
  pub serves : ServesTasks set W marks form

abbrev pub WovenFormsServe : Type 0
WovenFormsServe = (set : Setting) → IsRunOfAccepted set → NoneIsTooLong set.program → (W : Program) (marks : List (List Bool)) → WovenForm set.program W marks → FormServes set W marks
