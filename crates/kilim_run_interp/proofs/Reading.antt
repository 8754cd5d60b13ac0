-- What the effect of a frame's instruction says before it is done.
use Rattle.std.proofs.Common.{◌≡◌, ◌∙◌, ap, subst, ℕ, ◌<◌, ◌≤◌, List, [], ◌∷◌, Some, None, length, arith}
use Rattle.kilim_program.specs.declared.class.Method.{Method}
use Rattle.kilim_program.specs.declared.instr.Instr.{Instr}
use Rattle.kilim_program.specs.declared.names.MethodId.{MethodId}
use Rattle.kilim_program.specs.declared.value.Value.{Value}
use Rattle.kilim_program.specs.Lengths.{fetched}
use Rattle.kilim_program.specs.Names.{method_at}
use Rattle.kilim_program.specs.Program.{Program}
use Rattle.kilim_run_state.specs.Machine.{Activation, Objects}
use Rattle.kilim_run_machine.specs.Effect.{Effect}
use Rattle.kilim_run_machine.specs.Effect as effect
use Rattle.kilim_run_machine.specs.Does.{does}
use Rattle.kilim_run_machine.specs.Moves.{effect_found, effect_in, effect_of}
use Rattle.kilim_run_state.specs.declared.frames.frame.Frame.{Frame}
use Rattle.kilim_run_state.specs.declared.frames.frames.Frames.{Frames}
use Rattle.kilim_run_state.specs.frames.Calls.{below_of}
use Rattle.kilim_run_rows.specs.declared.outcome.Moved.{Moved}
use Rattle.kilim_run_rows.specs.declared.outcome.Moved.TheVariants.{Next, Jump, Made, Opened, Called, Asked, Returned, ReturnedValue, Raised, Thrown, Ended, NoMemory}
use Rattle.kilim_run_rows.specs.Outcome.{Shows, height, returned_by}
use Rattle.kilim_run_interp.specs.Step.{CallerFits, CanSettle, FitsStack, stack_limit}

pub effect_is : (p : Program) (a : Activation) (h : Objects) (own : Method) (i : Instr) (next : ℕ) → method_at p a.method ≡ Some own → fetched own.code own.code_length a.place ≡ Some (i, next) →
    effect_of p a h ≡ does p own i next a.locals a.stack h
effect_is p a h own i next there found = ap (effect_in p a h) there ∙ ap (effect_found p own a h) found

pub height_fits : (p : Program) (e : Effect) (m : MethodId) (below : List Activation) → FitsStack p e m below → height e ≤ stack_limit p m
height_fits p (effect.Goes place ls st h) m below fits = fits
height_fits p (effect.Makes object place ls st h) m below fits = fits
height_fits p (effect.Opens place ls st h) m below fits = fits
height_fits p (effect.Calls id args place ls st h) m below fits = fits
height_fits p (effect.Asks id args place ls st h) m below fits = fits
height_fits p (effect.Returns None h) m below fits = omega arith
height_fits p (effect.Returns (Some v) h) m below fits = omega arith
height_fits p (effect.Raises c) m below fits = omega arith
height_fits p (effect.Throws object class c) m below fits = omega arith
height_fits p (effect.Ends c) m below fits = omega arith
height_fits p effect.Stuck m below fits = omega arith

value_fits : (p : Program) (own : Method) (e : Effect) (m : MethodId) (below : List Activation) (st : List Value) (k : Objects) → 0 < length st → e ≡ effect.Returns (returned_by own st) k → FitsStack p e m below → CallerFits p below
value_fits p own e m below [] k some is fits = absurd (omega (arith, some))
value_fits p own e m below (v ∷ rest) k some is fits = subst (λ (x : Effect). FitsStack p x m below) is fits

pub can_settle : (p : Program) (own : Method) (e : Effect) (next : ℕ) (moved : Moved) (before : Frame) (f : Frames) (h k : Objects) (m : MethodId) →
    Shows own e next moved before f.top h k → FitsStack p e m (below_of f) → CanSettle p moved f
can_settle p own e next Next before f h k m shows fits = tt
can_settle p own e next (Jump to) before f h k m shows fits = tt
can_settle p own e next (Made at) before f h k m shows fits = tt
can_settle p own e next Opened before f h k m shows fits = tt
can_settle p own e next (Called id n) before f h k m shows fits = shows.0
can_settle p own e next (Asked id n) before f h k m shows fits = shows.0
can_settle p own e next Returned before f h k m shows fits = tt
can_settle p own e next ReturnedValue before f h k m shows fits = (shows.0, value_fits p own e m (below_of f) f.top.stack.values k shows.0 shows.1 fits)
can_settle p own e next (Raised c) before f h k m shows fits = tt
can_settle p own e next (Thrown at class c) before f h k m shows fits = tt
can_settle p own e next (Ended c) before f h k m shows fits = tt
can_settle p own e next NoMemory before f h k m shows fits = tt
