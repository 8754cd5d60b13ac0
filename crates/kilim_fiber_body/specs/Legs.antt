-- What a run of instructions comes to.
use Rattle.std.specs.Prelude.{◌≡◌, ℕ, Bool, List}
use Rattle.kilim_program.specs.declared.names.MethodId.{MethodId}
use Rattle.kilim_program.specs.Program.{Program}
use Rattle.kilim_fiber_steps.specs.declared.runs.Halted.{Halted}
use Rattle.kilim_fiber_steps.specs.declared.runs.Halted.TheVariants as halted
use Rattle.kilim_run_state.specs.declared.cause.EndCause.TheVariants as cause
use Rattle.kilim_run_machine.specs.Natives.{native_of}
use Rattle.kilim_run_state.specs.Machine.{Objects}
use Rattle.kilim_run_model.specs.State.{Setting}
use Rattle.kilim_fiber_laws.specs.woven_kin.Standing.{Standing}
use Rattle.kilim_fiber_laws.specs.woven_kin.Nexts.{Next, Ends, asks_next, finish_next, next_of, opens_next}
use Rattle.kilim_fiber_body.specs.Body.{behind_at, operands_in, standing_at, HasOperands, RoomIn}
use Rattle.kilim_fiber_body.specs.Comes.{CanAsk}
use Rattle.kilim_fiber_body.specs.Reach.{GoesTo, named}
use Rattle.kilim_fiber_body.specs.declared.body.Body.{Body}

-- It goes on by itself for a while, and then that comes next.
pub record ComesTo (set : Setting) (W : Program) (marks : List (List Bool)) (t : ℕ) (first : Standing) (next : Next) : Type 0 where
  pub mid : Standing
  pub goes : GoesTo set W marks t first mid
  pub is : next_of set W marks t (named 0 mid) ≡ next

-- It goes on by itself for a while, up to this heap, and then that comes next, by the next name.
pub record ComesToAny (set : Setting) (W : Program) (marks : List (List Bool)) (t : ℕ) (first : Standing) (h : Objects) (next : ℕ → Next) : Type 0 where
  pub mid : Standing
  pub goes : GoesTo set W marks t first mid
  pub heap : mid.heap ≡ h
  pub is : (x : ℕ) → next_of set W marks t (named x mid) ≡ next x

-- a built-in method is called, and is to be asked
pub record IsAsking (set : Setting) (W : Program) (marks : List (List Bool)) (t : ℕ) (first : Standing) (mid : Body) (call : MethodId) : Type 0 where
  pub operands : HasOperands mid.frames
  pub can : CanAsk set.program W set.limits (native_of W call) (operands_in mid.frames) mid
  pub comes : ComesToAny set W marks t first mid.heap (λ x. asks_next set W (behind_at x mid) (operands_in mid.frames) (native_of W call))

-- what comes next where a run ended, of a body with the frames and the heap that the run left
abbrev pub HasGone : Setting → Program → List (List Bool) → ℕ → Standing → Body → Bool → Halted → Type 0
HasGone set W marks t first mid counts halted.Stops = GoesTo set W marks t first (standing_at 0 mid)
HasGone set W marks t first mid counts halted.Spent = ComesTo set W marks t first (Ends cause.Spent)
HasGone set W marks t first mid counts halted.NewBox = RoomIn W mid.frames × ComesTo set W marks t first (opens_next t counts (behind_at 0 mid))
HasGone set W marks t first mid counts (halted.Asks call) = IsAsking set W marks t first mid call
HasGone set W marks t first mid counts halted.Returned = ComesTo set W marks t first (finish_next set W (standing_at 0 mid) mid.kept)
HasGone set W marks t first mid counts (halted.Ended why) = ComesTo set W marks t first (Ends why)
