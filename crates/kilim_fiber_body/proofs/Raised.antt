-- What a built-in method that was handed out raises.
use Rattle.std.proofs.Common.{◌≡◌, ◌∙◌, ◌+◌, sym, ap, ℕ, [], Option, Some}
use Rattle.kilim_program.specs.declared.names.ClassId.{ClassId}
use Rattle.kilim_program.specs.declared.value.Value.{Value}
use Rattle.kilim_program.specs.declared.value.Value.TheVariants.{Ref}
use Rattle.kilim_program.specs.Program.{Program}
use Rattle.kilim_run_state.specs.declared.cause.EndCause.{EndCause}
use Rattle.kilim_run_state.specs.declared.frames.frames.Frames.{Frames}
use Rattle.kilim_run_state.specs.frames.Calls.{answered}
use Rattle.kilim_run_state.specs.Machine.{Objects}
use Rattle.kilim_run_state.specs.Objects.{new_object}
use Rattle.kilim_run_machine.specs.Raising.{other_index, raised_class, unwound}
use Rattle.kilim_run_interp.specs.Catching.{IsCaught}
use Rattle.kilim_fiber_laws.specs.woven_kin.Nexts.{Ends, Goes, counted, raised, raises, thrown_to, with_new}
use Rattle.kilim_fiber_body.specs.Body.{answered_in, behind_at, standing_at}
use Rattle.kilim_fiber_body.specs.Comes.{ComesBy}
use Rattle.kilim_fiber_body.specs.declared.body.Body.{Body}
use Rattle.kilim_fiber_body.specs.declared.body.Came.TheVariants as came
use Rattle.kilim_fiber_body.proofs.Asking.{uncaught, takes_none}

module _ (W : Program) (why : EndCause) (b : Body) (frames : Frames) (is : b.frames ≡ Some frames) where
  -- the frames that are left
  left_is : (c : ClassId) (v : Value) → unwound W c v (answered_in b.frames) ≡ unwound W c v (answered frames)
  left_is c v = ap (λ (o : Option Frames). unwound W c v (answered_in o)) is

  -- it is caught: the object is there, and is counted
  module _ (name : ℕ) (new : Frames) (k : Objects) (r : IsCaught W (raised_class W other_index why) (λ c v. unwound W c v (answered frames)) name new b.heap k) where
    goes : raised W (behind_at name b) why ≡ Goes (standing_at (name + 1) (record b { frames = Some new; heap = k; count = b.count + 1 }))
    goes =
        ap (raises W (counted (behind_at name b)) why (λ c. unwound W c (Ref name) (answered_in b.frames))) r.is
        ∙ (ap (thrown_to (with_new (counted (behind_at name b)) (new_object W r.of)) why) (left_is r.of (Ref name) ∙ sym r.frames)
        ∙ ap (λ (z : Objects). Goes (standing_at (name + 1) (record b { frames = Some new; heap = z; count = b.count + 1 }))) (sym r.added))

    pub raised_on : ComesBy b.heap (λ x. raised W (behind_at x b) why) (record b { frames = Some new; heap = k; count = b.count + 1 }) came.On
    raised_on = record { name = name; free = λ takes. r.fresh; after = name + 1; comes = goes }

  -- nothing catches it
  pub not_raised : (new : Body) → ((c : ClassId) → raised_class W other_index why ≡ Some c → (v : Value) → unwound W c v (answered frames) ≡ []) → ComesBy b.heap (λ x. raised W (behind_at x b) why) new (came.Ends why)
  not_raised new none =
      let ends : raised W (behind_at 0 b) why ≡ Ends why =
      uncaught W (counted (behind_at 0 b)) why (λ c. unwound W c (Ref 0) (answered_in b.frames)) (raised_class W other_index why) (λ c known. left_is c (Ref 0) ∙ none c known (Ref 0)) in
      record { name = 0; free = λ takes. absurd (takes_none (raised W (behind_at 0 b) why) new (came.Ends why) ends takes); after = 0; comes = ends }
