-- Frames that stand at an instruction that raises or throws: what is left of them, whatever the operands of the top one are.
use Rattle.std.proofs.Common.{◌≡◌, ◌∙◌, refl, sym, ap, subst, ℕ, List, [], ◌∷◌, Some}
use Rattle.std.specs.FinMap.{get, insert}
use Rattle.kilim_program.specs.declared.names.ClassId.{ClassId}
use Rattle.kilim_program.specs.declared.value.Value.{Value}
use Rattle.kilim_program.specs.declared.value.Value.TheVariants.{Ref}
use Rattle.kilim_program.specs.Program.{Program}
use Rattle.kilim_run_state.specs.declared.cause.EndCause.{EndCause}
use Rattle.kilim_run_state.specs.declared.frames.frames.Frames.{Frames}
use Rattle.kilim_run_state.specs.frames.Calls.{activation, below_of, calls_of}
use Rattle.kilim_run_state.specs.Machine.{Activation, Objects}
use Rattle.kilim_run_state.specs.Objects.{new_object}
use Rattle.kilim_run_machine.specs.Moves.{Move}
use Rattle.kilim_run_machine.specs.Moves as move
use Rattle.kilim_run_machine.specs.Raising.{index_at, raised_class, thrown}
use Rattle.kilim_run_interp.specs.Catching.{IsCaught}
use Rattle.kilim_run_interp.specs.Step.{StandsAt}
use Rattle.kilim_fiber_steps.specs.Counted.{Caught, GoesOn, IsEnding, Thrown}

module _ (p : Program) (top : Activation) (below : List Activation) (f : Frames) (at : StandsAt (top ∷ below) f) where
  same_thrown : (c : ClassId) (v : Value) → thrown p c v (activation f.top) (below_of f) ≡ thrown p c v top below
  same_thrown c v = λ i. thrown p c v (record { method = at.0 i; place = at.1 i; locals = at.2 i; stack = f.top.stack.values }) (at.3 i)

  same_index : index_at p (activation f.top) ≡ index_at p top
  same_index = λ i. index_at p (record { method = at.0 i; place = at.1 i; locals = at.2 i; stack = f.top.stack.values })

  module _ (m : Move) (why : EndCause) (h : Objects) (new : Frames) where
    -- what is raised is caught, or not
    module _ (is : m ≡ move.Raises why) (x k : Objects) (same : x ≡ h) where
      pub raised_on : (name : ℕ) → IsCaught p (raised_class p (index_at p (activation f.top)) why) (λ c v. thrown p c v (activation f.top) (below_of f)) name new x k → GoesOn p top below m h (calls_of new) k
      raised_on name r =
          Caught why r.of name (activation new.top) (below_of new) is (ap (λ (ix : List ℕ). raised_class p ix why) (sym same_index) ∙ r.is)
          (ap (λ (z : Objects). get z name) (sym same) ∙ r.fresh) (r.added ∙ ap (λ (z : Objects). insert z name (new_object p r.of)) same)
          (sym (same_thrown r.of (Ref name)) ∙ sym r.frames) refl

    pub raised_end : m ≡ move.Raises why → ((c : ClassId) → raised_class p (index_at p (activation f.top)) why ≡ Some c → (v : Value) → thrown p c v (activation f.top) (below_of f) ≡ []) → IsEnding p top below m why
    raised_end is none = subst (λ (z : Move). IsEnding p top below z why) (sym is)
        (refl, λ c e v. sym (same_thrown c v) ∙ none c (ap (λ (ix : List ℕ). raised_class p ix why) same_index ∙ e) v)

    -- what is thrown
    module _ (object : ℕ) (class : ClassId) (is : m ≡ move.Throws object class why) where
      pub thrown_on : (k : Objects) → k ≡ h → calls_of new ≡ thrown p class (Ref object) (activation f.top) (below_of f) → GoesOn p top below m h (calls_of new) k
      thrown_on k same left = Thrown why object class (activation new.top) (below_of new) is same (sym (same_thrown class (Ref object)) ∙ sym left) refl

      pub thrown_end : thrown p class (Ref object) (activation f.top) (below_of f) ≡ [] → IsEnding p top below m why
      thrown_end none = subst (λ (z : Move). IsEnding p top below z why) (sym is) (refl, sym (same_thrown class (Ref object)) ∙ none)
