-- A fiber's next instruction is fine where the machine's is.
use Rattle.std.proofs.Common.{◌≡◌, ℕ, Bool, false, not, List, [], ◌∷◌, Option, Some, None, subst, refl, ◌∙◌}
use Rattle.std.specs.Prelude.{◌&&◌, nat_le}
use Rattle.kilim_program.specs.declared.instr.Instr.{Instr}
use Rattle.kilim_program.specs.Program.{Program}
use Rattle.kilim_run_state.specs.Machine.{Activation}
use Rattle.kilim_run_model.specs.State.{Setting}
use Rattle.kilim_run_model.specs.kin.Kin.{FramesKin}
use Rattle.kilim_run_interp.specs.Run.{IsFine}
use Rattle.kilim_fiber_spec.proofs.fiber_kin.Fine.{fine_kin}
use Rattle.kilim_fiber_spec.specs.Fibers.{wfetch}
use Rattle.kilim_fiber_laws.specs.woven_kin.Standing.{Standing}
use Rattle.kilim_fiber_laws.specs.woven_kin.Alike.{Like, IsWhole, IsWholeAt, spends, spends_at}
use Rattle.kilim_fiber_laws.proofs.woven_kin.Records.{rewinding_same}

module _ (set : Setting) (W : Program) (marks : List (List Bool)) (l f : Standing) (like : Like l f) where
  spends_by : (found : Option (Instr × ℕ × Bool)) → spends set found l ≡ spends set found f
  spends_by None = refl
  spends_by (Some found) = λ i. (found.2 && not (rewinding_same like.of l.fiber f.fiber like.is.fiber i)) && nat_le set.limits.steps (like.is.done i)

  -- both are spent, or neither
  pub spends_same : (mine top : Activation) (fs below : List Activation) → FramesKin like.of (mine ∷ fs) (top ∷ below) → spends_at set W marks l mine ≡ spends_at set W marks f top
  spends_same mine top fs below e = (λ i. spends set (wfetch set W marks (e.0 i) (e.1 i)) l) ∙ spends_by (wfetch set W marks top.method top.place)

  fine_at : (own : List Activation) → IsWholeAt set W marks l own → ((top : Activation) (below : List Activation) → own ≡ top ∷ below → spends_at set W marks l top ≡ false → IsFine W top below l.heap) → (top : Activation) (below : List Activation) → FramesKin like.of own (top ∷ below) →
      spends_at set W marks f top ≡ false → IsFine W top below f.heap
  fine_at [] whole fine top below e left = absurd e
  fine_at (mine ∷ fs) whole fine top below e left =
      let same : spends_at set W marks l mine ≡ false = spends_same mine top fs below e ∙ left in
      fine_kin W like.of l.heap f.heap like.is.heaps mine top (whole same).0 fs below e (fine mine fs refl same)

  pub fine_like : IsWhole set W marks l → ((top : Activation) (below : List Activation) → l.frames ≡ top ∷ below → spends_at set W marks l top ≡ false → IsFine W top below l.heap) → (top : Activation) (below : List Activation) → f.frames ≡ top ∷ below → spends_at set W marks f top ≡ false →
      IsFine W top below f.heap
  fine_like whole fine top below e left = fine_at l.frames whole fine top below (subst (FramesKin like.of l.frames) e like.is.frames) left
