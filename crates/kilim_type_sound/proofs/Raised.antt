-- What comes of what is raised or thrown, with which frames are left.
use Rattle.std.proofs.Common.{◌≡◌, ℕ, ◌+◌, List, [], ◌∷◌, Option, Some, None, refl}
use Rattle.kilim_program.specs.declared.names.ClassId.{ClassId}
use Rattle.kilim_program.specs.declared.value.Value.TheVariants.{Ref}
use Rattle.kilim_program.specs.Program.{Program}
use Rattle.kilim_run_state.specs.declared.cause.EndCause.{EndCause}
use Rattle.kilim_run_state.specs.Machine.{Activation}
use Rattle.kilim_run_state.specs.Objects.{new_object}
use Rattle.kilim_run_machine.specs.Raising.{index_at, raised_class, thrown}
use Rattle.kilim_run_model.specs.State.{Alive}
use Rattle.kilim_run_model.specs.Lone.{Lone, Next, Goes, made_at, over, raises_by, raises_next, raises_of, throws_by}

-- what holds of the end, and of each frame that is left
module _ (P : Next → Type 0) (p : Program) (l : Lone) (why : EndCause) (ends : P (over l why)) where
  -- an object is thrown
  pub throws_has : (done boxes : ℕ) (left : List Activation) → ((f : Activation) (fs : List Activation) → left ≡ f ∷ fs → P (Goes (record l { thread = Alive (f ∷ fs) done boxes }))) → P (throws_by l why done boxes left)
  throws_has done boxes [] each = ends
  throws_has done boxes (f ∷ fs) each = each f fs refl

  -- a new object is
  by_has : (done boxes : ℕ) (c : ClassId) (frames : List Activation) → ((f : Activation) (fs : List Activation) → frames ≡ f ∷ fs → P (Goes (made_at l (new_object p c) (f ∷ fs) done boxes))) → P (raises_by l (new_object p c) why done boxes frames)
  by_has done boxes c [] each = ends
  by_has done boxes c (f ∷ fs) each = each f fs refl

  -- behind the call of a built-in method, and as it is
  pub of_has : (done boxes : ℕ) (left : ClassId → List Activation) (o : Option ClassId) → ((c : ClassId) → o ≡ Some c → (f : Activation) (fs : List Activation) → left c ≡ f ∷ fs → P (Goes (made_at l (new_object p c) (f ∷ fs) done boxes))) → P (raises_of p l why done boxes left o)
  of_has done boxes left None each = ends
  of_has done boxes left (Some c) each = by_has done boxes c (left c) (each c refl)

  -- at the instruction of the top frame
  pub raises_has : (done boxes : ℕ) (top : Activation) (below : List Activation) → ((c : ClassId) → raised_class p (index_at p top) why ≡ Some c → (f : Activation) (fs : List Activation) → thrown p c (Ref l.next) top below ≡ f ∷ fs → P (Goes (made_at l (new_object p c) (f ∷ fs) (done + 1) boxes))) →
      P (raises_next p l done boxes top below why)
  raises_has done boxes top below each = of_has (done + 1) boxes (λ c. thrown p c (Ref l.next) top below) (raised_class p (index_at p top) why) each
