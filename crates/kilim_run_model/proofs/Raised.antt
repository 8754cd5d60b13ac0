-- What comes of what is raised or thrown: the task goes on at a handler, or ends; where nothing catches, it ends.
use Rattle.std.proofs.Common.{◌≡◌, ℕ, ◌+◌, List, [], ◌∷◌, Option, Some, None, refl, ap, ◌∙◌}
use Rattle.kilim_program.specs.declared.names.ClassId.{ClassId}
use Rattle.kilim_program.specs.declared.value.Value.TheVariants.{Ref}
use Rattle.kilim_program.specs.Program.{Program}
use Rattle.kilim_run_state.specs.declared.cause.EndCause.{EndCause}
use Rattle.kilim_run_state.specs.declared.value.Object.{Object}
use Rattle.kilim_run_state.specs.Machine.{Activation}
use Rattle.kilim_run_state.specs.Objects.{new_object}
use Rattle.kilim_run_machine.specs.Raising.{NoTables, index_at, other_index, raised_class, thrown, unwound}
use Rattle.kilim_run_machine.proofs.Uncaught.{thrown_none, unwound_none}
use Rattle.kilim_run_model.specs.State.{Thread, Alive, Ended}
use Rattle.kilim_run_model.specs.Lone.{Lone, Next, Goes, made_at, over, raised, raised_in, raises_by, raises_next, raises_of, throws_by}

-- ---- what holds of the end and of each frame that is left

module _ (P : Next → Type 0) (l : Lone) (why : EndCause) (ends : P (over l why)) where
  pub throws_has : (done boxes : ℕ) (left : List Activation) → ((f : Activation) (fs : List Activation) → P (Goes (record l { thread = Alive (f ∷ fs) done boxes }))) → P (throws_by l why done boxes left)
  throws_has done boxes [] each = ends
  throws_has done boxes (f ∷ fs) each = each f fs

  by_has : (object : Object) (done boxes : ℕ) (left : List Activation) → ((f : Activation) (fs : List Activation) → P (Goes (made_at l object (f ∷ fs) done boxes))) → P (raises_by l object why done boxes left)
  by_has object done boxes [] each = ends
  by_has object done boxes (f ∷ fs) each = each f fs

  module _ (p : Program) where
    of_has : (done boxes : ℕ) (left : ClassId → List Activation) (o : Option ClassId) → ((object : Object) (f : Activation) (fs : List Activation) → P (Goes (made_at l object (f ∷ fs) done boxes))) → P (raises_of p l why done boxes left o)
    of_has done boxes left None each = ends
    of_has done boxes left (Some c) each = by_has (new_object p c) done boxes (left c) (each (new_object p c))

    pub raises_has : (done boxes : ℕ) (top : Activation) (below : List Activation) → ((object : Object) (f : Activation) (fs : List Activation) → P (Goes (made_at l object (f ∷ fs) (done + 1) boxes))) → P (raises_next p l done boxes top below why)
    raises_has done boxes top below each = of_has (done + 1) boxes (λ c. thrown p c (Ref l.next) top below) (raised_class p (index_at p top) why) each

    pub raised_in_has : (th : Thread) → ((object : Object) (f : Activation) (fs frames : List Activation) (done boxes : ℕ) → th ≡ Alive frames done boxes → P (Goes (made_at l object (f ∷ fs) done boxes))) → P (raised_in p l why th)
    raised_in_has (Ended c) each = ends
    raised_in_has (Alive frames done boxes) each = of_has done boxes (λ c. unwound p c (Ref l.next) frames) (raised_class p other_index why) (λ object f fs. each object f fs frames done boxes refl)

    pub raised_has : ((object : Object) (f : Activation) (fs frames : List Activation) (done boxes : ℕ) → l.thread ≡ Alive frames done boxes → P (Goes (made_at l object (f ∷ fs) done boxes))) → P (raised p l why)
    raised_has each = raised_in_has l.thread each

-- ---- where nothing catches

module _ (p : Program) (none : NoTables p) (l : Lone) (why : EndCause) where
  of_over : (done boxes : ℕ) (left : ClassId → List Activation) → ((c : ClassId) → left c ≡ []) → (o : Option ClassId) → raises_of p l why done boxes left o ≡ over l why
  of_over done boxes left all None = refl
  of_over done boxes left all (Some c) = ap (raises_by l (new_object p c) why done boxes) (all c)

  pub raises_over : (done boxes : ℕ) (top : Activation) (below : List Activation) → raises_next p l done boxes top below why ≡ over l why
  raises_over done boxes top below = of_over (done + 1) boxes (λ c. thrown p c (Ref l.next) top below) (λ c. thrown_none p none c (Ref l.next) top below) (raised_class p (index_at p top) why)

  in_over : (th : Thread) → raised_in p l why th ≡ over l why
  in_over (Ended c) = refl
  in_over (Alive frames done boxes) = of_over done boxes (λ c. unwound p c (Ref l.next) frames) (λ c. unwound_none p none c (Ref l.next) frames) (raised_class p other_index why)

  pub raised_over : raised p l why ≡ over l why
  raised_over = in_over l.thread

  pub throws_over : (done boxes n : ℕ) (c : ClassId) (top : Activation) (below : List Activation) → throws_by l why done boxes (thrown p c (Ref n) top below) ≡ over l why
  throws_over done boxes n c top below = ap (throws_by l why done boxes) (thrown_none p none c (Ref n) top below)
