-- What a fiber of a course does next, against what the thread of the course does.
use Rattle.std.specs.Prelude.{◌≡◌, ◌≤◌, ◌<◌, ℕ, Bool, List, [], ◌∷◌, Some}
use Rattle.kilim_program.specs.declared.names.BoxName.{BoxName}
use Rattle.kilim_program.specs.declared.value.Value.TheVariants.{Null, Ref}
use Rattle.kilim_program.specs.Program.{Program}
use Rattle.kilim_fiber_spec.specs.fiber_kin.Acts.{IsGiven, IsSound}
use Rattle.kilim_run_journal.specs.declared.entry.Act.TheVariants as act
use Rattle.kilim_run_state.specs.declared.value.Object.{Object}
use Rattle.kilim_run_state.specs.declared.value.Token.{Token}
use Rattle.kilim_run_state.specs.Machine.{Objects}
use Rattle.kilim_run_machine.specs.Moves.{push_value}
use Rattle.kilim_run_state.specs.Trees.{OfMessage, OfTask, Root}
use Rattle.kilim_run_model.specs.Course.{Course, next_action, plain}
use Rattle.kilim_run_model.specs.declared.deed.Deed.{Deed}
use Rattle.kilim_run_model.specs.Lone.{Lone}
use Rattle.kilim_run_model.specs.Lone as thread
use Rattle.kilim_run_model.specs.Moving.{further}
use Rattle.kilim_run_model.specs.State.{Setting}
use Rattle.kilim_run_trees.specs.Moved.{PutIn, TakenOut}
use Rattle.kilim_fiber_laws.specs.Fibers.{Holds, IsFiberOf}
use Rattle.kilim_fiber_laws.specs.woven_kin.history.History.{took}
use Rattle.kilim_fiber_laws.specs.woven_kin.Nexts.{Next, Goes, Puts, PutWaits, Bounds, Gets, Probes, Starts, Prints, Rests, Ends, Stands, with_result, PutsAgain}
use Rattle.kilim_fiber_laws.specs.woven_kin.Standing.{Standing}

module _ (set : Setting) (W : Program) (marks : List (List Bool)) (t : ℕ) (c : Course) where
  -- behind this deed it is a fiber of the further course
  abbrev pub Behind : Deed → Standing → Type 0
  Behind d f = IsFiberOf set W marks t (further c d) f

  -- A sound tree comes, and its root goes on top of the stack.
  abbrev pub CanReceive : BoxName → Standing → Type 0
  CanReceive box f =
      (n : ℕ) (tree : List Object) (shape : List Token) (heap : Objects) (x : ℕ) → IsSound set.program OfMessage tree shape → PutIn f.heap tree heap x →
      Behind (took box n shape) (record f { frames = push_value (Ref x) f.frames; heap = heap })

  -- What it gives away at this place is a tree. Once that is out of the heap it is sound, with this shape, and the fiber is behind the deed.
  abbrev pub CanGiveAway : Root → ℕ → List Token → (ℕ → Deed) → Standing → Type 0
  CanGiveAway root m shape deed f =
      IsGiven set.program root f.heap m
      × ((heap : Objects) (tree : List Object) → TakenOut f.heap m heap tree → IsSound set.program root tree shape × ((n : ℕ) → Behind (deed n) (record f { heap = heap })))

  -- While it waits, its tree is out of the heap, and stands apart; what stands there for the heap with it is nowhere looked at.
  abbrev pub CanWait : ℕ → List Token → Standing → Type 0
  CanWait m shape f = (heap : Objects) (tree : List Object) → TakenOut f.heap m heap tree → (root : ℕ) (full : Objects) → Holds set W marks t c (record f { heap = heap; aside = record { root = root; shape = shape; heap = full } ∷ f.aside })

  -- Where it goes on, pauses or rests it is still a fiber of the course. Where it acts, that is the next action of the thread `last` of the course;
  -- and behind the deed it is a fiber of the further course, with a count within the limit. Where it ends, so does the thread. At most one tree
  -- stands apart: none does behind a put that waits. What may have to wait comes behind the first instruction. It is never where no verified code comes.
  abbrev pub NextIs : Lone → Next → Type 0
  NextIs last (Goes f) = Holds set W marks t c f
  NextIs last (Rests f) = Holds set W marks t c f
  NextIs last (Puts box m shape f) =
      ((n : ℕ) × (after : Lone) × (next_action set t last ≡ thread.Puts box n shape after)) × CanGiveAway OfMessage m shape (λ n. plain (act.Put box n shape)) f × (f.done ≤ set.limits.steps)
  NextIs last (PutWaits box m shape paused f) =
      ((n : ℕ) × (after : Lone) × (next_action set t last ≡ thread.PutWaits box n shape after)) × CanWait m shape paused × CanGiveAway OfMessage m shape (λ n. plain (act.Put box n shape)) f × (f.done ≤ set.limits.steps) × (f.aside ≡ []) × (1 < f.done)
  NextIs last (PutsAgain box m shape full paused f) =
      ((n : ℕ) × (after : Lone) × (next_action set t last ≡ thread.PutWaits box n shape after)) × Holds set W marks t c paused × ((n : ℕ) → Behind (plain (act.Put box n shape)) f) × (f.done ≤ set.limits.steps) × (f.aside ≡ []) × (1 < f.done)
  NextIs last (Bounds box most f) = ((after : Lone) × (next_action set t last ≡ thread.Bounds box most after)) × Behind (plain (act.Bound box most)) f × (f.done ≤ set.limits.steps)
  NextIs last (Gets box paused f) = ((after : Lone) × (next_action set t last ≡ thread.Gets box after)) × Holds set W marks t c paused × CanReceive box f × (f.done ≤ set.limits.steps) × (1 < f.done)
  NextIs last (Probes box f) = ((after : Lone) × (next_action set t last ≡ thread.Probes box after)) × Behind (plain (act.Empty box)) (with_result (Some Null) f) × CanReceive box f × (f.done ≤ set.limits.steps)
  NextIs last (Starts m shape f) = ((n : ℕ) × (after : Lone) × (next_action set t last ≡ thread.Starts n shape after)) × CanGiveAway OfTask m shape (λ n. plain (act.Start n shape)) f × (f.done ≤ set.limits.steps)
  NextIs last (Prints token f) = ((after : Lone) × (next_action set t last ≡ thread.Prints token after)) × Behind (plain (act.Print (token ∷ []))) f × (f.done ≤ set.limits.steps)
  NextIs last (Ends why) = (after : Lone) × (next_action set t last ≡ thread.Ends why after)
  NextIs last Stands = ⊥
