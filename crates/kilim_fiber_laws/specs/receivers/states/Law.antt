-- Where the deeds of a course lead the thread beside the woven machine: just where they lead the thread of the course.
use Rattle.std.specs.Prelude.{◌≡◌, ◌↔◌, ◌⊎◌, ℕ, Bool, true, false, if◌then◌else◌, List, [], ◌∷◌, ◌++◌, Option, Some, None}
use Rattle.std.specs.FinMap.{get}
use Rattle.kilim_program.specs.declared.names.MethodId.{MethodId}
use Rattle.kilim_program.specs.declared.value.Value.TheVariants.{Ref}
use Rattle.kilim_program.specs.Names.{◌>>=◌}
use Rattle.kilim_run_journal.specs.declared.entry.Act.{Act}
use Rattle.kilim_run_journal.specs.declared.entry.Act.TheVariants.{End}
use Rattle.kilim_run_model.specs.one_heap.Booked.{IsOf}
use Rattle.kilim_run_state.specs.declared.cause.EndCause.{EndCause}
use Rattle.kilim_run_state.specs.declared.cause.EndCause.TheVariants as cause
use Rattle.kilim_run_state.specs.declared.value.Object.{Object}
use Rattle.kilim_program.specs.Members.{constructor_of, execute_of}
use Rattle.kilim_run_machine.specs.Moves.{entered}
use Rattle.kilim_run_model.specs.declared.deed.Beginning.{Beginning}
use Rattle.kilim_run_model.specs.declared.deed.Beginning.TheVariants.{Boot, Begun}
use Rattle.kilim_run_model.specs.declared.deed.Deed.{Deed}
use Rattle.kilim_run_model.specs.Course.{Course, IsLone, done_by, lone_begun}
use Rattle.kilim_run_model.specs.Lone.{Lone, next_move}
use Rattle.kilim_run_model.specs.State.{Setting, class_of, is_fit}
use Rattle.kilim_run_model.specs.State as state
use Rattle.kilim_fiber_spec.specs.lone.Law.{lone_at, wanted}
use Rattle.kilim_fiber_spec.specs.Acts.{Action, Finished, Lost, Over, Wants, World, counted}
use Rattle.kilim_fiber_spec.specs.Acts as action
use Rattle.kilim_fiber_spec.specs.Thread.{Run, Stop, Thread, self_of, started, steps}

-- ---- worlds

-- the acts of these deeds, the last one first, on top of others
abbrev pub acts_of : List Deed → List Act → List Act
acts_of [] acts = acts
acts_of (d ∷ ds) acts = acts_of ds (d.act ∷ acts)

-- instructions done, and mailboxes made
abbrev pub done_of : state.Thread → ℕ
done_of (state.Alive frames done boxes) = done
done_of (state.Ended cause) = 0

abbrev pub boxes_of : state.Thread → ℕ
boxes_of (state.Alive frames done boxes) = boxes
boxes_of (state.Ended cause) = 0

-- the world of a task whose thread stands so, with these deeds to come, and these acts done
abbrev pub world_at : ℕ → Lone → List Deed → List Act → World
world_at k l deeds acts = record { task = k; heap = l.heap; next = l.next; kept = l.kept; deeds = deeds; acts = acts; done = done_of l.thread; boxes = boxes_of l.thread; aside = [] }

-- an end by an exception
abbrev pub is_exception : EndCause → Bool
is_exception cause.Null = true
is_exception cause.Index = true
is_exception cause.Size = true
is_exception cause.Cast = true
is_exception cause.Store = true
is_exception cause.Zero = true
is_exception cause.Thrown = true
is_exception why = false

-- The world at the end, and that before an action: an exception that nothing catches is counted before it ends the task.
abbrev pub ended_in : EndCause → World → World
ended_in why w = if is_exception why then counted w else w

abbrev pub wanted_in : Action → World → World
wanted_in (action.Ends why) w = ended_in why w
wanted_in wish w = w

-- ---- beginnings

-- the constructor of task 0, on its object
abbrev pub constructing : Setting → World → Option MethodId → Thread
constructing set w None = Stop Lost
constructing set w (Some c) = Run c 0 (entered set.program c (Ref 0 ∷ [])).locals [] (self_of set.program c (Ref 0 ∷ [])) [] w

-- A task begins: task 0 with the constructor of the main class, a started task with the `execute` of its object's class.
abbrev pub first_thread : Setting → Beginning → World → Thread
first_thread set Boot w = constructing set w (constructor_of set.program set.main)
first_thread set (Begun shape) w = started set 0 w (get w.heap 0 >>= λ (object : Object). class_of object.class.base >>= λ c. execute_of set.program c)

-- ---- the thread of a course

-- It has done all of its deeds, and stands right before that action, in that world.
pub record StandsBefore (set : Setting) (k : ℕ) (c : Course) (a : Action) (w : World) : Type 0 where
  pub here : Lone
  pub of : IsOf set k c here
  pub after : Option Lone
  pub wants : wanted (next_move set k here) ≡ Some (a, after)
  pub world : w ≡ wanted_in a (world_at k here [] (acts_of c.deeds []))

-- It has ended by its last deed, before which it stood in that world.
pub record EndsBy (set : Setting) (k : ℕ) (c : Course) (why : EndCause) (w : World) : Type 0 where
  pub before : List Deed
  pub final : Deed
  pub deeds : c.deeds ≡ before ++ final ∷ []
  pub here : Lone
  pub of : IsOf set k (record { beginning = c.beginning; deeds = before }) here
  pub after : Lone
  pub is_end : final.act ≡ End why
  pub ends : done_by set (next_move set k here) final ≡ Some (record { act = final.act; after = after })
  pub world : w ≡ ended_in why (world_at k here (final ∷ []) (acts_of before []))

-- ---- on the way

-- as many deeds, with the same shapes beside them
abbrev pub Likewise : List Deed → List Deed → Type 0
Likewise [] [] = Unit {0}
Likewise (x ∷ xs) (y ∷ ys) = (x.taken ≡ y.taken) × Likewise xs ys
Likewise xs ys = ⊥

-- It stands as the thread of a course does whose deeds say the acts that were done, in place of the deeds that were to come; these are left.
pub record IsAlong (set : Setting) (k : ℕ) (c : Course) (l : Lone) (left : List Deed) (acts : List Act) : Type 0 where
  pub done : List Deed
  pub were : List Deed
  pub like : Likewise were done
  pub all : were ++ left ≡ c.deeds
  pub acted : acts ≡ acts_of done []
  pub of : IsOf set k (record { beginning = c.beginning; deeds = done }) l

abbrev pub ThreadAlong : Setting → ℕ → Course → Thread → Type 0
ThreadAlong set k c (Run m p l s x b w) = (w.task ≡ k) × (w.aside ≡ []) × IsAlong set k c (lone_at m p l s b w) w.deeds w.acts
ThreadAlong set k c (Stop over) = Unit {0}

-- ---- where it leads

-- A run comes to these ends: it wants an action when all deeds are done, and its acts are those of the deeds, exactly where the thread of the
-- course stands right before that action, in the same world; and it ends by the last deed exactly where that thread does. Where the thread of
-- the course is there, one of both comes, but where no verified code comes.
pub record FollowsCourse (set : Setting) (k : ℕ) (c : Course) (Comes : Over → Type 0) : Type 0 where
  pub wants : (a : Action) (w : World) → (Comes (Wants a w) × (w.acts ≡ acts_of c.deeds [])) ↔ StandsBefore set k c a w
  pub ends : (why : EndCause) (w : World) → (Comes (Finished why w) × (End why ∷ w.acts ≡ acts_of c.deeds [])) ↔ EndsBy set k c why w
  pub state : (last : Lone) → IsLone set k c last → Comes Lost ⊎ (((a : Action) × (w : World) × StandsBefore set k c a w) ⊎ ((why : EndCause) × (w : World) × EndsBy set k c why w))

-- So does the thread beside the woven machine, from the beginning of the task on, with the deeds of the course to come; and on the way it stands
-- as such a thread does.
abbrev pub ThreadFollows : Type 0
ThreadFollows =
    (set : Setting) → is_fit set ≡ true → (k : ℕ) (c : Course) (l : Lone) → lone_begun set c.beginning ≡ Some l →
    FollowsCourse set k c (λ o. (n : ℕ) × (steps set n (first_thread set c.beginning (world_at k l c.deeds [])) ≡ Stop o))
    × ((n : ℕ) → ThreadAlong set k c (steps set n (first_thread set c.beginning (world_at k l c.deeds []))))
