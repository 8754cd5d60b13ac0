-- Where the machine is over right before an action, that is the next action of the thread of the course.
use Rattle.std.proofs.Common.{◌≡◌, ℕ, ℤ, Bool, true, false, cond, List, [], ◌∷◌, Option, Some, None, refl, sym, ap, subst, ◌∙◌, ◌+◌, ◌<◌, inl, inr}
use Rattle.std.proofs.lemmas.Bool.Decides.{leb_tells}
use Rattle.std.specs.Prelude.{zero, suc, pos, negsuc, nat_le, nat_lt}
use Rattle.std.proofs.lemmas.Option.{none-some, same_Some}
use Rattle.kilim_program.specs.declared.names.BoxName.{BoxName}
use Rattle.kilim_program.specs.declared.value.Value.{Value}
use Rattle.kilim_program.specs.declared.value.Value.TheVariants.{Int, Ref, Box, Null}
use Rattle.kilim_run_model.proofs.one_heap.Booking.{action_is, is_act}
use Rattle.kilim_run_state.specs.declared.cause.EndCause.TheVariants as cause
use Rattle.kilim_run_state.specs.declared.value.Token.{Token}
use Rattle.kilim_run_state.specs.Machine.{Activation}
use Rattle.kilim_program.specs.Members.{execute_of}
use Rattle.kilim_run_machine.specs.Moves.{Move, moves, push_value}
use Rattle.kilim_run_machine.specs.Moves as move
use Rattle.kilim_run_machine.specs.Natives.{Native, native_of}
use Rattle.kilim_run_machine.specs.Natives as native
use Rattle.kilim_run_state.specs.Shapes.{shape_of}
use Rattle.kilim_run_model.proofs.Alone.{one_lone}
use Rattle.kilim_run_model.specs.Course.{Course, IsLone, Quiet, next_action}
use Rattle.kilim_run_model.specs.Lone.{Lone, Next, arg_at, arg_next, asks_next, begins_next, box_limit, finish_next, frames_next, message_next, native_next, next_by, next_move, on_heap, opens_next, over, print_next, printed, put_next, put_wait_next, bound_next, start_next, thread_next, wait_next, went}
use Rattle.kilim_run_model.specs.Lone as thread
use Rattle.kilim_run_model.proofs.Raised.{raised_has, raises_has, throws_has}
use Rattle.kilim_run_machine.specs.Raising.{thrown}
use Rattle.kilim_run_model.specs.State.{Alive, Ended, Setting, Thread, begun_on}
use Rattle.kilim_fiber_spec.specs.lone.Law.{wanted}
use Rattle.kilim_fiber_spec.specs.Acts.{Action, World}
use Rattle.kilim_fiber_spec.specs.Acts as action
use Rattle.kilim_fiber_laws.proofs.receivers.states.Worlds.{wanted_same}
use Rattle.kilim_fiber_laws.specs.receivers.states.Law.{StandsBefore, acts_of, done_of, wanted_in, world_at}

-- ---- a take gives no name away before the message comes

abbrev pub Keeps : ℕ → Next → Type 0
Keeps n (thread.Gets box after) = after.next ≡ n
Keeps n (thread.Probes box after) = after.next ≡ n
Keeps n x = Unit {0}

module _ (set : Setting) (t : ℕ) where
  module _ (l : Lone) where
    put_keeps : (box : BoxName) (n : ℕ) (o : Option (List Token)) → Keeps l.next (put_next l box n o)
    put_keeps box n None = tt
    put_keeps box n (Some shape) = tt

    message_keeps : (box : BoxName) (v : Value) → Keeps l.next (message_next set.program l box v)
    message_keeps box (Ref n) = put_keeps box n (shape_of set.program l.heap n)
    message_keeps box Null = raised_has (Keeps l.next) l cause.Null tt set.program (λ object f fs frames done boxes e. tt)
    message_keeps box _ = tt

    put_wait_keeps : (box : BoxName) (n : ℕ) (o : Option (List Token)) → Keeps l.next (put_wait_next l box n o)
    put_wait_keeps box n None = tt
    put_wait_keeps box n (Some shape) = tt

    wait_keeps : (box : BoxName) (v : Value) → Keeps l.next (wait_next set.program l box v)
    wait_keeps box (Ref n) = put_wait_keeps box n (shape_of set.program l.heap n)
    wait_keeps box Null = raised_has (Keeps l.next) l cause.Null tt set.program (λ object f fs frames done boxes e. tt)
    wait_keeps box _ = tt

    bound_keeps : (box : BoxName) (i : ℤ) → Keeps l.next (bound_next set.program l box i)
    bound_keeps box (pos (suc n)) = tt
    bound_keeps box (pos zero) = raised_has (Keeps l.next) l cause.Size tt set.program (λ object f fs frames done boxes e. tt)
    bound_keeps box (negsuc n) = raised_has (Keeps l.next) l cause.Size tt set.program (λ object f fs frames done boxes e. tt)

    start_keeps : (n : ℕ) (o : Option (List Token)) → Keeps l.next (start_next l n o)
    start_keeps n None = tt
    start_keeps n (Some shape) = tt

    print_keeps : (o : Option Token) → Keeps l.next (print_next l o)
    print_keeps None = tt
    print_keeps (Some token) = tt

    arg_keeps : (o : Option ℤ) → Keeps l.next (arg_next set.program l o)
    arg_keeps None = raised_has (Keeps l.next) l cause.Index tt set.program (λ object f fs frames done boxes e. tt)
    arg_keeps (Some n) = tt

    native_keeps : (n : Native) (args : List Value) → Keeps l.next (native_next set l n args)
    native_keeps native.Execute (Ref n ∷ []) = tt
    native_keeps native.Yield [] = tt
    native_keeps native.ArgCount [] = tt
    native_keeps native.Start (Ref n ∷ []) = start_keeps n (shape_of set.program l.heap n)
    native_keeps native.Put (Box box ∷ v ∷ []) = message_keeps box v
    native_keeps native.PutWait (Box box ∷ v ∷ []) = wait_keeps box v
    native_keeps native.Bound (Box box ∷ Int i ∷ []) = bound_keeps box i
    native_keeps native.Get (Box box ∷ []) = refl
    native_keeps native.Getnb (Box box ∷ []) = refl
    native_keeps native.Print (v ∷ []) = print_keeps (printed v)
    native_keeps native.Arg (Int i ∷ []) = arg_keeps (arg_at set.limits.args i)
    native_keeps _ _ = tt

    asks_keeps : (n : Option Native) (args : List Value) → Keeps l.next (asks_next set l args n)
    asks_keeps None args = tt
    asks_keeps (Some n) args = native_keeps n args

  begins_keeps : (n : ℕ) (l : Lone) (done boxes : ℕ) (o : Option (List Activation)) → Keeps n (begins_next l done boxes o)
  begins_keeps n l done boxes None = tt
  begins_keeps n l done boxes (Some []) = tt
  begins_keeps n l done boxes (Some (top ∷ below)) = tt

  finish_keeps : (n : ℕ) (l : Lone) (done boxes : ℕ) (o : Option ℕ) → Keeps n (finish_next set l done boxes o)
  finish_keeps n l done boxes None = tt
  finish_keeps n l done boxes (Some k) = begins_keeps n l done boxes (begun_on set.program (execute_of set.program set.main) k)

  opens_keeps : (n : ℕ) (l : Lone) (frames : List Activation) (done boxes : ℕ) → Keeps n (opens_next t l frames done boxes)
  opens_keeps n l frames done boxes =
      elim (nat_lt boxes box_limit) as (λ (z : Bool). Keeps n (cond z (thread.Goes (went l (push_value (Box (record { task = t; number = boxes })) frames) done (boxes + 1))) (over l cause.Boxes))) [ true ↦ tt | false ↦ tt ]

  by_keeps : (l : Lone) (done boxes : ℕ) (top : Activation) (below : List Activation) (m : Move) → Keeps l.next (next_by set t l done boxes top below m)
  by_keeps l done boxes top below (move.Runs change frames heap) = tt
  by_keeps l done boxes top below (move.Makes o frames heap) = tt
  by_keeps l done boxes top below (move.Opens frames heap) = opens_keeps l.next (on_heap l heap) frames done boxes
  by_keeps l done boxes top below (move.Asks m args frames heap) = asks_keeps (went (on_heap l heap) frames done boxes) (native_of set.program m) args
  by_keeps l done boxes top below (move.Returns heap) = finish_keeps l.next (on_heap l heap) done boxes l.kept
  by_keeps l done boxes top below (move.Raises why) = raises_has (Keeps l.next) l why tt set.program done boxes top below (λ object f fs. tt)
  by_keeps l done boxes top below (move.Throws object class why) = throws_has (Keeps l.next) l why tt (done + 1) boxes (thrown set.program class (Ref object) top below) (λ f fs. tt)
  by_keeps l done boxes top below (move.Ends why) = tt
  by_keeps l done boxes top below move.Stuck = tt

  frames_keep : (l : Lone) (fs : List Activation) (done boxes : ℕ) → Keeps l.next (frames_next set t l fs done boxes)
  frames_keep l [] done boxes = tt
  frames_keep l (top ∷ below) done boxes = by_keeps l done boxes top below (moves set.program top below l.heap)

  thread_keeps : (l : Lone) (th : Thread) → Keeps l.next (thread_next set t l th)
  thread_keeps l (Ended why) = tt
  thread_keeps l (Alive fs done boxes) =
      elim (nat_le set.limits.steps done) as (λ (z : Bool). Keeps l.next (cond z (over l cause.Spent) (frames_next set t l fs done boxes))) [ true ↦ tt | false ↦ frames_keep l fs done boxes ]

  pub next_keeps : (l : Lone) → Keeps l.next (next_move set t l)
  unfolding next_move
  next_keeps l = thread_keeps l l.thread

-- ---- an action, as the thread has it next; `n` is the next object's name

abbrev pub IsAction : ℕ → Action → Next → Type 0
IsAction n (action.Puts box root shape) x = (after : Lone) × (x ≡ thread.Puts box root shape after)
IsAction n (action.PutWaits box root shape) x = (after : Lone) × (x ≡ thread.PutWaits box root shape after)
IsAction n (action.Bounds box most) x = (after : Lone) × (x ≡ thread.Bounds box most after)
IsAction n (action.Gets box) x = (after : Lone) × (x ≡ thread.Gets box after) × (after.next ≡ n)
IsAction n (action.Probes box) x = (after : Lone) × (x ≡ thread.Probes box after) × (after.next ≡ n)
IsAction n (action.Starts root shape) x = (after : Lone) × (x ≡ thread.Starts root shape after)
IsAction n (action.Prints token) x = (after : Lone) × (x ≡ thread.Prints token after)
IsAction n (action.Ends why) x = (after : Lone) × (x ≡ thread.Ends why after)

acting : (n : ℕ) (x : Next) → Keeps n x → (a : Action) (o : Option Lone) → wanted x ≡ Some (a, o) → IsAction n a x × (is_act x ≡ true)
acting n (thread.Goes after) k a o e = absurd (none-some (a, o) e)
acting n (thread.Puts box root shape after) k a o e = (subst (λ (z : Action × Option Lone). IsAction n z.0 (thread.Puts box root shape after)) (same_Some _ _ e) (after, refl), refl)
acting n (thread.PutWaits box root shape after) k a o e = (subst (λ (z : Action × Option Lone). IsAction n z.0 (thread.PutWaits box root shape after)) (same_Some _ _ e) (after, refl), refl)
acting n (thread.Bounds box most after) k a o e = (subst (λ (z : Action × Option Lone). IsAction n z.0 (thread.Bounds box most after)) (same_Some _ _ e) (after, refl), refl)
acting n (thread.Gets box after) k a o e = (subst (λ (z : Action × Option Lone). IsAction n z.0 (thread.Gets box after)) (same_Some _ _ e) (after, refl, k), refl)
acting n (thread.Probes box after) k a o e = (subst (λ (z : Action × Option Lone). IsAction n z.0 (thread.Probes box after)) (same_Some _ _ e) (after, refl, k), refl)
acting n (thread.Starts root shape after) k a o e = (subst (λ (z : Action × Option Lone). IsAction n z.0 (thread.Starts root shape after)) (same_Some _ _ e) (after, refl), refl)
acting n (thread.Prints token after) k a o e = (subst (λ (z : Action × Option Lone). IsAction n z.0 (thread.Prints token after)) (same_Some _ _ e) (after, refl), refl)
acting n (thread.Ends why after) k a o e = (subst (λ (z : Action × Option Lone). IsAction n z.0 (thread.Ends why after)) (same_Some _ _ e) (after, refl), refl)
acting n thread.Stands k a o e = absurd (none-some (a, o) e)

-- ---- an action is done where instructions are left

module _ (limit : ℕ) where
  abbrev Within : ℕ → Next → Type 0
  Within d (thread.Goes after) = Unit {0}
  Within d (thread.Ends why after) = Unit {0}
  Within d thread.Stands = Unit {0}
  Within d x = d < limit

  abbrev pub IsLeft : ℕ → Action → Type 0
  IsLeft d (action.Ends why) = Unit {0}
  IsLeft d a = d < limit

  all_within : (d : ℕ) → d < limit → (x : Next) → Within d x
  all_within d lt (thread.Goes after) = tt
  all_within d lt (thread.Puts box root shape after) = lt
  all_within d lt (thread.PutWaits box root shape after) = lt
  all_within d lt (thread.Bounds box most after) = lt
  all_within d lt (thread.Gets box after) = lt
  all_within d lt (thread.Probes box after) = lt
  all_within d lt (thread.Starts root shape after) = lt
  all_within d lt (thread.Prints token after) = lt
  all_within d lt (thread.Ends why after) = tt
  all_within d lt thread.Stands = tt

  left_of : (d : ℕ) (x : Next) → Within d x → (a : Action) (o : Option Lone) → wanted x ≡ Some (a, o) → IsLeft d a
  left_of d (thread.Goes after) k a o e = absurd (none-some (a, o) e)
  left_of d (thread.Puts box root shape after) k a o e = subst (λ (z : Action × Option Lone). IsLeft d z.0) (same_Some _ _ e) k
  left_of d (thread.PutWaits box root shape after) k a o e = subst (λ (z : Action × Option Lone). IsLeft d z.0) (same_Some _ _ e) k
  left_of d (thread.Bounds box most after) k a o e = subst (λ (z : Action × Option Lone). IsLeft d z.0) (same_Some _ _ e) k
  left_of d (thread.Gets box after) k a o e = subst (λ (z : Action × Option Lone). IsLeft d z.0) (same_Some _ _ e) k
  left_of d (thread.Probes box after) k a o e = subst (λ (z : Action × Option Lone). IsLeft d z.0) (same_Some _ _ e) k
  left_of d (thread.Starts root shape after) k a o e = subst (λ (z : Action × Option Lone). IsLeft d z.0) (same_Some _ _ e) k
  left_of d (thread.Prints token after) k a o e = subst (λ (z : Action × Option Lone). IsLeft d z.0) (same_Some _ _ e) k
  left_of d (thread.Ends why after) k a o e = subst (λ (z : Action × Option Lone). IsLeft d z.0) (same_Some _ _ e) tt
  left_of d thread.Stands k a o e = absurd (none-some (a, o) e)

thread_within : (set : Setting) (t : ℕ) (l : Lone) (th : Thread) → Within set.limits.steps (done_of th) (thread_next set t l th)
thread_within set t l (Ended why) = tt
thread_within set t l (Alive fs done boxes) = elim (leb_tells set.limits.steps done) [
  | inl w ↦ subst (λ (z : Bool). Within set.limits.steps done (cond z (over l cause.Spent) (frames_next set t l fs done boxes))) (sym w.0) tt
  | inr w ↦ subst (λ (z : Bool). Within set.limits.steps done (cond z (over l cause.Spent) (frames_next set t l fs done boxes))) (sym w.0) (all_within set.limits.steps done w.1 (frames_next set t l fs done boxes))
]

next_within : (set : Setting) (t : ℕ) (l : Lone) → Within set.limits.steps (done_of l.thread) (next_move set t l)
unfolding next_move
next_within set t l = thread_within set t l l.thread

left_in : (limit : ℕ) (a : Action) (v : World) → IsLeft limit v.done a → IsLeft limit (wanted_in a v).done a
left_in limit (action.Ends why) v h = tt
left_in limit a v h = h

pub is_left : (set : Setting) (t : ℕ) (c : Course) (a : Action) (w : World) → StandsBefore set t c a w → IsLeft set.limits.steps w.done a
is_left set t c a w before =
    subst (λ (n : ℕ). IsLeft set.limits.steps n a) (sym (ap (λ (z : World). z.done) before.world))
    (left_in set.limits.steps a (world_at t before.here [] (acts_of c.deeds [])) (left_of set.limits.steps (done_of before.here.thread) (next_move set t before.here) (next_within set t before.here) a before.after before.wants))

module _ (set : Setting) (t : ℕ) (c : Course) (last : Lone) (is : IsLone set t c last) where
  pub next_is : (a : Action) (w : World) → StandsBefore set t c a w → IsAction w.next a (next_action set t last)
  next_is a w before =
      let here = before.here in
      let f = acting here.next (next_move set t here) (next_keeps set t here) a before.after before.wants in
      let quiet : Quiet set t last here = subst (λ (l : Lone). Quiet set t l here) (one_lone set t c before.of.last last before.of.is is) before.of.quiet in
      subst (λ (x : Next). IsAction w.next a x) (sym (action_is set t last here (next_move set t here) quiet refl f.1))
      (subst (λ (n : ℕ). IsAction n a (next_move set t here)) (sym (ap (λ (z : World). z.next) before.world ∙ wanted_same (λ (z : World). z.next) (λ v. refl) a (world_at t here [] (acts_of c.deeds [])))) f.0)
