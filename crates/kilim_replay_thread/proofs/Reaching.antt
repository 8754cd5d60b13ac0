-- What a task comes to is what its thread does next.
use Rattle.std.proofs.Common.{◌≡◌, ℕ, ◌+◌, ◌-◌, ◌<◌, ◌≤◌, Bool, true, false, cond, List, [], ◌∷◌, Option, Some, None, Result, Ok, Err, refl, sym, ap, subst, ◌∙◌, arith, rules}
use Rattle.std.specs.Prelude.{nat_le, is_some, IfOk, OnOk}
use Rattle.std.proofs.lemmas.Bool.{lt-leb}
use Rattle.kilim_program.specs.declared.names.MethodId.{MethodId}
use Rattle.kilim_program.specs.declared.names.ClassId.{ClassId}
use Rattle.kilim_program.specs.declared.value.Value.{Value}
use Rattle.kilim_program.specs.declared.names.BoxName.{BoxName}
use Rattle.kilim_program.specs.declared.value.Value.TheVariants.{Ref, Box}
use Rattle.kilim_run_state.specs.declared.frames.frames.Frames.{Frames}
use Rattle.kilim_run_state.specs.declared.cause.EndCause.{EndCause}
use Rattle.kilim_run_state.specs.declared.cause.EndCause.TheVariants as cause
use Rattle.kilim_run_state.specs.frames.Calls.{activation, answered, below_of}
use Rattle.kilim_run_state.specs.Machine.{Activation, Objects}
use Rattle.kilim_run_machine.specs.Moves.{Move, moves}
use Rattle.kilim_run_machine.specs.Moves as move
use Rattle.kilim_run_machine.specs.Natives.{Native, native_of, PutWait}
use Rattle.kilim_run_interp.specs.Step.{IsSame as SameFrames, StandsAt}
use Rattle.kilim_run_model.specs.State.{Setting, Thread, Alive}
use Rattle.kilim_run_model.specs.declared.waits.Waits.{Waits}
use Rattle.kilim_run_model.specs.Lone.{Lone, Next, Goes, Ends, asks_next, finish_next, frames_next, get_at, next_by, next_move, opens_next, over, raises_of, thread_next, throws_by}
use Rattle.kilim_run_machine.specs.Raising.{index_at, raised_class, thrown}
use Rattle.kilim_run_model.specs.Course.{Quiet, Stays, Moves}
use Rattle.kilim_fiber_spec.specs.fiber_kin.Served.{HasRoom, ResultFits}
use Rattle.kilim_fiber_spec.proofs.fiber_kin.Fine.{opens_fit}
use Rattle.kilim_replay_laws.specs.shared.Shared.{AskedAreThere, AskedIsFine, IsFineCall, Serves}
use Rattle.kilim_replay_laws.specs.shared.Runs.{CanGo}
use Rattle.kilim_replay_laws.specs.Waiting.{AsksToWait, IsWaitCall, waits_call}
use Rattle.kilim_replay_laws.proofs.Waiting.{not_asked, waits_ask}
use Rattle.kilim_isolation_laws.proofs.at_rest.Stays.{moves_same}
use Rattle.kilim_replay_thread.specs.Live.{HasFrames, RoomIn, RoomBehind, answered_in, behind_at, calls_in, ended_at, kept_for, lone_at, operands_in, operands_of, thread_in}
use Rattle.kilim_replay_thread.specs.Comes.{CanAsk, Comes, HasRunOn, IsNear, IsOnOrEnd, IsOther, IsSame, SuitsCall}
use Rattle.kilim_replay_thread.specs.Reach.{Ended, EndedLarge, IsComing, PutsThere, Reaches, Shares, Stood, WaitsNowhere, WentOn}
use Rattle.kilim_replay_thread.specs.Thread.{HasRun, IsSafe, thread_on}
use Rattle.kilim_replay_thread.specs.declared.runs.Halted.{Halted}
use Rattle.kilim_replay_thread.specs.declared.task.Came.{Came}
use Rattle.kilim_replay_thread.specs.declared.task.Came.TheVariants as came
use Rattle.kilim_replay_thread.specs.declared.task.Live.{Live}
use Rattle.kilim_replay_thread.specs.declared.task.World.{World}
use Rattle.kilim_replay_thread.specs.Raises.{raised_at, thrown_at}
use Rattle.kilim_replay_thread.proofs.Standing.{same_index, same_thrown}
use Rattle.kilim_replay_thread.proofs.Steps.{runs_are_quiet}

-- ---- where it ends, or comes to a put that waits

abbrev pub SuitsAt : Setting → ℕ → World → Live → Came → Type 0
SuitsAt set t w l (came.PutsWaiting box root shape) = PutsThere set (lone_at t w l).thread box root
SuitsAt set t w l (came.TooLarge box root) = PutsThere set (lone_at t w l).thread box root
SuitsAt set t w l (came.Ends why) = WaitsNowhere set t (lone_at t w l).thread
SuitsAt set t w l c = Unit {0}

pub suits_other : (set : Setting) (t : ℕ) (w : World) (l : Live) (c : Came) → IsOther c → WaitsNowhere set t (lone_at t w l).thread → SuitsAt set t w l c
suits_other set t w l came.On other nowhere = tt
suits_other set t w l (came.Puts box root shape) other nowhere = tt
suits_other set t w l (came.PutsWaiting box root shape) other nowhere = absurd other
suits_other set t w l (came.TooLarge box root) other nowhere = absurd other
suits_other set t w l (came.Bounds box most) other nowhere = tt
suits_other set t w l (came.Takes box) other nowhere = tt
suits_other set t w l (came.Probes box) other nowhere = tt
suits_other set t w l (came.Starts root shape) other nowhere = tt
suits_other set t w l (came.Prints shape) other nowhere = tt
suits_other set t w l (came.Ends why) other nowhere = nowhere

pub suits_call : (set : Setting) (t : ℕ) (w : World) (l : Live) (o : Option Native) (args : List Value) (c : Came) → SuitsCall o args c → (waits_call o args ≡ false → WaitsNowhere set t (lone_at t w l).thread) →
    ((box : BoxName) (root : ℕ) → o ≡ Some PutWait → args ≡ Box box ∷ Ref root ∷ [] → PutsThere set (lone_at t w l).thread box root) → SuitsAt set t w l c
suits_call set t w l o args came.On suits other puts = tt
suits_call set t w l o args (came.Puts box root shape) suits other puts = tt
suits_call set t w l o args (came.PutsWaiting box root shape) suits other puts = puts box root suits.0 suits.1
suits_call set t w l o args (came.TooLarge box root) suits other puts = puts box root suits.0 suits.1
suits_call set t w l o args (came.Bounds box most) suits other puts = tt
suits_call set t w l o args (came.Takes box) suits other puts = tt
suits_call set t w l o args (came.Probes box) suits other puts = tt
suits_call set t w l o args (came.Starts root shape) suits other puts = tt
suits_call set t w l o args (came.Prints shape) suits other puts = tt
suits_call set t w l o args (came.Ends why) suits other puts = other suits

-- ---- moves without an action

module _ (set : Setting) (t : ℕ) where
  pub quiet_on : (a b c : Lone) → Quiet set t a b → Quiet set t b c → Quiet set t a c
  quiet_on a b c q (Stays e) = subst (Quiet set t a) e q
  quiet_on a b c q (Moves d r e) = Moves d (quiet_on a b d q r) e

  pub can_on : (a b : Lone) → CanGo set t a → Quiet set t a b → CanGo set t b
  can_on a b can q m r = can m (quiet_on a b m q r)

  pub serves_here : (a : Lone) → CanGo set t a → Serves set a
  serves_here a can = can a (Stays refl)

  -- ---- before an instruction

  spent_by : (z : Bool) (l : Lone) (n : Next) → z ≡ true → cond z (over l cause.Spent) n ≡ over l cause.Spent
  spent_by z l n e = ap (λ (b : Bool). cond b (over l cause.Spent) n) e

  le_true : (m n : ℕ) → m ≤ n → nat_le m n ≡ true
  le_true m n h = search rules

  spent_move : (w : World) (l : Live) → set.limits.steps ≤ l.done → next_move set t (lone_at t w l) ≡ Ends cause.Spent (ended_at w cause.Spent)
  unfolding next_move
  spent_move w l le = spent_by (nat_le set.limits.steps l.done) (lone_at t w l) (frames_next set t (lone_at t w l) (calls_in l.frames) l.done l.boxes) (le_true set.limits.steps l.done le)

  not_spent : (w : World) (l : Live) (frames : List Activation) → l.done < set.limits.steps → calls_in l.frames ≡ frames → next_move set t (lone_at t w l) ≡ frames_next set t (lone_at t w l) frames l.done l.boxes
  unfolding next_move
  not_spent w l frames lt are =
      ap (λ (b : Bool). cond b (over (lone_at t w l) cause.Spent) (frames_next set t (lone_at t w l) (calls_in l.frames) l.done l.boxes)) (lt-leb set.limits.steps l.done lt)
      ∙ ap (λ (fs : List Activation). frames_next set t (lone_at t w l) fs l.done l.boxes) are

  -- ---- where it may have to wait for nothing, whatever the heap holds

  nowhere_by : (th : Thread) → ((x : Lone) (w : Waits) → x.thread ≡ th → AsksToWait set w x → ⊥) → WaitsNowhere set t th
  nowhere_by th never x same = by (get_at (next_move set t x)) refl
    where
      by : (o : Option Waits) → get_at (next_move set t x) ≡ o → o ≡ None
      by None e = refl
      by (Some w) e = absurd (never x w same (waits_ask set t x x w refl e))

  same_alive : (a b : List Activation) (d e m n : ℕ) → Alive a d m ≡ Alive b e n → (a ≡ b) × (d ≡ e)
  same_alive a b d e m n q = (cc, cc)

  same_front : (a b : Activation) (as1 bs : List Activation) → a ∷ as1 ≡ b ∷ bs → (a ≡ b) × (as1 ≡ bs)
  same_front a b as1 bs q = (cc, cc)

  -- it has no instructions left
  spent_nowhere : (frames : List Activation) (done boxes : ℕ) → set.limits.steps ≤ done → WaitsNowhere set t (Alive frames done boxes)
  spent_nowhere frames done boxes le = nowhere_by (Alive frames done boxes) (λ x w same asks.
      let e = (same_alive (asks.top ∷ asks.below) frames asks.done done asks.boxes boxes (sym asks.alive ∙ same)).1 in
      let few = asks.few in
      omega (arith, le, e, few))

  done_nowhere : (done boxes : ℕ) → WaitsNowhere set t (Alive [] done boxes)
  done_nowhere done boxes = nowhere_by (Alive [] done boxes) (λ x w same asks. let e = (same_alive (asks.top ∷ asks.below) [] asks.done done asks.boxes boxes (sym asks.alive ∙ same)).0 in cc)

  -- its instruction is no such call
  asked_there : (top : Activation) (below : List Activation) (done boxes : ℕ) (h : Objects) (next : ℕ) (kept : Option ℕ) →
      ((m : MethodId) (args : List Value) (frames : List Activation) (w : Waits) → moves set.program top below h ≡ move.Asks m args frames h → IsWaitCall w (native_of set.program m) args → ⊥) →
      (w : Waits) → AsksToWait set w (record { heap = h; next = next; thread = Alive (top ∷ below) done boxes; kept = kept }) → ⊥
  asked_there top below done boxes h next kept never w asks =
      let a = (same_alive (asks.top ∷ asks.below) (top ∷ below) asks.done done asks.boxes boxes (sym asks.alive)).0 in
      let f = same_front asks.top top asks.below below a in
      never asks.method asks.args asks.frames w ((λ i. moves set.program (sym f.0 i) (sym f.1 i) h) ∙ asks.asks) asks.calls

  unasked : (top : Activation) (below : List Activation) (done boxes : ℕ) (h : Objects) → ((m : MethodId) (args : List Value) (frames : List Activation) (w : Waits) → moves set.program top below h ≡ move.Asks m args frames h → IsWaitCall w (native_of set.program m) args → ⊥) →
      WaitsNowhere set t (Alive (top ∷ below) done boxes)
  unasked top below done boxes h never x same = by (get_at (next_move set t x)) refl
    where
      by : (o : Option Waits) → get_at (next_move set t x) ≡ o → o ≡ None
      by None e = refl
      by (Some w) e = absurd (asked_there top below done boxes h x.next x.kept never w (waits_ask set t x (record { heap = h; next = x.next; thread = Alive (top ∷ below) done boxes; kept = x.kept }) w same e))

  pub spent_now : (w : World) (l : Live) → set.limits.steps ≤ l.done → Ended set t (lone_at t w l) w cause.Spent
  spent_now w l le = record {
    mid = lone_at t w l;
    quiet = Stays refl;
    does = spent_move w l le;
    shares = record { heap = refl; next = refl; kept = refl };
    nowhere = spent_nowhere (calls_in l.frames) l.done l.boxes le;
  }

  pub done_now : (w : World) (l : Live) → l.done < set.limits.steps → l.frames ≡ None → Ended set t (lone_at t w l) w cause.Done
  done_now w l lt none = record {
    mid = lone_at t w l;
    quiet = Stays refl;
    does = not_spent w l [] lt (ap calls_in none);
    shares = record { heap = refl; next = refl; kept = refl };
    nowhere = subst (λ (o : Option Frames). WaitsNowhere set t (Alive (calls_in o) l.done l.boxes)) (sym none) (done_nowhere l.done l.boxes);
  }

  pub safe_on : (w : World) (l : Live) → CanGo set t (lone_at t w l) → l.done < set.limits.steps → IsSafe set.program (set.limits.steps - l.done) (calls_in l.frames) w.heap w.next
  safe_on w l can lt n top below k after few runs =
      let left : l.done + n ≤ set.limits.steps = omega (arith, few) in
      let less : l.done + n < set.limits.steps = omega (arith, few) in
      (can (thread_on k after (kept_for t w.kept) (top ∷ below) (l.done + n) l.boxes) (runs_are_quiet set t (calls_in l.frames) (top ∷ below) w.heap k w.next after n l.done l.boxes (kept_for t w.kept) runs left)).fine.steps top below (l.done + n) l.boxes refl less

  -- moves without an action led somewhere, and that is what the thread does next
  pub record Led (first : Lone) (w : World) (done : ℕ) (next : Next) : Type 0 where
    pub mid : Lone
    pub quiet : Quiet set t first mid
    pub does : next_move set t mid ≡ next
    pub few : done < set.limits.steps
    pub shares : Shares t mid w
    pub nowhere : WaitsNowhere set t mid.thread

  -- ---- many instructions

  module _ (w : World) (l : Live) (w' : World) (mid : Live) (can : CanGo set t (lone_at t w l)) (lt : l.done < set.limits.steps) (h : Halted) (ran : HasRunOn set.program set.limits.steps w l w' mid h) where
    abbrev r : HasRun set.program (set.limits.steps - l.done) (calls_in l.frames) w.heap w.next ran.steps h ran.frames w'.heap w'.next
    r = ran.ran

    abbrev there : Lone
    there = thread_on r.heap w'.next (kept_for t w.kept) r.calls (l.done + ran.steps) l.boxes

    to_there : Quiet set t (lone_at t w l) there
    to_there = let most = r.most in runs_are_quiet set t (calls_in l.frames) r.calls w.heap r.heap w.next w'.next ran.steps l.done l.boxes (kept_for t w.kept) r.runs (omega (arith, most, lt))

    -- the frames at which it stands
    pub record Top : Type 0 where
      pub top : Activation
      pub below : List Activation
      pub are : r.calls ≡ top ∷ below
      pub few : ran.steps < set.limits.steps - l.done

    -- where nothing was changed by the last instruction
    module _ (at : Top) (same : SameFrames (at.top ∷ at.below) ran.frames r.heap w'.heap) where
      calls_are : calls_in mid.frames ≡ at.top ∷ at.below
      calls_are = ap calls_in ran.are ∙ same.frames

      lone_is : there ≡ lone_at t w' mid
      lone_is = λ i. record {
        heap = sym same.heap i;
        next = w'.next;
        thread = Alive ((at.are ∙ sym calls_are) i) (sym ran.counted i) (sym ran.boxes i);
        kept = kept_for t (sym ran.kept i);
      }

      pub to_mid : Quiet set t (lone_at t w l) (lone_at t w' mid)
      to_mid = subst (Quiet set t (lone_at t w l)) lone_is to_there

      pub few_done : mid.done < set.limits.steps
      few_done = let a = at.few in let b = ran.counted in omega (arith, a, b)

      pub has_frames : HasFrames mid.frames
      has_frames = subst HasFrames (sym ran.are) tt

      pub next_is : (m : Objects → Move) → moves set.program at.top at.below r.heap ≡ m r.heap → next_move set t (lone_at t w' mid) ≡ next_by set t (lone_at t w' mid) mid.done mid.boxes at.top at.below (m w'.heap)
      next_is m e =
          not_spent w' mid (at.top ∷ at.below) few_done calls_are
          ∙ ap (next_by set t (lone_at t w' mid) mid.done mid.boxes at.top at.below) (subst (λ (x : Objects). moves set.program at.top at.below x ≡ m x) (sym same.heap) e)

      move_is : (m : Objects → Move) → moves set.program at.top at.below r.heap ≡ m r.heap → moves set.program at.top at.below w'.heap ≡ m w'.heap
      move_is m e = subst (λ (x : Objects). moves set.program at.top at.below x ≡ m x) (sym same.heap) e

      behind_is : answered_in mid.frames ≡ answered ran.frames
      behind_is = ap answered_in ran.are

      alive_is : (lone_at t w' mid).thread ≡ Alive (at.top ∷ at.below) mid.done mid.boxes
      alive_is = ap (λ (fs : List Activation). Alive fs mid.done mid.boxes) calls_are

      serves : Serves set (lone_at t w' mid)
      serves = can (lone_at t w' mid) to_mid

      -- a new mailbox
      pub opens_at : moves set.program at.top at.below r.heap ≡ move.Opens (answered ran.frames) r.heap → Stood set t (lone_at t w l) w' mid (opens_next t (lone_at t w' mid) (answered_in mid.frames) mid.done mid.boxes) × RoomIn set.program mid.frames
      opens_at e =
          let m : Objects → Move = λ (x : Objects). move.Opens (answered ran.frames) x in
          let room : RoomBehind set.program ran.frames = opens_fit set.program at.top at.below w'.heap w'.heap _ _ (serves.fine.steps at.top at.below mid.done mid.boxes alive_is few_done) (move_is m e) in (
            record { quiet = to_mid; does = next_is m e ∙ ap (λ (fs : List Activation). opens_next t (lone_at t w' mid) fs mid.done mid.boxes) (sym behind_is); few = few_done },
            subst (RoomIn set.program) (sym ran.are) room,
          )

      -- the last frame returns
      pub returns_at : moves set.program at.top at.below r.heap ≡ move.Returns r.heap → Stood set t (lone_at t w l) w' mid (finish_next set (lone_at t w' mid) mid.done mid.boxes (kept_for t w'.kept))
      returns_at e = record { quiet = to_mid; does = next_is (λ (x : Objects). move.Returns x) e; few = few_done }

      -- a call that isn't one that may have to wait, and none
      pub nowhere_at : ((m : MethodId) (args : List Value) (frames : List Activation) (w : Waits) → moves set.program at.top at.below r.heap ≡ move.Asks m args frames r.heap → IsWaitCall w (native_of set.program m) args → ⊥) → WaitsNowhere set t (lone_at t w' mid).thread
      nowhere_at never = subst (WaitsNowhere set t) (sym alive_is) (unasked at.top at.below mid.done mid.boxes r.heap never)

      same_asks : (m n : MethodId) (args brgs : List Value) (f g : List Activation) (x y : Objects) → move.Asks m args f x ≡ move.Asks n brgs g y → (m ≡ n) × (args ≡ brgs)
      same_asks m n args brgs f g x y e = (cc, cc)

      pub other_at : (id : MethodId) → moves set.program at.top at.below r.heap ≡ move.Asks id (operands_of ran.frames) (answered ran.frames) r.heap → waits_call (native_of set.program id) (operands_in mid.frames) ≡ false → WaitsNowhere set t (lone_at t w' mid).thread
      other_at id e other = nowhere_at (λ m args frames w asks calls.
          let same = same_asks m id args (operands_of ran.frames) frames (answered ran.frames) r.heap r.heap (sym asks ∙ e) in
          let args-same : args ≡ operands_in mid.frames = same.1 ∙ sym (ap operands_in ran.are) in
          not_asked w (native_of set.program id) (operands_in mid.frames) other (subst (λ (vs : List Value). IsWaitCall w (native_of set.program id) vs) args-same (subst (λ (k : MethodId). IsWaitCall w (native_of set.program k) args) same.0 calls)))

      pub puts_at : (id : MethodId) (box : BoxName) (root : ℕ) → moves set.program at.top at.below r.heap ≡ move.Asks id (operands_of ran.frames) (answered ran.frames) r.heap → native_of set.program id ≡ Some PutWait → operands_in mid.frames ≡ Box box ∷ Ref root ∷ [] → PutsThere set (lone_at t w' mid).thread box root
      puts_at id box root e native args = record {
        top = at.top;
        below = at.below;
        done = mid.done;
        boxes = mid.boxes;
        alive = alive_is;
        few = few_done;
        method = id;
        native = native;
        frames = answered ran.frames;
        asks = λ h. moves_same set.program at.top at.below r.heap h id box (Ref root ∷ []) (answered ran.frames) r.heap (e ∙ ap (λ (vs : List Value). move.Asks id vs (answered ran.frames) r.heap) (sym (ap operands_in ran.are) ∙ args));
      }

      -- a built-in method
      has_room : (fs : List Activation) (g : Activation) (gs : List Activation) → fs ≡ g ∷ gs → HasRoom set fs → HasRoom set (g ∷ gs)
      has_room fs g gs e room = subst (HasRoom set) e room

      pub asks_at : (id : MethodId) → moves set.program at.top at.below r.heap ≡ move.Asks id (operands_of ran.frames) (answered ran.frames) r.heap →
          Stood set t (lone_at t w l) w' mid (asks_next set (behind_at t w' mid) (operands_in mid.frames) (native_of set.program id)) × CanAsk set.program (native_of set.program id) (operands_in mid.frames) w' mid
      asks_at id e =
          let m : Objects → Move = λ (x : Objects). move.Asks id (operands_of ran.frames) (answered ran.frames) x in
          let args : operands_in mid.frames ≡ operands_of ran.frames = ap operands_in ran.are in
          let own = native_of set.program id in
          let fits : ResultFits set (m w'.heap) = subst (ResultFits set) (move_is m e) (serves.fine.result at.top at.below mid.done mid.boxes alive_is few_done) in
          let fine : AskedIsFine set w'.heap (m w'.heap) = subst (AskedIsFine set w'.heap) (move_is m e) (serves.calls at.top at.below mid.done mid.boxes alive_is) in
          let call : IsFineCall set w'.heap id (operands_in mid.frames) = subst (λ (vs : List Value). IsFineCall set w'.heap id vs) (sym args) fine in
          let there : AskedAreThere w'.heap (m w'.heap) = subst (AskedAreThere w'.heap) (move_is m e) (serves.asked at.top at.below mid.done mid.boxes alive_is) in (
            record {
              quiet = to_mid;
              does = next_is m e ∙ (λ i. asks_next set (record { heap = w'.heap; next = w'.next; thread = Alive (sym behind_is i) (mid.done + 1) mid.boxes; kept = kept_for t w'.kept }) (sym args i) own);
              few = few_done;
            },
            record {
              room = λ gives. subst (RoomIn set.program) (sym ran.are) (fits gives);
              there = subst (λ (vs : List Value). Rattle.kilim_type_sound.specs.Fits.AreThere w'.heap vs) (sym args) there;
              heap = serves.heap;
              made = record { set = set; after = behind_at t w' mid; never = call.never (behind_at t w' mid) };
              begins = call.begins;
            },
          )

    -- what it does next where it came to
    next_there : (top : Activation) (below : List Activation) → r.calls ≡ top ∷ below → ran.steps < set.limits.steps - l.done → next_move set t there ≡ next_by set t there (l.done + ran.steps) l.boxes top below (moves set.program top below r.heap)
    unfolding next_move
    next_there top below are few =
        let less : l.done + ran.steps < set.limits.steps = omega (arith, few) in
        ap (λ (b : Bool). cond b (over there cause.Spent) (frames_next set t there r.calls (l.done + ran.steps) l.boxes)) (lt-leb set.limits.steps (l.done + ran.steps) less)
        ∙ ap (λ (fs : List Activation). frames_next set t there fs (l.done + ran.steps) l.boxes) are

    -- an instruction ends it
    shares_there : w'.heap ≡ r.heap → Shares t there w'
    shares_there same = record { heap = sym same; next = refl; kept = λ i. kept_for t (sym ran.kept i) }

    there_nowhere : (top : Activation) (below : List Activation) → r.calls ≡ top ∷ below → ((m : MethodId) (args : List Value) (frames : List Activation) → moves set.program top below r.heap ≡ move.Asks m args frames r.heap → ⊥) → WaitsNowhere set t there.thread
    there_nowhere top below are never =
        subst (λ (fs : List Activation). WaitsNowhere set t (Alive fs (l.done + ran.steps) l.boxes)) (sym are) (unasked top below (l.done + ran.steps) l.boxes r.heap (λ m args frames w asks calls. never m args frames asks))

    pub ends_at : (top : Activation) (below : List Activation) (c : EndCause) → r.calls ≡ top ∷ below → ran.steps < set.limits.steps - l.done → moves set.program top below r.heap ≡ move.Ends c → w'.heap ≡ r.heap → Ended set t (lone_at t w l) w' c
    ends_at top below c are few e same = record {
      mid = there;
      shares = shares_there same;
      nowhere = there_nowhere top below are (λ m args frames asks. let z = sym e ∙ asks in cc);
      quiet = to_there;
      does = next_there top below are few ∙ (ap (next_by set t there (l.done + ran.steps) l.boxes top below) e
          ∙ ap (λ (x : Objects). Ends c (record { heap = x; next = w'.next; thread = Rattle.kilim_run_model.specs.State.Ended c; kept = None })) (sym same));
    }

    -- an instruction raises, or throws
    module _ (top : Activation) (below : List Activation) (are : r.calls ≡ top ∷ below) (few : ran.steps < set.limits.steps - l.done) (at : StandsAt (top ∷ below) ran.frames) (same : w'.heap ≡ r.heap) where
      few_then : mid.done < set.limits.steps
      few_then = let a = ran.counted in omega (arith, few, a)

      pub raises_at : (c : EndCause) → moves set.program top below r.heap ≡ move.Raises c → Led (lone_at t w l) w' mid.done (raised_at set.program (lone_at t w' mid) (calls_in mid.frames) mid.done mid.boxes c)
      raises_at c e = record {
        mid = there;
        quiet = to_there;
        shares = shares_there same;
        nowhere = there_nowhere top below are (λ m args frames asks. let z = sym e ∙ asks in cc);
        does = next_there top below are few
            ∙ (ap (next_by set t there (l.done + ran.steps) l.boxes top below) e
            ∙ (ap (λ (ix : List ℕ). raises_of set.program there c (l.done + ran.steps + 1) l.boxes (λ k. thrown set.program k (Ref w'.next) top below) (raised_class set.program ix c)) (sym (same_index set.program top below ran.frames at))
            ∙ ((λ i. raises_of set.program there c (l.done + ran.steps + 1) l.boxes (λ k. sym (same_thrown set.program top below ran.frames at k (Ref w'.next)) i) (raised_class set.program (index_at set.program (activation ran.frames.top)) c))
            ∙ ((λ i. raises_of set.program (record { heap = sym same i; next = w'.next; thread = thread_in mid; kept = kept_for t (sym ran.kept i) }) c (sym ran.counted i + 1) (sym ran.boxes i) (λ k. thrown set.program k (Ref w'.next) (activation ran.frames.top) (below_of ran.frames)) (raised_class set.program (index_at set.program (activation ran.frames.top)) c))
            ∙ ap (λ (fs : Option Frames). raised_at set.program (lone_at t w' mid) (calls_in fs) mid.done mid.boxes c) (sym ran.are)))));
        few = few_then;
      }

      pub throws_at : (n : ℕ) (class : ClassId) (c : EndCause) → moves set.program top below r.heap ≡ move.Throws n class c → Led (lone_at t w l) w' mid.done (thrown_at set.program (lone_at t w' mid) (calls_in mid.frames) mid.done mid.boxes n class c)
      throws_at n class c e = record {
        mid = there;
        quiet = to_there;
        shares = shares_there same;
        nowhere = there_nowhere top below are (λ m args frames asks. let z = sym e ∙ asks in cc);
        does = next_there top below are few
            ∙ (ap (next_by set t there (l.done + ran.steps) l.boxes top below) e
            ∙ (ap (throws_by there c (l.done + ran.steps + 1) l.boxes) (sym (same_thrown set.program top below ran.frames at class (Ref n)))
            ∙ ((λ i. throws_by (record { heap = sym same i; next = w'.next; thread = thread_in mid; kept = kept_for t (sym ran.kept i) }) c (sym ran.counted i + 1) (sym ran.boxes i) (thrown set.program class (Ref n) (activation ran.frames.top) (below_of ran.frames)))
            ∙ ap (λ (fs : Option Frames). thrown_at set.program (lone_at t w' mid) (calls_in fs) mid.done mid.boxes n class c) (sym ran.are))));
        few = few_then;
      }

    -- all of its instructions are done
    pub spent_at : ran.steps ≡ set.limits.steps - l.done → w'.heap ≡ r.heap → Ended set t (lone_at t w l) w' cause.Spent
    unfolding next_move
    spent_at all same =
        let full : set.limits.steps ≤ l.done + ran.steps = omega (arith, all, lt) in
        record { mid = there; quiet = to_there; shares = shares_there same; nowhere = spent_nowhere r.calls (l.done + ran.steps) l.boxes full; does = spent_move_at full ∙ ap (λ (x : Objects). Ends cause.Spent (record { heap = x; next = w'.next; thread = Rattle.kilim_run_model.specs.State.Ended cause.Spent; kept = None })) (sym same) }
      where
        spent_move_at : set.limits.steps ≤ l.done + ran.steps → next_move set t there ≡ over there cause.Spent
        spent_move_at full = spent_by (nat_le set.limits.steps (l.done + ran.steps)) there (frames_next set t there r.calls (l.done + ran.steps) l.boxes) (le_true set.limits.steps (l.done + ran.steps) full)

  -- ---- what came of it

  module _ (first : Lone) (done : ℕ) (w' : World) (mid : Live) (least : done ≤ mid.done) where
    -- where nothing was changed
    pub same_stood : (next : World → Live → Next) (w'' : World) (l'' : Live) → Stood set t first w' mid (next w' mid) → IsSame w' mid w'' l'' → Stood set t first w'' l'' (next w'' l'')
    same_stood next w'' l'' s same =
        subst (λ (x : World). Stood set t first x l'' (next x l'')) (sym same.world) (subst (λ (x : Live). Stood set t first w' x (next w' x)) (sym same.live) s)

    with_next : (n m : Next) → n ≡ m → Stood set t first w' mid n → Stood set t first w' mid m
    with_next n m e s = record { quiet = s.quiet; does = s.does ∙ e; few = s.few }

    shares_mid : (w'' : World) → w'' ≡ w' → Shares t (lone_at t w' mid) w''
    shares_mid w'' e = subst (Shares t (lone_at t w' mid)) (sym e) (record { heap = refl; next = refl; kept = refl })

    pub came_by : (n : Next) (w'' : World) (l'' : Live) (c : Came) → Stood set t first w' mid n → SuitsAt set t w' mid c → IsNear mid.done l''.done → Comes t n w' mid w'' l'' c → Reaches set t first done w'' l'' c
    came_by n w'' l'' came.On s suits near f =
        let a = f.counted in
        let b = near.most in
        let d = s.few in
        record { quiet = Moves (lone_at t w' mid) s.quiet (s.does ∙ f.goes); more = omega (arith, a, least); most = omega (arith, b, d) }
    came_by n w'' l'' (came.Puts box root shape) s suits near f = same_stood (λ x y. Rattle.kilim_run_model.specs.Lone.Puts box root shape (behind_at t x y)) w'' l'' (with_next n _ f.0 s) f.1
    came_by n w'' l'' (came.PutsWaiting box root shape) s suits near f = (
      same_stood (λ x y. Rattle.kilim_run_model.specs.Lone.PutWaits box root shape (behind_at t x y)) w'' l'' (with_next n _ f.0 s) f.1,
      subst (λ (x : Live). PutsThere set (thread_in x) box root) (sym f.1.live) suits,
    )
    came_by n w'' l'' (came.TooLarge box root) s suits near f = record { mid = lone_at t w' mid; quiet = s.quiet; does = s.does ∙ (f.0 ∙ ap (λ (x : World). Ends cause.Large (ended_at x cause.Large)) (sym f.1)); shares = shares_mid w'' f.1; puts = suits }
    came_by n w'' l'' (came.Bounds box most) s suits near f = same_stood (λ x y. Rattle.kilim_run_model.specs.Lone.Bounds box most (behind_at t x y)) w'' l'' (with_next n _ f.0 s) f.1
    came_by n w'' l'' (came.Takes box) s suits near f = same_stood (λ x y. Rattle.kilim_run_model.specs.Lone.Gets box (behind_at t x y)) w'' l'' (with_next n _ f.0 s) f.1
    came_by n w'' l'' (came.Probes box) s suits near f = same_stood (λ x y. Rattle.kilim_run_model.specs.Lone.Probes box (behind_at t x y)) w'' l'' (with_next n _ f.0 s) f.1
    came_by n w'' l'' (came.Starts root shape) s suits near f = same_stood (λ x y. Rattle.kilim_run_model.specs.Lone.Starts root shape (behind_at t x y)) w'' l'' (with_next n _ f.0 s) f.1
    came_by n w'' l'' (came.Prints shape) s suits near f = (f.0, f.1, same_stood (λ x y. Rattle.kilim_run_model.specs.Lone.Prints f.0 (behind_at t x y)) w'' l'' (with_next n _ f.2 s) f.3)
    came_by n w'' l'' (came.Ends why) s suits near f = record { mid = lone_at t w' mid; quiet = s.quiet; does = s.does ∙ (f.0 ∙ ap (λ (x : World). Ends why (ended_at x why)) (sym f.1)); shares = shares_mid w'' f.1; nowhere = suits }

    -- where it goes on or ends
    pub led_by : (n : Next) (w'' : World) (l'' : Live) (c : Came) → IsOnOrEnd c → Led first w' mid.done n → IsNear mid.done l''.done → Comes t n w' mid w'' l'' c → Reaches set t first done w'' l'' c
    led_by n w'' l'' came.On one s near f =
        let a = f.counted in
        let b = near.most in
        let d = s.few in
        record { quiet = Moves s.mid s.quiet (s.does ∙ f.goes); more = omega (arith, a, least); most = omega (arith, b, d) }
    led_by n w'' l'' (came.Puts box root shape) one s near f = absurd one
    led_by n w'' l'' (came.PutsWaiting box root shape) one s near f = absurd one
    led_by n w'' l'' (came.TooLarge box root) one s near f = absurd one
    led_by n w'' l'' (came.Bounds box most) one s near f = absurd one
    led_by n w'' l'' (came.Takes box) one s near f = absurd one
    led_by n w'' l'' (came.Probes box) one s near f = absurd one
    led_by n w'' l'' (came.Starts root shape) one s near f = absurd one
    led_by n w'' l'' (came.Prints shape) one s near f = absurd one
    led_by n w'' l'' (came.Ends why) one s near f = record {
      mid = s.mid;
      quiet = s.quiet;
      does = s.does ∙ (f.0 ∙ ap (λ (x : World). Ends why (ended_at x why)) (sym f.1));
      shares = subst (Shares t s.mid) (sym f.1) s.shares;
      nowhere = s.nowhere;
    }

  -- ---- from an earlier place on

  quiet_from : (a b : Lone) → Quiet set t a b → (c : Lone) → Quiet set t b c → Quiet set t a c
  quiet_from a b q c r = quiet_on a b c q r

  pub reach_on : (a b : Lone) (early late : ℕ) (w : World) (l : Live) (c : Came) → Quiet set t a b → early ≤ late → Reaches set t b late w l c → Reaches set t a early w l c
  reach_on a b early late w l came.On q le r = let m = r.more in record { quiet = quiet_on a b (lone_at t w l) q r.quiet; more = omega (arith, m, le); most = r.most }
  reach_on a b early late w l (came.Puts box root shape) q le r = record { quiet = quiet_on a b (lone_at t w l) q r.quiet; does = r.does; few = r.few }
  reach_on a b early late w l (came.PutsWaiting box root shape) q le r = (record { quiet = quiet_on a b (lone_at t w l) q r.0.quiet; does = r.0.does; few = r.0.few }, r.1)
  reach_on a b early late w l (came.TooLarge box root) q le r = record { mid = r.mid; quiet = quiet_on a b r.mid q r.quiet; does = r.does; shares = r.shares; puts = r.puts }
  reach_on a b early late w l (came.Bounds box most) q le r = record { quiet = quiet_on a b (lone_at t w l) q r.quiet; does = r.does; few = r.few }
  reach_on a b early late w l (came.Takes box) q le r = record { quiet = quiet_on a b (lone_at t w l) q r.quiet; does = r.does; few = r.few }
  reach_on a b early late w l (came.Probes box) q le r = record { quiet = quiet_on a b (lone_at t w l) q r.quiet; does = r.does; few = r.few }
  reach_on a b early late w l (came.Starts root shape) q le r = record { quiet = quiet_on a b (lone_at t w l) q r.quiet; does = r.does; few = r.few }
  reach_on a b early late w l (came.Prints shape) q le r = (r.0, r.1, record { quiet = quiet_on a b (lone_at t w l) q r.2.quiet; does = r.2.does; few = r.2.few })
  reach_on a b early late w l (came.Ends why) q le r = record { mid = r.mid; quiet = quiet_on a b r.mid q r.quiet; does = r.does; shares = r.shares; nowhere = r.nowhere }

-- ---- answers

pub none_there : {A : Type 0} (o : Option A) → is_some o ≡ false → o ≡ None
none_there None e = refl
none_there (Some x) e = absurd (cc)

-- what holds of an answer that isn't want of memory
pub both_ok : {A E : Type 0} (P B Q : A → Type 0) (R : Type 0) (r : Result A E) → IfOk r P → IfOk r B → OnOk r R → ((a : A) → P a → B a → R → Q a) → IfOk r Q
both_ok P B Q R (Ok a) p b x f = f a p b x
both_ok P B Q R (Err e) p b x f = tt

pub fewer : (steps old new : ℕ) → old < new → new ≤ steps → steps - new < steps - old
fewer steps old new lt le = omega arith

pub coming_by : (c : Came) → (c ≡ came.On → ⊥) → IsComing c
coming_by came.On out = absurd (out refl)
coming_by (came.Puts box root shape) out = tt
coming_by (came.PutsWaiting box root shape) out = tt
coming_by (came.TooLarge box root) out = tt
coming_by (came.Bounds box most) out = tt
coming_by (came.Takes box) out = tt
coming_by (came.Probes box) out = tt
coming_by (came.Starts root shape) out = tt
coming_by (came.Prints shape) out = tt
coming_by (came.Ends why) out = tt

pub went_by : (set : Setting) (t : ℕ) (first : Lone) (done : ℕ) (w : World) (l : Live) (c : Came) → c ≡ came.On → Reaches set t first done w l c → WentOn set t first done w l
went_by set t first done w l c e r = subst (Reaches set t first done w l) e r
