-- A thread that may have to wait stands at the call of `get` or of a put that waits, whatever the heap holds.
use Rattle.std.proofs.Common.{◌≡◌, ℕ, zero, suc, ◌+◌, ◌<◌, ℤ, pos, Bool, true, false, cond, List, [], ◌∷◌, Option, Some, None, refl, sym, ap, subst, ◌∙◌, arith}
use Rattle.std.specs.Prelude.{nat_lt, nat_le}
use Rattle.std.proofs.lemmas.Bool.{lt-leb}
use Rattle.std.proofs.lemmas.Bool.Decides.{nat_tests}
use Rattle.std.proofs.lemmas.Option.{none-some}
use Rattle.kilim_program.specs.declared.names.BoxName.{BoxName}
use Rattle.kilim_program.specs.declared.names.MethodId.{MethodId}
use Rattle.kilim_program.specs.declared.value.Value.{Value}
use Rattle.kilim_program.specs.declared.value.Value.TheVariants.{Int, Null, Ref, Box}
use Rattle.kilim_run_state.specs.declared.cause.EndCause.TheVariants as cause
use Rattle.kilim_run_state.specs.declared.value.Token.{Token}
use Rattle.kilim_run_state.specs.Machine.{Objects, Activation}
use Rattle.kilim_run_state.specs.Shapes.{shape_of}
use Rattle.kilim_run_machine.specs.Natives.{Native, native_of}
use Rattle.kilim_run_machine.specs.Natives as native
use Rattle.kilim_run_machine.specs.Moves.{Move, moves, push_value}
use Rattle.kilim_run_machine.specs.Moves as move
use Rattle.kilim_run_machine.specs.Raising.{thrown}
use Rattle.kilim_run_model.specs.State.{Setting, Thread, Alive, Ended}
use Rattle.kilim_run_model.specs.Lone.{Lone, Next, PutWaits, Gets, Ends, box_limit, went, over, printed, put_wait_next, wait_next, native_next, asks_next, next_by, frames_next, thread_next, next_move, get_at, arg_at, on_heap}
use Rattle.kilim_run_model.specs.declared.waits.Waits.{Waits}
use Rattle.kilim_run_model.specs.declared.waits.Waits.TheVariants as wait
use Rattle.kilim_run_model.proofs.Raised.{raises_has, throws_has}
use Rattle.kilim_isolation_laws.proofs.at_rest.Stays.{moves_same, no_arg, no_bound, no_finish, no_message, no_open, no_print, no_raise, no_start, put_wait_at}
use Rattle.kilim_replay_laws.specs.Waiting.{AsksToWait, IsWaitCall, WaitsAsk, waits_call}

pub not_asked : (w : Waits) (o : Option Native) (args : List Value) → waits_call o args ≡ false → IsWaitCall w o args → ⊥
not_asked (wait.Take box) (Some native.Get) (Box b ∷ []) e is = absurd (cc)
not_asked (wait.Put box) (Some native.PutWait) (Box b ∷ Ref n ∷ []) e is = absurd (cc)
not_asked w o args e is = is

put_calls : (set : Setting) (after : Lone) (b : BoxName) (v : Value) (w : Waits) → get_at (wait_next set.program after b v) ≡ Some w → IsWaitCall w (Some native.PutWait) (Box b ∷ v ∷ [])
put_calls set after b Null w e = absurd (no_raise set.program after cause.Null w e)
put_calls set after b (Ref n) w e = by w (put_wait_at after b n (shape_of set.program after.heap n) w e)
  where
    by : (w : Waits) → wait.Put b ≡ w → IsWaitCall w (Some native.PutWait) (Box b ∷ Ref n ∷ [])
    by (wait.Put c) e = cc
    by (wait.Take c) e = absurd (cc)
put_calls set after b v w e = absurd (cc)

get_calls : (b : BoxName) (w : Waits) → Some (wait.Take b) ≡ Some w → IsWaitCall w (Some native.Get) (Box b ∷ [])
get_calls b (wait.Take c) e = cc
get_calls b (wait.Put c) e = absurd (cc)

native_calls : (set : Setting) (after : Lone) (nat : Native) (args : List Value) (w : Waits) → get_at (native_next set after nat args) ≡ Some w → IsWaitCall w (Some nat) args
native_calls set after native.Execute (Ref n ∷ []) w e = absurd (cc)
native_calls set after native.Start (Ref n ∷ []) w e = absurd (no_start after n (shape_of set.program after.heap n) w e)
native_calls set after native.Put (Box b ∷ message ∷ []) w e = absurd (no_message set.program after b message w e)
native_calls set after native.PutWait (Box b ∷ message ∷ []) w e = put_calls set after b message w e
native_calls set after native.Bound (Box b ∷ Int i ∷ []) w e = absurd (no_bound set.program after b i w e)
native_calls set after native.Get (Box b ∷ []) w e = get_calls b w e
native_calls set after native.Getnb (Box b ∷ []) w e = absurd (cc)
native_calls set after native.Print (v ∷ []) w e = absurd (no_print after (printed v) w e)
native_calls set after native.Yield [] w e = absurd (cc)
native_calls set after native.ArgCount [] w e = absurd (cc)
native_calls set after native.Arg (Int i ∷ []) w e = absurd (no_arg set.program after (arg_at set.limits.args i) w e)
native_calls set after nat args w e = absurd (cc)

asked_calls : (set : Setting) (after : Lone) (args : List Value) (o : Option Native) (w : Waits) → get_at (asks_next set after args o) ≡ Some w → IsWaitCall w o args
asked_calls set after args None w e = absurd (cc)
asked_calls set after args (Some nat) w e = native_calls set after nat args w e

-- the arguments of such a call begin with a mailbox
pub begins_with : (w : Waits) (o : Option Native) (args : List Value) → IsWaitCall w o args → (box : BoxName) × (rest : List Value) × (args ≡ Box box ∷ rest)
begins_with (wait.Take box) (Some native.Get) (Box b ∷ []) is = (b, [], refl)
begins_with (wait.Put box) (Some native.PutWait) (Box b ∷ Ref n ∷ []) is = (b, Ref n ∷ [], refl)
begins_with w o args is = absurd is

module _ (set : Setting) (t : ℕ) (a b : Lone) (w : Waits) where
  record Found (top : Activation) (below : List Activation) : Type 0 where
    method : MethodId
    args : List Value
    frames : List Activation
    asks : moves set.program top below b.heap ≡ move.Asks method args frames b.heap
    calls : IsWaitCall w (native_of set.program method) args

  by_move : (top : Activation) (below : List Activation) (done boxes : ℕ) (m : Move) → moves set.program top below a.heap ≡ m → get_at (next_by set t a done boxes top below m) ≡ Some w → Found top below
  by_move top below done boxes (move.Runs change frames heap) is e = absurd (cc)
  by_move top below done boxes (move.Makes object frames heap) is e = absurd (cc)
  by_move top below done boxes (move.Opens frames heap) is e = absurd (no_open (nat_lt boxes box_limit) (went (on_heap a heap) (push_value (Box (record { task = t; number = boxes })) frames) done (boxes + 1)) (on_heap a heap) w e)
  by_move top below done boxes (move.Asks m args frames heap) is e =
      let calls = asked_calls set (went (on_heap a heap) frames done boxes) args (native_of set.program m) w e in
      let begins = begins_with w (native_of set.program m) args calls in
      record {
        method = m;
        args = args;
        frames = frames;
        asks =
            moves_same set.program top below a.heap b.heap m begins.0 begins.1 frames heap (is ∙ ap (λ (vs : List Value). move.Asks m vs frames heap) begins.2)
            ∙ ap (λ (vs : List Value). move.Asks m vs frames b.heap) (sym begins.2);
        calls = calls;
      }
  by_move top below done boxes (move.Returns heap) is e = absurd (no_finish set (on_heap a heap) done boxes a.kept w e)
  by_move top below done boxes (move.Raises why) is e = absurd (raises_has (λ (x : Next). get_at x ≡ Some w → ⊥) a why (λ d. absurd (none-some _ d)) set.program done boxes top below (λ object f fs d. absurd (none-some _ d)) e)
  by_move top below done boxes (move.Throws object class why) is e =
      absurd (throws_has (λ (x : Next). get_at x ≡ Some w → ⊥) a why (λ d. absurd (none-some _ d)) (done + 1) boxes (thrown set.program class (Ref object) top below) (λ f fs d. absurd (none-some _ d)) e)
  by_move top below done boxes (move.Ends why) is e = absurd (cc)
  by_move top below done boxes move.Stuck is e = absurd (cc)

  by_frames : (frames : List Activation) (done boxes : ℕ) → b.thread ≡ Alive frames done boxes → done < set.limits.steps → get_at (frames_next set t a frames done boxes) ≡ Some w → AsksToWait set w b
  by_frames [] done boxes alive few e = absurd (cc)
  by_frames (top ∷ below) done boxes alive few e =
      let found = by_move top below done boxes (moves set.program top below a.heap) refl e in
      record { top = top; below = below; done = done; boxes = boxes; alive = alive; few = few; method = found.method; args = found.args; frames = found.frames; asks = found.asks; calls = found.calls }

  left : (k done : ℕ) → nat_le k done ≡ false → done < k
  left k done e = grind (arith, nat_tests)

  by_spent : (spent : Bool) (frames : List Activation) (done boxes : ℕ) → nat_le set.limits.steps done ≡ spent → b.thread ≡ Alive frames done boxes → get_at (cond spent (over a cause.Spent) (frames_next set t a frames done boxes)) ≡ Some w → AsksToWait set w b
  by_spent true frames done boxes is alive e = absurd (cc)
  by_spent false frames done boxes is alive e = by_frames frames done boxes alive (left set.limits.steps done is) e

  by_thread : (th : Thread) → b.thread ≡ th → get_at (thread_next set t a th) ≡ Some w → AsksToWait set w b
  by_thread (Ended why) is e = absurd (cc)
  by_thread (Alive frames done boxes) is e = by_spent (nat_le set.limits.steps done) frames done boxes refl is e

pub waits_ask : WaitsAsk
unfolding next_move
waits_ask set t a b w same e = by_thread set t a b w a.thread (sym same) e

-- ---- what is next there

abbrev pub IsWaitNext : Waits → Next → Type 0
IsWaitNext (wait.Take box) (Gets b after) = b ≡ box
IsWaitNext (wait.Put box) (PutWaits b root shape after) = b ≡ box
IsWaitNext (wait.Put box) (Ends why after) = why ≡ cause.Large
IsWaitNext w n = ⊥

pub asks_is : (set : Setting) (t : ℕ) (l : Lone) (top : Activation) (below : List Activation) (done boxes : ℕ) (m : MethodId) (args : List Value) (frames : List Activation) → l.thread ≡ Alive (top ∷ below) done boxes → done < set.limits.steps →
    moves set.program top below l.heap ≡ move.Asks m args frames l.heap → next_move set t l ≡ asks_next set (went (on_heap l l.heap) frames done boxes) args (native_of set.program m)
unfolding next_move
asks_is set t l top below done boxes m args frames alive few asks =
    ap (thread_next set t l) alive
    ∙ (ap (λ (b : Bool). cond b (over l cause.Spent) (frames_next set t l (top ∷ below) done boxes)) (lt-leb set.limits.steps done few)
    ∙ ap (next_by set t l done boxes top below) asks)

put_tells : (box b : BoxName) (after : Lone) (n : ℕ) (o : Option (List Token)) → b ≡ box → IsWaitNext (wait.Put box) (put_wait_next after b n o)
put_tells box b after n None is = refl
put_tells box b after n (Some shape) is = is

call_tells : (set : Setting) (after : Lone) (w : Waits) (o : Option Native) (args : List Value) → IsWaitCall w o args → IsWaitNext w (asks_next set after args o)
call_tells set after (wait.Take box) (Some native.Get) (Box b ∷ []) is = is
call_tells set after (wait.Put box) (Some native.PutWait) (Box b ∷ Ref n ∷ []) is = put_tells box b after n (shape_of set.program after.heap n) is
call_tells set after w o args is = absurd is

pub ask_tells : (set : Setting) (t : ℕ) (w : Waits) (l : Lone) → AsksToWait set w l → IsWaitNext w (next_move set t l)
ask_tells set t w l a =
    subst (IsWaitNext w) (sym (asks_is set t l a.top a.below a.done a.boxes a.method a.args a.frames a.alive a.few a.asks))
    (call_tells set (went (on_heap l l.heap) a.frames a.done a.boxes) w (native_of set.program a.method) a.args a.calls)
