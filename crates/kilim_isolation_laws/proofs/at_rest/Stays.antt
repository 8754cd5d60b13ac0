-- A thread that stands where it may have to wait stands there on every heap.
use Rattle.std.proofs.Common.{◌≡◌, ℕ, zero, suc, ◌+◌, Bool, true, false, cond, List, [], ◌∷◌, Option, Some, None, length, refl, sym, ap, subst, ◌∙◌}
use Rattle.std.specs.Prelude.{ℤ, pos, nat_lt, nat_le}
use Rattle.kilim_run_state.specs.declared.cause.EndCause.{EndCause}
use Rattle.kilim_run_state.specs.declared.cause.EndCause.TheVariants as cause
use Rattle.std.proofs.lemmas.Option.{none-some}
use Rattle.kilim_run_state.specs.declared.value.Token.{Token}
use Rattle.kilim_program.specs.Program.{Program}
use Rattle.kilim_program.specs.declared.names.BoxName.{BoxName}
use Rattle.kilim_program.specs.declared.names.MethodId.{MethodId}
use Rattle.kilim_program.specs.declared.value.Value.{Value}
use Rattle.kilim_program.specs.declared.value.Value.TheVariants.{Int, Long, Null, Ref, Text, Box, Fiber}
use Rattle.kilim_run_state.specs.Machine.{Objects, Activation}
use Rattle.kilim_program.specs.Members.{execute_of}
use Rattle.kilim_run_machine.specs.Natives.{Native, native_of}
use Rattle.kilim_run_machine.specs.Natives as native
use Rattle.kilim_run_machine.specs.Effect.{Effect}
use Rattle.kilim_run_machine.specs.Effect as effect
use Rattle.kilim_run_machine.specs.Moves.{Move, Change, frame_limit, push_value, moves, move_by, called, returned, effect_of}
use Rattle.kilim_run_machine.specs.Moves as move
use Rattle.kilim_run_state.specs.Shapes.{shape_of}
use Rattle.kilim_run_model.specs.State.{Setting, Thread, Alive, Ended, begun_on}
use Rattle.kilim_run_model.specs.Lone.{Lone, Next, Goes, Gets, box_limit, went, over, raised, put_next, message_next, put_wait_next, wait_next, bound_next, start_next, print_next, printed, arg_next, arg_at, native_next, asks_next, begins_next, finish_next, on_heap, next_by, frames_next, thread_next, next_move, get_at}
use Rattle.kilim_run_model.specs.declared.waits.Waits.{Waits}
use Rattle.kilim_run_model.specs.declared.waits.Waits.TheVariants as wait
use Rattle.kilim_run_model.proofs.Raised.{raised_has, raises_has, throws_has}
use Rattle.kilim_run_machine.specs.Raising.{thrown}
use Rattle.kilim_isolation_laws.specs.at_rest.Laws.{GetStays, StaysAt, is_going}
use Rattle.kilim_isolation_laws.proofs.at_rest.Asked.{SameAsk, AsksSame, effect_same}

-- ---- moves

no_call : (b : Bool) (change : Change) (fs : List Activation) (heap h2 : Objects) (m : MethodId) (args : List Value) (frames : List Activation) → cond b (move.Runs change fs heap) (move.Ends cause.Depth) ≡ move.Asks m args frames h2 → ⊥
no_call true change fs heap h2 m args frames e = absurd (cc)
no_call false change fs heap h2 m args frames e = absurd (cc)

no_return : (value : Option Value) (below : List Activation) (heap h2 : Objects) (m : MethodId) (args : List Value) (frames : List Activation) → returned value below heap ≡ move.Asks m args frames h2 → ⊥
no_return value [] heap h2 m args frames e = absurd (cc)
no_return value (caller ∷ below) heap h2 m args frames e = absurd (cc)

module _ (p : Program) (top : Activation) (below : List Activation) (k : Objects) where
  by_same : (e d : Effect) (m : MethodId) (box : BoxName) (vs : List Value) (frames : List Activation) (h2 : Objects) → SameAsk k e d → move_by p e top below ≡ move.Asks m (Box box ∷ vs) frames h2 →
      move_by p d top below ≡ move.Asks m (Box box ∷ vs) frames k
  by_same (effect.Goes place locals stack heap) d m box vs frames h2 same e = absurd (cc)
  by_same (effect.Makes object place locals stack heap) d m box vs frames h2 same e = absurd (cc)
  by_same (effect.Opens place locals stack heap) d m box vs frames h2 same e = absurd (cc)
  by_same (effect.Calls c args place locals stack heap) d m box vs frames h2 same e = absurd (no_call (nat_lt _ frame_limit) _ _ heap h2 m (Box box ∷ vs) frames e)
  by_same (effect.Returns value heap) d m box vs frames h2 same e = absurd (no_return value below heap h2 m (Box box ∷ vs) frames e)
  by_same (effect.Raises cause) d m box vs frames h2 same e = absurd (cc)
  by_same (effect.Throws object class cause) d m box vs frames h2 same e = absurd (cc)
  by_same (effect.Ends cause) d m box vs frames h2 same e = absurd (cc)
  by_same effect.Stuck d m box vs frames h2 same e = absurd (cc)
  by_same (effect.Asks c [] place locals stack heap) d m box vs frames h2 same e = absurd (cc)
  by_same (effect.Asks c (Int x ∷ ws) place locals stack heap) d m box vs frames h2 same e = absurd (cc)
  by_same (effect.Asks c (Long x ∷ ws) place locals stack heap) d m box vs frames h2 same e = absurd (cc)
  by_same (effect.Asks c (Null ∷ ws) place locals stack heap) d m box vs frames h2 same e = absurd (cc)
  by_same (effect.Asks c (Ref n ∷ ws) place locals stack heap) d m box vs frames h2 same e = absurd (cc)
  by_same (effect.Asks c (Text units ∷ ws) place locals stack heap) d m box vs frames h2 same e = absurd (cc)
  by_same (effect.Asks c (Fiber ∷ ws) place locals stack heap) d m box vs frames h2 same e = absurd (cc)
  by_same (effect.Asks c (Box b ∷ ws) place locals stack heap) d m box vs frames h2 same e = ap (λ (x : Effect). move_by p x top below) same ∙ cc

pub moves_same : (p : Program) (top : Activation) (below : List Activation) (h k : Objects) (m : MethodId) (box : BoxName) (vs : List Value) (frames : List Activation) (h2 : Objects) →
    moves p top below h ≡ move.Asks m (Box box ∷ vs) frames h2 → moves p top below k ≡ move.Asks m (Box box ∷ vs) frames k
unfolding moves
moves_same p top below h k m box vs frames h2 e = by_same p top below k (effect_of p top h) (effect_of p top k) m box vs frames h2 (effect_same h k p top).same e

-- ---- what is next

-- it waits at the `get` or the put of a mailbox, and so it does on another heap
record GetsAt (w : Waits) (nat : Native) (args : List Value) : Type 0 where
  box : BoxName
  behind : List Value
  of_box : args ≡ Box box ∷ behind
  stays : (set : Setting) (other : Lone) → StaysAt w (native_next set other nat args)

pub no_put : (after : Lone) (b : BoxName) (n : ℕ) (shape : Option (List Token)) (w : Waits) → get_at (put_next after b n shape) ≡ Some w → ⊥
no_put after b n None w e = absurd (cc)
no_put after b n (Some shape) w e = absurd (cc)

pub no_raise : (p : Program) (after : Lone) (why : EndCause) (w : Waits) → get_at (raised p after why) ≡ Some w → ⊥
no_raise p after why w = raised_has (λ (x : Next). get_at x ≡ Some w → ⊥) after why (λ e. absurd (none-some _ e)) p (λ object f fs frames done boxes same e. absurd (none-some _ e))

pub no_message : (p : Program) (after : Lone) (b : BoxName) (v : Value) (w : Waits) → get_at (message_next p after b v) ≡ Some w → ⊥
no_message p after b Null w e = no_raise p after cause.Null w e
no_message p after b (Ref n) w e = no_put after b n (shape_of p after.heap n) w e
no_message p after b v w e = absurd (cc)

pub put_wait_at : (after : Lone) (b : BoxName) (n : ℕ) (shape : Option (List Token)) (w : Waits) → get_at (put_wait_next after b n shape) ≡ Some w → wait.Put b ≡ w
put_wait_at after b n None w e = absurd (cc)
put_wait_at after b n (Some shape) w e = cc

put_wait_still : (after : Lone) (b : BoxName) (n : ℕ) (shape : Option (List Token)) → is_going (put_wait_next after b n shape) ≡ false
put_wait_still after b n None = refl
put_wait_still after b n (Some shape) = refl

pub no_bound : (p : Program) (after : Lone) (b : BoxName) (i : ℤ) (w : Waits) → get_at (bound_next p after b i) ≡ Some w → ⊥
no_bound p after b (pos (suc i)) w e = absurd (cc)
no_bound p after b i w e = no_raise p after cause.Size w e

pub no_start : (after : Lone) (n : ℕ) (shape : Option (List Token)) (w : Waits) → get_at (start_next after n shape) ≡ Some w → ⊥
no_start after n None w e = absurd (cc)
no_start after n (Some shape) w e = absurd (cc)

pub no_print : (after : Lone) (t : Option Token) (w : Waits) → get_at (print_next after t) ≡ Some w → ⊥
no_print after None w e = absurd (cc)
no_print after (Some t) w e = absurd (cc)

pub no_arg : (p : Program) (after : Lone) (x : Option ℤ) (w : Waits) → get_at (arg_next p after x) ≡ Some w → ⊥
no_arg p after None w e = no_raise p after cause.Index w e
no_arg p after (Some x) w e = absurd (cc)

wait_gets : (set : Setting) (after : Lone) (b : BoxName) (message : Value) (w : Waits) → get_at (wait_next set.program after b message) ≡ Some w → GetsAt w native.PutWait (Box b ∷ message ∷ [])
wait_gets set after b Null w e = absurd (no_raise set.program after cause.Null w e)
wait_gets set after b (Ref n) w e = record {
  box = b;
  behind = Ref n ∷ [];
  of_box = refl;
  stays = λ s other.
      subst (λ (z : Waits). StaysAt z (put_wait_next other b n (shape_of s.program other.heap n))) (put_wait_at after b n (shape_of set.program after.heap n) w e) (put_wait_still other b n (shape_of s.program other.heap n));
}
wait_gets set after b v w e = absurd (cc)

native_gets : (set : Setting) (after : Lone) (nat : Native) (args : List Value) (w : Waits) → get_at (native_next set after nat args) ≡ Some w → GetsAt w nat args
native_gets set after native.Execute (Ref n ∷ []) w e = absurd (cc)
native_gets set after native.Start (Ref n ∷ []) w e = absurd (no_start after n (shape_of set.program after.heap n) w e)
native_gets set after native.Put (Box b ∷ message ∷ []) w e = absurd (no_message set.program after b message w e)
native_gets set after native.PutWait (Box b ∷ message ∷ []) w e = wait_gets set after b message w e
native_gets set after native.Bound (Box b ∷ Int i ∷ []) w e = absurd (no_bound set.program after b i w e)
native_gets set after native.Get (Box b ∷ []) w e = record { box = b; behind = []; of_box = refl; stays = λ s other. let same : wait.Take b ≡ w = cc in subst (λ (z : Waits). StaysAt z (Gets b other)) same refl }
native_gets set after native.Getnb (Box b ∷ []) w e = absurd (cc)
native_gets set after native.Print (v ∷ []) w e = absurd (no_print after (printed v) w e)
native_gets set after native.Yield [] w e = absurd (cc)
native_gets set after native.ArgCount [] w e = absurd (cc)
native_gets set after native.Arg (Int i ∷ []) w e = absurd (no_arg set.program after (arg_at set.limits.args i) w e)
native_gets set after nat args w e = absurd (cc)

pub no_begin : (l : Lone) (done boxes : ℕ) (frames : Option (List Activation)) (w : Waits) → get_at (begins_next l done boxes frames) ≡ Some w → ⊥
no_begin l done boxes None w e = absurd (cc)
no_begin l done boxes (Some []) w e = absurd (cc)
no_begin l done boxes (Some (frame ∷ frames)) w e = absurd (cc)

pub no_finish : (set : Setting) (l : Lone) (done boxes : ℕ) (kept : Option ℕ) (w : Waits) → get_at (finish_next set l done boxes kept) ≡ Some w → ⊥
no_finish set l done boxes None w e = absurd (cc)
no_finish set l done boxes (Some n) w e = no_begin l done boxes (begun_on set.program (execute_of set.program set.main) n) w e

pub no_open : (b : Bool) (x y : Lone) (w : Waits) → get_at (cond b (Goes x) (over y cause.Boxes)) ≡ Some w → ⊥
no_open true x y w e = absurd (cc)
no_open false x y w e = absurd (cc)

asked_get : (set : Setting) (x y : Lone) (args : List Value) (nat : Option Native) (w : Waits) → get_at (asks_next set x args nat) ≡ Some w → (box : BoxName) × (behind : List Value) × (args ≡ Box box ∷ behind) × StaysAt w (asks_next set y args nat)
asked_get set x y args None w e = absurd (cc)
asked_get set x y args (Some nat) w e = let found = native_gets set x nat args w e in (found.box, found.behind, found.of_box, found.stays set y)

module _ (set : Setting) (t : ℕ) (a b : Lone) (done boxes : ℕ) where
  move_gets : (top other : Activation) (below others : List Activation) (ma mb : Move) (w : Waits) →
      ((box : BoxName) (m : MethodId) (vs : List Value) (frames : List Activation) (heap : Objects) → ma ≡ move.Asks m (Box box ∷ vs) frames heap → mb ≡ move.Asks m (Box box ∷ vs) frames b.heap) →
      get_at (next_by set t a done boxes top below ma) ≡ Some w → StaysAt w (next_by set t b done boxes other others mb)
  move_gets top other below others (move.Runs change frames heap) mb w same e = absurd (cc)
  move_gets top other below others (move.Makes object frames heap) mb w same e = absurd (cc)
  move_gets top other below others (move.Opens frames heap) mb w same e = absurd (no_open (nat_lt boxes box_limit) (went (on_heap a heap) (push_value (Box (record { task = t; number = boxes })) frames) done (boxes + 1)) (on_heap a heap) w e)
  move_gets top other below others (move.Asks m args frames heap) mb w same e =
      let found = asked_get set (went (on_heap a heap) frames done boxes) (went (on_heap b b.heap) frames done boxes) args (native_of set.program m) w e in
      let there = same found.0 m found.1 frames heap (ap (λ (vs : List Value). move.Asks m vs frames heap) found.2) in
      subst (λ (x : Move). StaysAt w (next_by set t b done boxes other others x)) (sym there)
      (subst (λ (vs : List Value). StaysAt w (asks_next set (went (on_heap b b.heap) frames done boxes) vs (native_of set.program m))) found.2 found.3)
  move_gets top other below others (move.Returns heap) mb w same e = absurd (no_finish set (on_heap a heap) done boxes a.kept w e)
  move_gets top other below others (move.Raises cause) mb w same e = absurd (raises_has (λ (x : Next). get_at x ≡ Some w → ⊥) a cause (λ d. absurd (none-some _ d)) set.program done boxes top below (λ object f fs d. absurd (none-some _ d)) e)
  move_gets top other below others (move.Throws object class cause) mb w same e = absurd (throws_has (λ (x : Next). get_at x ≡ Some w → ⊥) a cause (λ d. absurd (none-some _ d)) (done + 1) boxes (thrown set.program class (Ref object) top below) (λ f fs d. absurd (none-some _ d)) e)
  move_gets top other below others (move.Ends cause) mb w same e = absurd (cc)
  move_gets top other below others move.Stuck mb w same e = absurd (cc)

  frames_get : (frames : List Activation) (w : Waits) → get_at (frames_next set t a frames done boxes) ≡ Some w → StaysAt w (frames_next set t b frames done boxes)
  frames_get [] w e = absurd (cc)
  frames_get (top ∷ below) w e =
      move_gets top top below below (moves set.program top below a.heap) (moves set.program top below b.heap) w (λ box m vs frames heap is. moves_same set.program top below a.heap b.heap m box vs frames heap is) e

  spent_get : (spent : Bool) (frames : List Activation) (w : Waits) → get_at (cond spent (over a cause.Spent) (frames_next set t a frames done boxes)) ≡ Some w →
      StaysAt w (cond spent (over b cause.Spent) (frames_next set t b frames done boxes))
  spent_get true frames w e = absurd (cc)
  spent_get false frames w e = frames_get frames w e

thread_gets : (set : Setting) (t : ℕ) (a b : Lone) (th : Thread) (w : Waits) → get_at (thread_next set t a th) ≡ Some w → StaysAt w (thread_next set t b th)
thread_gets set t a b (Ended cause) w e = absurd (cc)
thread_gets set t a b (Alive frames done boxes) w e = spent_get set t a b done boxes (nat_le set.limits.steps done) frames w e

pub get_stays : GetStays
unfolding next_move
get_stays set t a b w same e = subst (λ (th : Thread). StaysAt w (thread_next set t b th)) same (thread_gets set t a b a.thread w e)
