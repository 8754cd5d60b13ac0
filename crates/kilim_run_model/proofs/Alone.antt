-- A thread that is alone, and one that rests.
use Rattle.std.proofs.Common.{◌≡◌, ℕ, zero, suc, ◌+◌, ◌≤◌, Bool, true, false, cond, List, [], ◌∷◌, Option, Some, None, refl, sym, ap, subst, ◌∙◌, arith}
use Rattle.std.specs.Prelude.{ℤ, pos, nat_lt, nat_le, is_some}
use Rattle.std.proofs.lemmas.Bool.{le-leb}
use Rattle.kilim_run_state.specs.declared.cause.EndCause.TheVariants as cause
use Rattle.kilim_run_state.specs.declared.value.Token.{Token}
use Rattle.kilim_program.specs.Program.{Program}
use Rattle.kilim_program.specs.declared.names.BoxName.{BoxName}
use Rattle.kilim_program.specs.declared.value.Value.{Value}
use Rattle.kilim_program.specs.declared.value.Value.TheVariants.{Int, Null, Ref, Box}
use Rattle.kilim_run_state.specs.Machine.{Activation}
use Rattle.kilim_program.specs.Members.{execute_of}
use Rattle.kilim_run_machine.specs.Natives.{Native, native_of}
use Rattle.kilim_run_machine.specs.Natives as native
use Rattle.kilim_run_machine.specs.Moves.{Move, moves, push_value}
use Rattle.kilim_run_machine.specs.Moves as move
use Rattle.kilim_run_state.specs.declared.cause.EndCause.{EndCause}
use Rattle.kilim_run_state.specs.Shapes.{shape_of}
use Rattle.kilim_run_model.specs.State.{Setting, Thread, Alive, Ended, State, begun_on, is_full}
use Rattle.kilim_run_model.specs.Lone.{Lone, Next, Goes, Puts, PutWaits, Bounds, Gets, Probes, Starts, Prints, Ends, Stands, box_limit, went, pushed_on, over, put_next, message_next, put_wait_next, wait_next, bound_next, start_next, print_next, printed, arg_next, arg_at, native_next, asks_next, begins_next, finish_next, on_heap, next_by, frames_next, thread_next, next_move, get_at, pushed, raised, opens_next}
use Rattle.kilim_run_model.specs.Turn.{quiet, gets, lone_of, moved_by, thread_moved, moved, puts, with_lone}
use Rattle.kilim_run_model.specs.Runs.{where_empty, if_waits}
use Rattle.kilim_run_model.specs.Course.{Deed, next_or, next_within, next_action, Done, Follows}
use Rattle.kilim_run_model.specs.Alone.{NextComes, OneLone, RestsStill}
use Rattle.kilim_run_model.proofs.Raised.{raised_has, raises_has, throws_has}
use Rattle.kilim_run_machine.specs.Raising.{thrown}

-- ---- where a thread goes on by itself, it has counted one instruction more

abbrev HasDone : ℕ → Thread → Type 0
HasDone n (Alive frames done boxes) = done ≡ n
HasDone n (Ended cause) = ⊥

abbrev Counts : ℕ → Next → Type 0
Counts n (Goes after) = HasDone n after.thread
Counts n (Puts box root shape after) = Unit {0}
Counts n (PutWaits box root shape after) = Unit {0}
Counts n (Bounds box most after) = Unit {0}
Counts n (Gets box after) = Unit {0}
Counts n (Probes box after) = Unit {0}
Counts n (Starts root shape after) = Unit {0}
Counts n (Prints token after) = Unit {0}
Counts n (Ends cause after) = Unit {0}
Counts n Stands = Unit {0}

either : (n : ℕ) (b : Bool) (x y : Next) → Counts n x → Counts n y → Counts n (cond b x y)
either n true x y p q = p
either n false x y p q = q

pushed_counts : (n : ℕ) (v : Value) (th : Thread) → HasDone n th → HasDone n (pushed_on v th)
pushed_counts n v (Alive frames done boxes) h = h
pushed_counts n v (Ended cause) h = h

put_counts : (n : ℕ) (after : Lone) (box : BoxName) (root : ℕ) (shape : Option (List Token)) → Counts n (put_next after box root shape)
put_counts n after box root None = tt
put_counts n after box root (Some shape) = tt

start_counts : (n : ℕ) (after : Lone) (root : ℕ) (shape : Option (List Token)) → Counts n (start_next after root shape)
start_counts n after root None = tt
start_counts n after root (Some shape) = tt

-- a handler of what is raised behind a call has counted it
thread_counts : (n done boxes : ℕ) (frames : List Activation) (th : Thread) → HasDone n th → th ≡ Alive frames done boxes → done ≡ n
thread_counts n done boxes frames th h e = subst (HasDone n) e h

raised_counts : (n : ℕ) (p : Program) (after : Lone) (why : EndCause) → HasDone n after.thread → Counts n (raised p after why)
raised_counts n p after why h = raised_has (Counts n) after why tt p (λ object f fs frames done boxes e. thread_counts n done boxes frames after.thread h e)

message_counts : (n : ℕ) (p : Program) (after : Lone) (box : BoxName) (v : Value) → HasDone n after.thread → Counts n (message_next p after box v)
message_counts n p after box Null h = raised_counts n p after cause.Null h
message_counts n p after box (Ref root) h = put_counts n after box root (shape_of p after.heap root)
message_counts n p after box v h = tt

put_wait_counts : (n : ℕ) (after : Lone) (box : BoxName) (root : ℕ) (shape : Option (List Token)) → Counts n (put_wait_next after box root shape)
put_wait_counts n after box root None = tt
put_wait_counts n after box root (Some shape) = tt

wait_counts : (n : ℕ) (p : Program) (after : Lone) (box : BoxName) (v : Value) → HasDone n after.thread → Counts n (wait_next p after box v)
wait_counts n p after box Null h = raised_counts n p after cause.Null h
wait_counts n p after box (Ref root) h = put_wait_counts n after box root (shape_of p after.heap root)
wait_counts n p after box v h = tt

bound_counts : (n : ℕ) (p : Program) (after : Lone) (box : BoxName) (i : ℤ) → HasDone n after.thread → Counts n (bound_next p after box i)
bound_counts n p after box (pos (suc i)) h = tt
bound_counts n p after box i h = raised_counts n p after cause.Size h

print_counts : (n : ℕ) (after : Lone) (t : Option Token) → Counts n (print_next after t)
print_counts n after None = tt
print_counts n after (Some t) = tt

arg_counts : (n : ℕ) (p : Program) (after : Lone) (x : Option ℤ) → HasDone n after.thread → Counts n (arg_next p after x)
arg_counts n p after None h = raised_counts n p after cause.Index h
arg_counts n p after (Some x) h = pushed_counts n (Int x) after.thread h

native_counts : (n : ℕ) (set : Setting) (after : Lone) (nat : Native) (args : List Value) → HasDone n after.thread → Counts n (native_next set after nat args)
native_counts n set after native.Execute (Ref r ∷ []) h = h
native_counts n set after native.Start (Ref r ∷ []) h = start_counts n after r (shape_of set.program after.heap r)
native_counts n set after native.Put (Box box ∷ message ∷ []) h = message_counts n set.program after box message h
native_counts n set after native.PutWait (Box box ∷ message ∷ []) h = wait_counts n set.program after box message h
native_counts n set after native.Bound (Box box ∷ Int i ∷ []) h = bound_counts n set.program after box i h
native_counts n set after native.Get (Box box ∷ []) h = tt
native_counts n set after native.Getnb (Box box ∷ []) h = tt
native_counts n set after native.Print (v ∷ []) h = print_counts n after (printed v)
native_counts n set after native.Yield [] h = h
native_counts n set after native.ArgCount [] h = pushed_counts n _ after.thread h
native_counts n set after native.Arg (Int i ∷ []) h = arg_counts n set.program after (arg_at set.limits.args i) h
native_counts n set after nat args h = tt

asks_counts : (n : ℕ) (set : Setting) (after : Lone) (args : List Value) (nat : Option Native) → HasDone n after.thread → Counts n (asks_next set after args nat)
asks_counts n set after args None h = tt
asks_counts n set after args (Some nat) h = native_counts n set after nat args h

begins_counts : (l : Lone) (done boxes : ℕ) (frames : Option (List Activation)) → Counts (done + 1) (begins_next l done boxes frames)
begins_counts l done boxes None = tt
begins_counts l done boxes (Some []) = tt
begins_counts l done boxes (Some (frame ∷ frames)) = refl

finish_counts : (set : Setting) (l : Lone) (done boxes : ℕ) (kept : Option ℕ) → Counts (done + 1) (finish_next set l done boxes kept)
finish_counts set l done boxes None = tt
finish_counts set l done boxes (Some n) = begins_counts l done boxes (begun_on set.program (execute_of set.program set.main) n)

move_counts : (set : Setting) (t : ℕ) (l : Lone) (done boxes : ℕ) (top : Activation) (below : List Activation) (m : Move) → Counts (done + 1) (next_by set t l done boxes top below m)
move_counts set t l done boxes top below (move.Runs change frames heap) = refl
move_counts set t l done boxes top below (move.Makes object frames heap) = refl
move_counts set t l done boxes top below (move.Opens frames heap) = either (done + 1) (nat_lt boxes box_limit) _ _ refl tt
move_counts set t l done boxes top below (move.Asks m args frames heap) = asks_counts (done + 1) set (went (on_heap l heap) frames done boxes) args (native_of set.program m) refl
move_counts set t l done boxes top below (move.Returns heap) = finish_counts set (on_heap l heap) done boxes l.kept
move_counts set t l done boxes top below (move.Raises cause) = raises_has (Counts (done + 1)) l cause tt set.program done boxes top below (λ object f fs. refl)
move_counts set t l done boxes top below (move.Throws n c cause) = throws_has (Counts (done + 1)) l cause tt (done + 1) boxes (thrown set.program c (Ref n) top below) (λ f fs. refl)
move_counts set t l done boxes top below (move.Ends cause) = tt
move_counts set t l done boxes top below move.Stuck = tt

frames_count : (set : Setting) (t : ℕ) (l : Lone) (frames : List Activation) (done boxes : ℕ) → Counts (done + 1) (frames_next set t l frames done boxes)
frames_count set t l [] done boxes = tt
frames_count set t l (top ∷ below) done boxes = move_counts set t l done boxes top below (moves set.program top below l.heap)

alive_counts : (set : Setting) (t : ℕ) (l : Lone) (frames : List Activation) (done boxes : ℕ) → Counts (done + 1) (thread_next set t l (Alive frames done boxes))
alive_counts set t l frames done boxes = either (done + 1) (nat_le set.limits.steps done) (over l cause.Spent) _ tt (frames_count set t l frames done boxes)

-- ---- so many instructions are left at most

abbrev pub AreLeft : ℕ → ℕ → Thread → Type 0
AreLeft steps k (Alive frames done boxes) = steps ≤ done + k
AreLeft steps k (Ended cause) = Unit {0}

left_from : (steps k n : ℕ) (th : Thread) → HasDone n th → steps ≤ n + k → AreLeft steps k th
left_from steps k n (Alive frames done boxes) h le = omega arith
left_from steps k n (Ended cause) h le = tt

not_spent : (set : Setting) (t : ℕ) (l after : Lone) (frames : List Activation) (done boxes : ℕ) → thread_next set t l (Alive frames done boxes) ≡ Goes after → set.limits.steps ≤ done → ⊥
not_spent set t l after frames done boxes goes le =
    let spent : over l cause.Spent ≡ Goes after = sym (ap (λ (b : Bool). cond b (over l cause.Spent) (frames_next set t l frames done boxes)) (le-leb set.limits.steps done le)) ∙ goes in
    absurd (cc)

pub none_left : (set : Setting) (t : ℕ) (l after : Lone) (th : Thread) → AreLeft set.limits.steps 0 th → thread_next set t l th ≡ Goes after → ⊥
none_left set t l after (Ended cause) left goes = absurd (cc)
none_left set t l after (Alive frames done boxes) left goes = not_spent set t l after frames done boxes goes (omega arith)

pub one_less : (set : Setting) (t : ℕ) (l after : Lone) (th : Thread) (k : ℕ) → AreLeft set.limits.steps (suc k) th → thread_next set t l th ≡ Goes after → AreLeft set.limits.steps k after.thread
one_less set t l after (Ended cause) k left goes = absurd (cc)
one_less set t l after (Alive frames done boxes) k left goes =
    let counted : Counts (done + 1) (Goes after) = subst (Counts (done + 1)) goes (alive_counts set t l frames done boxes) in
    left_from set.limits.steps k (done + 1) after.thread counted (omega arith)

same_by : (set : Setting) (t m n : ℕ) (l : Lone) → ((after : Lone) → next_move set t l ≡ Goes after → next_within set t m after ≡ next_within set t n after) →
    (x : Next) → next_move set t l ≡ x → next_or x (next_within set t m) ≡ next_or x (next_within set t n)
same_by set t m n l goes_same (Goes after) e = goes_same after e
same_by set t m n l goes_same (Puts box root shape after) e = refl
same_by set t m n l goes_same (PutWaits box root shape after) e = refl
same_by set t m n l goes_same (Bounds box most after) e = refl
same_by set t m n l goes_same (Gets box after) e = refl
same_by set t m n l goes_same (Probes box after) e = refl
same_by set t m n l goes_same (Starts root shape after) e = refl
same_by set t m n l goes_same (Prints token after) e = refl
same_by set t m n l goes_same (Ends cause after) e = refl
same_by set t m n l goes_same Stands e = refl

-- what is enough leads to the same
same_next : (set : Setting) (t k m n : ℕ) (l : Lone) → AreLeft set.limits.steps k l.thread → k ≤ m → k ≤ n → next_within set t (suc m) l ≡ next_within set t (suc n) l
unfolding next_move
same_next set t zero m n l left km kn = same_by set t m n l (λ after goes. absurd (none_left set t l after l.thread left goes)) (next_move set t l) refl
same_next set t (suc k) zero n l left km kn = absurd (omega arith)
same_next set t (suc k) (suc m) zero l left km kn = absurd (omega arith)
same_next set t (suc k) (suc m) (suc n) l left km kn =
    same_by set t (suc m) (suc n) l (λ after goes. same_next set t k m n after (one_less set t l after l.thread k left goes) (omega arith) (omega arith)) (next_move set t l) refl

pub all_left : (steps : ℕ) (th : Thread) → AreLeft steps steps th
all_left steps (Alive frames done boxes) = omega arith
all_left steps (Ended cause) = tt

pub next_comes : NextComes
unfolding next_action
next_comes set t zero l enough = absurd (omega arith)
next_comes set t (suc n) l enough = same_next set t set.limits.steps n set.limits.steps l (all_left set.limits.steps l.thread) (omega arith) (omega arith)

-- ---- a course is that of one thread

abbrev after_or : Lone → Option Done → Lone
after_or l None = l
after_or l (Some done) = done.after

one_end : (set : Setting) (t : ℕ) (l a b : Lone) (ds : List Deed) → Follows set t l ds a → Follows set t l ds b → a ≡ b
one_end set t l a b [] p q = sym p ∙ q
one_end set t l a b (d ∷ ds) (mid, does, rest) (mid', does', rest') =
    let same : mid' ≡ mid = ap (after_or l) (sym does' ∙ does) in
    one_end set t mid a b ds rest (subst (λ (m : Lone). Follows set t m ds b) same rest')

pub one_lone : OneLone
one_lone set t c a b p q =
    let same : q.first ≡ p.first = cc (p.begins, q.begins) in
    one_end set t p.first a b c.deeds p.follows (subst (λ (l : Lone). Follows set t l c.deeds b) same q.follows)

-- ---- a thread that rests

no_message : (box : BoxName) (queue : List (ℕ × ℕ)) → is_some (where_empty queue box) ≡ true → queue ≡ []
no_message box [] h = refl
no_message box (first ∷ rest) h = absurd (cc)

is_filled : (full : Bool) (box : BoxName) → is_some (cond full (Some box) None) ≡ true → full ≡ true
is_filled true box h = refl
is_filled false box h = absurd (cc)

stays_at : (set : Setting) (s : State) (t : ℕ) (x : Next) → is_some (if_waits s (get_at x)) ≡ true → moved_by set s t x ≡ quiet s
stays_at set s t (Goes after) h = absurd (cc)
stays_at set s t (Puts box root shape after) h = absurd (cc)
stays_at set s t (PutWaits box root shape after) h = ap (λ (z : Bool). cond z (quiet s) (puts (with_lone s t after) box root shape)) (is_filled (is_full (s.mailboxes box)) box h)
stays_at set s t (Bounds box most after) h = absurd (cc)
stays_at set s t (Gets box after) h = ap (λ (queue : List (ℕ × ℕ)). gets s t box after queue) (no_message box (s.mailboxes box).queue h)
stays_at set s t (Probes box after) h = absurd (cc)
stays_at set s t (Starts root shape after) h = absurd (cc)
stays_at set s t (Prints token after) h = absurd (cc)
stays_at set s t (Ends cause after) h = absurd (cc)
stays_at set s t Stands h = absurd (cc)

pub rests_still : RestsStill
unfolding moved next_move
rests_still set s t (Ended cause) is rests = ap (thread_moved set s t) is
rests_still set s t (Alive frames done boxes) is rests =
    ap (thread_moved set s t) is ∙ stays_at set s t (next_move set t (lone_of s t (Alive frames done boxes))) rests
