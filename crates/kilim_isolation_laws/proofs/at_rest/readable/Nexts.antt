-- What a thread does next carries shapes that can be read.
use Rattle.std.proofs.Common.{◌≡◌, ℕ, zero, suc, ◌+◌, ℤ, Bool, true, false, cond, List, [], ◌∷◌, Option, Some, None, refl, sym, ap, subst}
use Rattle.std.specs.Prelude.{pos, nat_lt, nat_le}
use Rattle.kilim_program.specs.Program.{Program}
use Rattle.kilim_program.specs.declared.names.BoxName.{BoxName}
use Rattle.kilim_program.specs.declared.value.Value.{Value}
use Rattle.kilim_program.specs.declared.value.Value.TheVariants.{Int, Long, Null, Ref, Text, Box, Fiber}
use Rattle.kilim_run_state.specs.declared.cause.EndCause.TheVariants as cause
use Rattle.kilim_run_state.specs.declared.value.Token.{Token}
use Rattle.kilim_run_state.specs.Machine.{Activation}
use Rattle.kilim_program.specs.Members.{execute_of}
use Rattle.kilim_run_machine.specs.Natives.{Native, native_of}
use Rattle.kilim_run_machine.specs.Natives as native
use Rattle.kilim_run_state.specs.Shapes.{shape_of}
use Rattle.kilim_run_machine.specs.Moves.{Move, push_value, moves}
use Rattle.kilim_run_machine.specs.Moves as move
use Rattle.kilim_run_journal.specs.Readable.{is_object, is_plain_value}
use Rattle.kilim_run_model.specs.State.{Setting, Thread, Alive, Ended, begun_on}
use Rattle.kilim_run_model.proofs.Raised.{raised_has, raises_has, throws_has}
use Rattle.kilim_run_machine.specs.Raising.{thrown}
use Rattle.kilim_run_model.specs.Course.{next_action, next_or, next_within}
use Rattle.kilim_run_model.specs.Lone.{Lone, Next, next_move, thread_next, frames_next, next_by, opens_next, finish_next, begins_next, asks_next, native_next, message_next, put_next, put_wait_next, wait_next, bound_next, start_next, print_next, printed, arg_next, arg_at, over, went, on_heap, box_limit}
use Rattle.kilim_run_model.specs.Lone as next
use Rattle.kilim_isolation_laws.proofs.at_rest.readable.Shapes.{shape_is_object}

abbrev pub CanRead : Next → Type 0
CanRead (next.Puts box root shape after) = is_object shape ≡ true
CanRead (next.PutWaits box root shape after) = is_object shape ≡ true
CanRead (next.Starts root shape after) = is_object shape ≡ true
CanRead (next.Prints token after) = is_plain_value (token ∷ []) ≡ true
CanRead x = Unit {0}

put_read : (p : Program) (l : Lone) (box : BoxName) (n : ℕ) (o : Option (List Token)) → shape_of p l.heap n ≡ o → CanRead (put_next l box n o)
put_read p l box n None e = tt
put_read p l box n (Some shape) e = shape_is_object p l.heap n shape e

message_read : (p : Program) (l : Lone) (box : BoxName) (v : Value) → CanRead (message_next p l box v)
message_read p l box Null = raised_has CanRead l cause.Null tt p (λ object f fs frames done boxes e. tt)
message_read p l box (Ref n) = put_read p l box n (shape_of p l.heap n) refl
message_read p l box v = tt

put_wait_read : (p : Program) (l : Lone) (box : BoxName) (n : ℕ) (o : Option (List Token)) → shape_of p l.heap n ≡ o → CanRead (put_wait_next l box n o)
put_wait_read p l box n None e = tt
put_wait_read p l box n (Some shape) e = shape_is_object p l.heap n shape e

wait_read : (p : Program) (l : Lone) (box : BoxName) (v : Value) → CanRead (wait_next p l box v)
wait_read p l box Null = raised_has CanRead l cause.Null tt p (λ object f fs frames done boxes e. tt)
wait_read p l box (Ref n) = put_wait_read p l box n (shape_of p l.heap n) refl
wait_read p l box v = tt

bound_read : (p : Program) (l : Lone) (box : BoxName) (i : ℤ) → CanRead (bound_next p l box i)
bound_read p l box (pos (suc i)) = tt
bound_read p l box i = raised_has CanRead l cause.Size tt p (λ object f fs frames done boxes e. tt)

start_read : (p : Program) (l : Lone) (n : ℕ) (o : Option (List Token)) → shape_of p l.heap n ≡ o → CanRead (start_next l n o)
start_read p l n None e = tt
start_read p l n (Some shape) e = shape_is_object p l.heap n shape e

print_read : (l : Lone) (v : Value) → CanRead (print_next l (printed v))
print_read l (Int n) = refl
print_read l (Long n) = refl
print_read l Null = refl
print_read l (Text units) = refl
print_read l v = tt

arg_read : (p : Program) (l : Lone) (o : Option ℤ) → CanRead (arg_next p l o)
arg_read p l None = raised_has CanRead l cause.Index tt p (λ object f fs frames done boxes e. tt)
arg_read p l (Some n) = tt

native_read : (set : Setting) (l : Lone) (n : Native) (args : List Value) → CanRead (native_next set l n args)
native_read set l native.Execute (Ref n ∷ []) = tt
native_read set l native.Start (Ref n ∷ []) = start_read set.program l n (shape_of set.program l.heap n) refl
native_read set l native.Put (Box box ∷ v ∷ []) = message_read set.program l box v
native_read set l native.PutWait (Box box ∷ v ∷ []) = wait_read set.program l box v
native_read set l native.Bound (Box box ∷ Int i ∷ []) = bound_read set.program l box i
native_read set l native.Get (Box box ∷ []) = tt
native_read set l native.Getnb (Box box ∷ []) = tt
native_read set l native.Print (v ∷ []) = print_read l v
native_read set l native.Yield [] = tt
native_read set l native.ArgCount [] = tt
native_read set l native.Arg (Int i ∷ []) = arg_read set.program l (arg_at set.limits.args i)
native_read set l n args = tt

asks_read : (set : Setting) (l : Lone) (args : List Value) (o : Option Native) → CanRead (asks_next set l args o)
asks_read set l args None = tt
asks_read set l args (Some n) = native_read set l n args

begins_read : (l : Lone) (done boxes : ℕ) (o : Option (List Activation)) → CanRead (begins_next l done boxes o)
begins_read l done boxes None = tt
begins_read l done boxes (Some []) = tt
begins_read l done boxes (Some (f ∷ fs)) = tt

finish_read : (set : Setting) (l : Lone) (done boxes : ℕ) (o : Option ℕ) → CanRead (finish_next set l done boxes o)
finish_read set l done boxes None = tt
finish_read set l done boxes (Some n) = begins_read l done boxes (begun_on set.program (execute_of set.program set.main) n)

opens_read : (t : ℕ) (l : Lone) (fs : List Activation) (done boxes : ℕ) → CanRead (opens_next t l fs done boxes)
opens_read t l fs done boxes = elim (nat_lt boxes box_limit) as (λ (b : Bool). CanRead (cond b (next.Goes (went l (push_value (Box (record { task = t; number = boxes })) fs) done (boxes + 1))) (over l cause.Boxes))) [ true ↦ tt | false ↦ tt ]

move_read : (set : Setting) (t : ℕ) (l : Lone) (done boxes : ℕ) (top : Activation) (below : List Activation) (m : Move) → CanRead (next_by set t l done boxes top below m)
move_read set t l done boxes top below (move.Opens fs h) = opens_read t (on_heap l h) fs done boxes
move_read set t l done boxes top below (move.Asks m args fs h) = asks_read set (went (on_heap l h) fs done boxes) args (native_of set.program m)
move_read set t l done boxes top below (move.Returns h) = finish_read set (on_heap l h) done boxes l.kept
move_read set t l done boxes top below (move.Raises c) = raises_has CanRead l c tt set.program done boxes top below (λ object f fs. tt)
move_read set t l done boxes top below (move.Throws n c why) = throws_has CanRead l why tt (done + 1) boxes (thrown set.program c (Ref n) top below) (λ f fs. tt)
move_read set t l done boxes top below m = tt

frames_read : (set : Setting) (t : ℕ) (l : Lone) (fs : List Activation) (done boxes : ℕ) → CanRead (frames_next set t l fs done boxes)
frames_read set t l [] done boxes = tt
frames_read set t l (top ∷ below) done boxes = move_read set t l done boxes top below (moves set.program top below l.heap)

thread_read : (set : Setting) (t : ℕ) (l : Lone) (th : Thread) → CanRead (thread_next set t l th)
thread_read set t l (Ended c) = tt
thread_read set t l (Alive fs done boxes) = elim (nat_le set.limits.steps done) as (λ (b : Bool). CanRead (cond b (over l cause.Spent) (frames_next set t l fs done boxes))) [ true ↦ tt | false ↦ frames_read set t l fs done boxes ]

pub move_can : (set : Setting) (t : ℕ) (l : Lone) → CanRead (next_move set t l)
unfolding next_move
move_can set t l = thread_read set t l l.thread

or_read : (n : Next) (go : Lone → Next) → CanRead n → ((l : Lone) → CanRead (go l)) → CanRead (next_or n go)
or_read (next.Goes after) go c each = each after
or_read (next.Puts box root shape after) go c each = c
or_read (next.PutWaits box root shape after) go c each = c
or_read (next.Bounds box most after) go c each = c
or_read (next.Gets box after) go c each = c
or_read (next.Probes box after) go c each = c
or_read (next.Starts root shape after) go c each = c
or_read (next.Prints token after) go c each = c
or_read (next.Ends why after) go c each = c
or_read next.Stands go c each = c

within_read : (set : Setting) (t n : ℕ) (l : Lone) → CanRead (next_within set t n l)
within_read set t zero l = tt
within_read set t (suc n) l = or_read (next_move set t l) (next_within set t n) (move_can set t l) (λ m. within_read set t n m)

pub action_read : (set : Setting) (t : ℕ) (l : Lone) → CanRead (next_action set t l)
unfolding next_action
action_read set t l = within_read set t (suc set.limits.steps) l
