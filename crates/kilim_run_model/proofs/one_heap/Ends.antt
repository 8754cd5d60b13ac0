-- A thread has ended just where the last deed of its course is an end.
use Rattle.std.proofs.Common.{◌≡◌, ℕ, zero, suc, ◌+◌, ℤ, Bool, true, false, cond, List, [], ◌∷◌, Option, Some, None, refl, sym, ap, subst, ◌∙◌, inl, inr}
use Rattle.std.specs.Prelude.{pos, nat_lt, nat_le}
use Rattle.std.proofs.lemmas.Bool.{cases_Bool}
use Rattle.std.proofs.lemmas.Option.{same_Some, none-some}
use Rattle.kilim_program.specs.Program.{Program}
use Rattle.kilim_program.specs.declared.names.BoxName.{BoxName}
use Rattle.kilim_program.specs.declared.value.Value.{Value}
use Rattle.kilim_program.specs.declared.value.Value.TheVariants.{Int, Null, Ref, Box}
use Rattle.kilim_run_state.specs.declared.cause.EndCause.TheVariants as cause
use Rattle.kilim_run_state.specs.declared.value.Object.{Object}
use Rattle.kilim_run_state.specs.declared.value.Token.{Token}
use Rattle.kilim_run_state.specs.Machine.{Objects, Activation}
use Rattle.kilim_program.specs.Members.{execute_of}
use Rattle.kilim_run_machine.specs.Natives.{Native, native_of}
use Rattle.kilim_run_machine.specs.Natives as native
use Rattle.kilim_run_machine.specs.Moves.{Move, moves, push_value}
use Rattle.kilim_run_machine.specs.Moves as move
use Rattle.kilim_run_machine.specs.Raising.{thrown}
use Rattle.kilim_run_state.specs.Shapes.{shape_of}
use Rattle.kilim_run_state.specs.Trees.{OfMessage, OfTask, built}
use Rattle.kilim_run_journal.specs.declared.entry.Act.{Act}
use Rattle.kilim_run_journal.specs.declared.entry.Act.TheVariants.{Bound, Put, Take, Empty, Start, Print, End}
use Rattle.kilim_run_model.specs.State.{Setting, Thread, Alive, Ended, begun_on}
use Rattle.kilim_run_model.specs.Lone.{Lone, Next, Goes, Puts, PutWaits, Bounds, Gets, Probes, Starts, Prints, Ends, Stands, box_limit, went, pushed, pushed_on, ended, over, put_next, message_next, put_wait_next, wait_next, bound_next, start_next, print_next, printed, arg_next, arg_at, native_next, asks_next, begins_next, finish_next, on_heap, next_by, frames_next, thread_next, next_move}
use Rattle.kilim_run_model.specs.Course.{Course, Done, did, received, tree_left, lone_in, lone_built, lone_begun, next_or, next_within, next_action, tree_came, takes_deed, probes_deed, puts_deed, fills_deed, starts_deed, done_by, Follows, Quiet, Stays, Moves, is_end, ends_in, has_ended}
use Rattle.kilim_run_model.specs.declared.deed.Deed.{Deed}
use Rattle.kilim_run_model.specs.declared.deed.Beginning.{Beginning}
use Rattle.kilim_run_model.specs.declared.deed.Beginning.TheVariants.{Boot, Begun}
use Rattle.kilim_run_model.specs.one_heap.Booked.{IsOf}
use Rattle.kilim_run_model.proofs.Raised.{raised_has, raises_has, throws_has}

abbrev pub is_ended : Thread → Bool
is_ended (Alive frames done boxes) = false
is_ended (Ended cause) = true

-- only an end leaves an ended thread
abbrev So : Next → Type 0
So (Goes l) = is_ended l.thread ≡ false
So (Puts box root shape l) = is_ended l.thread ≡ false
So (PutWaits box root shape l) = is_ended l.thread ≡ false
So (Bounds box most l) = is_ended l.thread ≡ false
So (Gets box l) = is_ended l.thread ≡ false
So (Probes box l) = is_ended l.thread ≡ false
So (Starts root shape l) = is_ended l.thread ≡ false
So (Prints token l) = is_ended l.thread ≡ false
So (Ends cause l) = is_ended l.thread ≡ true
So Stands = Unit {0}

either : (b : Bool) (x y : Next) → So x → So y → So (cond b x y)
either true x y p q = p
either false x y p q = q

pushed_is : (v : Value) (th : Thread) → is_ended (pushed_on v th) ≡ is_ended th
pushed_is v (Alive frames done boxes) = refl
pushed_is v (Ended cause) = refl

put_so : (after : Lone) (box : BoxName) (root : ℕ) (shape : Option (List Token)) → is_ended after.thread ≡ false → So (put_next after box root shape)
put_so after box root None h = refl
put_so after box root (Some shape) h = h

start_so : (after : Lone) (root : ℕ) (shape : Option (List Token)) → is_ended after.thread ≡ false → So (start_next after root shape)
start_so after root None h = refl
start_so after root (Some shape) h = h

message_so : (p : Program) (after : Lone) (box : BoxName) (v : Value) → is_ended after.thread ≡ false → So (message_next p after box v)
message_so p after box Null h = raised_has So after cause.Null refl p (λ object f fs frames done boxes e. refl)
message_so p after box (Ref root) h = put_so after box root (shape_of p after.heap root) h
message_so p after box v h = tt

put_wait_so : (after : Lone) (box : BoxName) (root : ℕ) (shape : Option (List Token)) → is_ended after.thread ≡ false → So (put_wait_next after box root shape)
put_wait_so after box root None h = refl
put_wait_so after box root (Some shape) h = h

wait_so : (p : Program) (after : Lone) (box : BoxName) (v : Value) → is_ended after.thread ≡ false → So (wait_next p after box v)
wait_so p after box Null h = raised_has So after cause.Null refl p (λ object f fs frames done boxes e. refl)
wait_so p after box (Ref root) h = put_wait_so after box root (shape_of p after.heap root) h
wait_so p after box v h = tt

bound_so : (p : Program) (after : Lone) (box : BoxName) (i : ℤ) → is_ended after.thread ≡ false → So (bound_next p after box i)
bound_so p after box (pos (suc i)) h = h
bound_so p after box i h = raised_has So after cause.Size refl p (λ object f fs frames done boxes e. refl)

print_so : (after : Lone) (t : Option Token) → is_ended after.thread ≡ false → So (print_next after t)
print_so after None h = tt
print_so after (Some t) h = h

arg_so : (p : Program) (after : Lone) (x : Option ℤ) → is_ended after.thread ≡ false → So (arg_next p after x)
arg_so p after None h = raised_has So after cause.Index refl p (λ object f fs frames done boxes e. refl)
arg_so p after (Some x) h = pushed_is (Int x) after.thread ∙ h

native_so : (set : Setting) (after : Lone) (nat : Native) (args : List Value) → is_ended after.thread ≡ false → So (native_next set after nat args)
native_so set after native.Execute (Ref r ∷ []) h = h
native_so set after native.Start (Ref r ∷ []) h = start_so after r (shape_of set.program after.heap r) h
native_so set after native.Put (Box box ∷ message ∷ []) h = message_so set.program after box message h
native_so set after native.PutWait (Box box ∷ message ∷ []) h = wait_so set.program after box message h
native_so set after native.Bound (Box box ∷ Int i ∷ []) h = bound_so set.program after box i h
native_so set after native.Get (Box box ∷ []) h = h
native_so set after native.Getnb (Box box ∷ []) h = h
native_so set after native.Print (v ∷ []) h = print_so after (printed v) h
native_so set after native.Yield [] h = h
native_so set after native.ArgCount [] h = pushed_is _ after.thread ∙ h
native_so set after native.Arg (Int i ∷ []) h = arg_so set.program after (arg_at set.limits.args i) h
native_so set after nat args h = tt

asks_so : (set : Setting) (after : Lone) (args : List Value) (nat : Option Native) → is_ended after.thread ≡ false → So (asks_next set after args nat)
asks_so set after args None h = tt
asks_so set after args (Some nat) h = native_so set after nat args h

begins_so : (l : Lone) (done boxes : ℕ) (frames : Option (List Activation)) → So (begins_next l done boxes frames)
begins_so l done boxes None = tt
begins_so l done boxes (Some []) = refl
begins_so l done boxes (Some (frame ∷ frames)) = refl

finish_so : (set : Setting) (l : Lone) (done boxes : ℕ) (kept : Option ℕ) → So (finish_next set l done boxes kept)
finish_so set l done boxes None = refl
finish_so set l done boxes (Some n) = begins_so l done boxes (begun_on set.program (execute_of set.program set.main) n)

move_so : (set : Setting) (t : ℕ) (l : Lone) (done boxes : ℕ) (top : Activation) (below : List Activation) (m : Move) → So (next_by set t l done boxes top below m)
move_so set t l done boxes top below (move.Runs change frames heap) = refl
move_so set t l done boxes top below (move.Makes object frames heap) = refl
move_so set t l done boxes top below (move.Opens frames heap) = either (nat_lt boxes box_limit) _ _ refl refl
move_so set t l done boxes top below (move.Asks m args frames heap) = asks_so set (went (on_heap l heap) frames done boxes) args (native_of set.program m) refl
move_so set t l done boxes top below (move.Returns heap) = finish_so set (on_heap l heap) done boxes l.kept
move_so set t l done boxes top below (move.Raises cause) = raises_has So l cause refl set.program done boxes top below (λ object f fs. refl)
move_so set t l done boxes top below (move.Throws n c cause) = throws_has So l cause refl (done + 1) boxes (thrown set.program c (Ref n) top below) (λ f fs. refl)
move_so set t l done boxes top below (move.Ends cause) = refl
move_so set t l done boxes top below move.Stuck = tt

frames_so : (set : Setting) (t : ℕ) (l : Lone) (frames : List Activation) (done boxes : ℕ) → So (frames_next set t l frames done boxes)
frames_so set t l [] done boxes = refl
frames_so set t l (top ∷ below) done boxes = move_so set t l done boxes top below (moves set.program top below l.heap)

thread_so : (set : Setting) (t : ℕ) (l : Lone) (th : Thread) → So (thread_next set t l th)
thread_so set t l (Ended cause) = tt
thread_so set t l (Alive frames done boxes) = either (nat_le set.limits.steps done) (over l cause.Spent) _ refl (frames_so set t l frames done boxes)

next_so : (set : Setting) (t : ℕ) (l : Lone) → So (next_move set t l)
unfolding next_move
next_so set t l = thread_so set t l l.thread

or_so : (x : Next) (go : Lone → Next) → So x → ((l : Lone) → So (go l)) → So (next_or x go)
or_so (Goes l) go h each = each l
or_so (Puts box root shape l) go h each = h
or_so (PutWaits box root shape l) go h each = h
or_so (Bounds box most l) go h each = h
or_so (Gets box l) go h each = h
or_so (Probes box l) go h each = h
or_so (Starts root shape l) go h each = h
or_so (Prints token l) go h each = h
or_so (Ends cause l) go h each = h
or_so Stands go h each = tt

within_so : (set : Setting) (t n : ℕ) (l : Lone) → So (next_within set t n l)
within_so set t zero l = tt
within_so set t (suc n) l = or_so (next_move set t l) (next_within set t n) (next_so set t l) (within_so set t n)

action_so : (set : Setting) (t : ℕ) (l : Lone) → So (next_action set t l)
unfolding next_action
action_so set t l = within_so set t (suc set.limits.steps) l

-- ---- an ended thread stands still

thread_still : (set : Setting) (t : ℕ) (l : Lone) (th : Thread) → is_ended th ≡ true → thread_next set t l th ≡ Stands
thread_still set t l (Ended cause) e = refl
thread_still set t l (Alive frames done boxes) e = absurd (cc)

pub still : (set : Setting) (t : ℕ) (l : Lone) → is_ended l.thread ≡ true → next_move set t l ≡ Stands
unfolding next_move
still set t l e = thread_still set t l l.thread e

still_action : (set : Setting) (t : ℕ) (l : Lone) → is_ended l.thread ≡ true → next_action set t l ≡ Stands
unfolding next_action
still_action set t l e = ap (λ (x : Next). next_or x (next_within set t set.limits.steps)) (still set t l e)

-- ---- a deed is an end just where it leaves an ended thread

did_is : (a : Act) (after l : Lone) (act : Act) → did a after ≡ Some (record { act = act; after = l }) → is_end a ≡ is_ended after.thread → is_end act ≡ is_ended l.thread
did_is a after l act e h =
    let same : record { act = a; after = after } ≡ record { act = act; after = l } = same_Some _ _ e in
    ap (λ (z : Done). is_end z.act) (sym same) ∙ (h ∙ ap (λ (z : Done). is_ended z.after.thread) same)

puts_is : (p : Program) (box : BoxName) (root : ℕ) (shape : List Token) (l : Lone) (a : Act) (k : Lone) (act : Act) → is_ended l.thread ≡ false → puts_deed p box root shape l a ≡ Some (record { act = act; after = k }) → is_end act ≡ is_ended k.thread
puts_is p box root shape l (Put b n s) k act h e = did_is (Put box n shape) (tree_left p root l) k act e (sym h)
puts_is p box root shape l _ k act h e = absurd (none-some _ e)

fills_is : (p : Program) (box : BoxName) (root : ℕ) (shape : List Token) (l : Lone) (a : Act) (k : Lone) (act : Act) → is_ended l.thread ≡ false → fills_deed p box root shape l a ≡ Some (record { act = act; after = k }) → is_end act ≡ is_ended k.thread
fills_is p box root shape l (Put b n s) k act h e = did_is (Put box n shape) (tree_left p root l) k act e (sym h)
fills_is p box root shape l (End why) k act h e = did_is (End cause.Full) (ended l cause.Full) k act e refl
fills_is p box root shape l _ k act h e = absurd (none-some _ e)

came_is : (box : BoxName) (n : ℕ) (l : Lone) (o : Option (List Object)) (k : Lone) (act : Act) → is_ended l.thread ≡ false → tree_came box n l o ≡ Some (record { act = act; after = k }) → is_end act ≡ is_ended k.thread
came_is box n l None k act h e = absurd (none-some _ e)
came_is box n l (Some os) k act h e = did_is (Take box n) (received l os) k act e (sym (pushed_is (Ref l.next) l.thread ∙ h))

takes_is : (p : Program) (box : BoxName) (l : Lone) (d : Deed) (a : Act) (k : Lone) (act : Act) → is_ended l.thread ≡ false → takes_deed p box l d a ≡ Some (record { act = act; after = k }) → is_end act ≡ is_ended k.thread
takes_is p box l d (Take b n) k act h e = came_is box n l (built p OfMessage l.next d.taken) k act h e
takes_is p box l d _ k act h e = absurd (none-some _ e)

probes_is : (p : Program) (box : BoxName) (l : Lone) (d : Deed) (a : Act) (k : Lone) (act : Act) → is_ended l.thread ≡ false → probes_deed p box l d a ≡ Some (record { act = act; after = k }) → is_end act ≡ is_ended k.thread
probes_is p box l d (Empty b) k act h e = did_is (Empty box) (pushed Null l) k act e (sym (pushed_is Null l.thread ∙ h))
probes_is p box l d (Take b n) k act h e = came_is box n l (built p OfMessage l.next d.taken) k act h e
probes_is p box l d _ k act h e = absurd (none-some _ e)

starts_is : (p : Program) (root : ℕ) (shape : List Token) (l : Lone) (a : Act) (k : Lone) (act : Act) → is_ended l.thread ≡ false → starts_deed p root shape l a ≡ Some (record { act = act; after = k }) → is_end act ≡ is_ended k.thread
starts_is p root shape l (Start n s) k act h e = did_is (Start n shape) (tree_left p root l) k act e (sym h)
starts_is p root shape l (End why) k act h e = did_is (End cause.Tasks) (ended l cause.Tasks) k act e refl
starts_is p root shape l _ k act h e = absurd (none-some _ e)

done_is : (set : Setting) (x : Next) (d : Deed) (l : Lone) → So x → done_by set x d ≡ Some (record { act = d.act; after = l }) → is_end d.act ≡ is_ended l.thread
done_is set (Goes k) d l h e = absurd (none-some _ e)
done_is set (Puts box root shape k) d l h e = fills_is set.program box root shape k d.act l d.act h e
done_is set (PutWaits box root shape k) d l h e = puts_is set.program box root shape k d.act l d.act h e
done_is set (Bounds box most k) d l h e = did_is (Bound box most) k l d.act e (sym h)
done_is set (Gets box k) d l h e = takes_is set.program box k d d.act l d.act h e
done_is set (Probes box k) d l h e = probes_is set.program box k d d.act l d.act h e
done_is set (Starts root shape k) d l h e = starts_is set.program root shape k d.act l d.act h e
done_is set (Prints token k) d l h e = did_is (Print (token ∷ [])) k l d.act e (sym h)
done_is set (Ends why k) d l h e = did_is (End why) k l d.act e (sym h)
done_is set Stands d l h e = absurd (none-some _ e)

-- ---- along a course

follows_is : (set : Setting) (t : ℕ) (ds : List Deed) (first last : Lone) → is_ended first.thread ≡ false → Follows set t first ds last → ends_in ds ≡ is_ended last.thread
follows_is set t [] first last h e = sym h ∙ ap (λ (l : Lone). is_ended l.thread) e
follows_is set t (d ∷ []) first last h (mid, does, e) = done_is set (next_action set t first) d mid (action_so set t first) does ∙ ap (λ (l : Lone). is_ended l.thread) e
follows_is set t (d ∷ c ∷ ds) first last h (mid, does, rest) = elim (cases_Bool (is_ended mid.thread)) [
  | inl z ↦ absurd (none-some _ (sym (ap (λ (x : Next). done_by set x c) (still_action set t mid z)) ∙ rest.1))
  | inr z ↦ follows_is set t (c ∷ ds) mid last z rest
]

quiet_is : (set : Setting) (t : ℕ) (a l : Lone) → Quiet set t a l → is_ended a.thread ≡ is_ended l.thread
quiet_is set t a l (Stays e) = ap (λ (z : Lone). is_ended z.thread) e
quiet_is set t a l (Moves b q e) =
    let last : is_ended l.thread ≡ false = subst So e (next_so set t b) in
    elim (cases_Bool (is_ended b.thread)) [
      | inl z ↦ absurd (let d : Stands ≡ Goes l = sym (still set t b z) ∙ e in cc)
      | inr z ↦ quiet_is set t a b q ∙ (z ∙ sym last)
    ]

in_is : (heap : Objects) (next : ℕ) (kept : Option ℕ) (o : Option (List Activation)) (l : Lone) → lone_in heap next kept o ≡ Some l → is_ended l.thread ≡ false
in_is heap next kept None l e = absurd (none-some l e)
in_is heap next kept (Some frames) l e = ap (λ (z : Lone). is_ended z.thread) (sym (same_Some _ _ e))

built_is : (p : Program) (o : Option (List Object)) (l : Lone) → lone_built p o ≡ Some l → is_ended l.thread ≡ false
built_is p None l e = absurd (none-some l e)
built_is p (Some os) l e = in_is _ _ _ _ l e

begun_is : (set : Setting) (beginning : Beginning) (l : Lone) → lone_begun set beginning ≡ Some l → is_ended l.thread ≡ false
begun_is set Boot l e = in_is _ _ _ _ l e
begun_is set (Begun shape) l e = built_is set.program (built set.program OfTask 0 shape) l e

pub ended_is : (set : Setting) (t : ℕ) (c : Course) (l : Lone) → IsOf set t c l → has_ended c ≡ is_ended l.thread
ended_is set t c l of = follows_is set t c.deeds of.is.first of.last (begun_is set c.beginning of.is.first of.is.begins) of.is.follows ∙ quiet_is set t of.last l of.quiet
