-- A thread's moves without an action are those of the state.
use Rattle.std.proofs.Common.{◌≡◌, ℕ, zero, suc, ◌+◌, ℤ, Bool, true, false, cond, List, [], ◌∷◌, Option, Some, None, ◌⊎◌, inl, inr, refl, sym, ap, subst, ◌∙◌}
use Rattle.std.specs.Prelude.{◌==◌, pos, nat_le, nat_lt, slice_get, slice_set}
use Rattle.kilim_lemmas.proofs.Lists.{set_there}
use Rattle.kilim_program.specs.Program.{Program}
use Rattle.kilim_program.specs.declared.names.BoxName.{BoxName}
use Rattle.kilim_run_state.specs.declared.cause.EndCause.{EndCause}
use Rattle.kilim_run_state.specs.declared.cause.EndCause.TheVariants as cause
use Rattle.kilim_run_state.specs.declared.value.Token.{Token}
use Rattle.kilim_program.specs.declared.value.Value.{Value}
use Rattle.kilim_program.specs.declared.value.Value.TheVariants.{Int, Null, Ref, Box}
use Rattle.kilim_run_state.specs.Machine.{Activation}
use Rattle.kilim_program.specs.Members.{execute_of}
use Rattle.kilim_run_machine.specs.Moves.{Move, moves}
use Rattle.kilim_run_machine.specs.Moves as move
use Rattle.kilim_run_machine.specs.Raising.{thrown}
use Rattle.kilim_run_machine.specs.Natives.{Native, native_of}
use Rattle.kilim_run_machine.specs.Natives as native
use Rattle.kilim_run_state.specs.Shapes.{shape_of}
use Rattle.kilim_run_model.specs.State.{Setting, Thread, Alive, Ended, State, begun_on}
use Rattle.kilim_run_model.specs.Lone.{Lone, Next, Goes, arg_at, arg_next, asks_next, begins_next, box_limit, finish_next, frames_next, message_next, native_next, next_by, next_move, on_heap, over, print_next, printed, put_next, put_wait_next, bound_next, raised, start_next, thread_next, wait_next, went}
use Rattle.kilim_run_model.specs.Turn.{Moved, quiet, lone_of, with_lone, moved_by, thread_moved, moved}
use Rattle.kilim_run_model.specs.Runs.{acted_or, acted_within, unless_acted, before_action}
use Rattle.kilim_run_model.specs.Course.{Quiet, Stays, Moves}
use Rattle.kilim_run_model.proofs.Raised.{raised_has, raises_has, throws_has}
use Rattle.kilim_replay_laws.specs.Leads.{more, Leads, ThreadsLead}

some_same : {A : Type 0} (x y : A) → Some x ≡ Some y → x ≡ y
some_same x y e = cc

-- ---- what task 0 keeps stays, or is let go

abbrev KeptSame : Option ℕ → Next → Type 0
KeptSame k (Goes after) = (after.kept ≡ k) ⊎ (after.kept ≡ None)
KeptSame k x = Unit {0}

either : (k : Option ℕ) (b : Bool) (x y : Next) → KeptSame k x → KeptSame k y → KeptSame k (cond b x y)
either k true x y p q = p
either k false x y p q = q

raised_kept : (p : Program) (l : Lone) (why : EndCause) → KeptSame l.kept (raised p l why)
raised_kept p l why = raised_has (KeptSame l.kept) l why tt p (λ object f fs frames done boxes e. inl refl)

put_kept : (after : Lone) (box : BoxName) (root : ℕ) (o : Option (List Token)) (k : Option ℕ) → KeptSame k (put_next after box root o)
put_kept after box root None k = tt
put_kept after box root (Some shape) k = tt

start_kept : (after : Lone) (root : ℕ) (o : Option (List Token)) (k : Option ℕ) → KeptSame k (start_next after root o)
start_kept after root None k = tt
start_kept after root (Some shape) k = tt

message_kept : (p : Program) (after : Lone) (box : BoxName) (v : Value) → KeptSame after.kept (message_next p after box v)
message_kept p after box Null = raised_kept p after cause.Null
message_kept p after box (Ref root) = put_kept after box root (shape_of p after.heap root) after.kept
message_kept p after box v = tt

put_wait_kept : (after : Lone) (box : BoxName) (root : ℕ) (o : Option (List Token)) (k : Option ℕ) → KeptSame k (put_wait_next after box root o)
put_wait_kept after box root None k = tt
put_wait_kept after box root (Some shape) k = tt

wait_kept : (p : Program) (after : Lone) (box : BoxName) (v : Value) → KeptSame after.kept (wait_next p after box v)
wait_kept p after box Null = raised_kept p after cause.Null
wait_kept p after box (Ref root) = put_wait_kept after box root (shape_of p after.heap root) after.kept
wait_kept p after box v = tt

bound_kept : (p : Program) (after : Lone) (box : BoxName) (i : ℤ) → KeptSame after.kept (bound_next p after box i)
bound_kept p after box (pos (suc i)) = tt
bound_kept p after box i = raised_kept p after cause.Size

print_kept : (after : Lone) (o : Option Token) (k : Option ℕ) → KeptSame k (print_next after o)
print_kept after None k = tt
print_kept after (Some token) k = tt

arg_kept : (p : Program) (after : Lone) (o : Option ℤ) → KeptSame after.kept (arg_next p after o)
arg_kept p after None = raised_kept p after cause.Index
arg_kept p after (Some x) = inl refl

native_kept : (set : Setting) (after : Lone) (n : Native) (args : List Value) → KeptSame after.kept (native_next set after n args)
native_kept set after native.Execute (Ref r ∷ []) = inl refl
native_kept set after native.Start (Ref r ∷ []) = start_kept after r (shape_of set.program after.heap r) after.kept
native_kept set after native.Put (Box box ∷ message ∷ []) = message_kept set.program after box message
native_kept set after native.PutWait (Box box ∷ message ∷ []) = wait_kept set.program after box message
native_kept set after native.Bound (Box box ∷ Int i ∷ []) = bound_kept set.program after box i
native_kept set after native.Get (Box box ∷ []) = tt
native_kept set after native.Getnb (Box box ∷ []) = tt
native_kept set after native.Print (v ∷ []) = print_kept after (printed v) after.kept
native_kept set after native.Yield [] = inl refl
native_kept set after native.ArgCount [] = inl refl
native_kept set after native.Arg (Int i ∷ []) = arg_kept set.program after (arg_at set.limits.args i)
native_kept set after n args = tt

asks_kept : (set : Setting) (after : Lone) (args : List Value) (o : Option Native) → KeptSame after.kept (asks_next set after args o)
asks_kept set after args None = tt
asks_kept set after args (Some n) = native_kept set after n args

begins_kept : (l : Lone) (done boxes : ℕ) (o : Option (List Activation)) (k : Option ℕ) → KeptSame k (begins_next l done boxes o)
begins_kept l done boxes None k = tt
begins_kept l done boxes (Some []) k = tt
begins_kept l done boxes (Some (frame ∷ frames)) k = inr refl

finish_kept : (set : Setting) (l : Lone) (done boxes : ℕ) (o : Option ℕ) (k : Option ℕ) → KeptSame k (finish_next set l done boxes o)
finish_kept set l done boxes None k = tt
finish_kept set l done boxes (Some n) k = begins_kept l done boxes (begun_on set.program (execute_of set.program set.main) n) k

move_kept : (set : Setting) (t : ℕ) (l : Lone) (done boxes : ℕ) (top : Activation) (below : List Activation) (m : Move) → KeptSame l.kept (next_by set t l done boxes top below m)
move_kept set t l done boxes top below (move.Runs change frames heap) = inl refl
move_kept set t l done boxes top below (move.Makes object frames heap) = inl refl
move_kept set t l done boxes top below (move.Opens frames heap) = either l.kept (nat_lt boxes box_limit) _ _ (inl refl) tt
move_kept set t l done boxes top below (move.Asks m args frames heap) = asks_kept set (went (on_heap l heap) frames done boxes) args (native_of set.program m)
move_kept set t l done boxes top below (move.Returns heap) = finish_kept set (on_heap l heap) done boxes l.kept l.kept
move_kept set t l done boxes top below (move.Raises c) = raises_has (KeptSame l.kept) l c tt set.program done boxes top below (λ object f fs. inl refl)
move_kept set t l done boxes top below (move.Throws n class c) = throws_has (KeptSame l.kept) l c tt (done + 1) boxes (thrown set.program class (Ref n) top below) (λ f fs. inl refl)
move_kept set t l done boxes top below (move.Ends c) = tt
move_kept set t l done boxes top below move.Stuck = tt

frames_kept : (set : Setting) (t : ℕ) (l : Lone) (frames : List Activation) (done boxes : ℕ) → KeptSame l.kept (frames_next set t l frames done boxes)
frames_kept set t l [] done boxes = tt
frames_kept set t l (top ∷ below) done boxes = move_kept set t l done boxes top below (moves set.program top below l.heap)

thread_kept : (set : Setting) (t : ℕ) (l : Lone) (th : Thread) → KeptSame l.kept (thread_next set t l th)
thread_kept set t l (Ended c) = tt
thread_kept set t l (Alive frames done boxes) = either l.kept (nat_le set.limits.steps done) (over l cause.Spent) _ tt (frames_kept set t l frames done boxes)

next_kept : (set : Setting) (t : ℕ) (l after : Lone) → next_move set t l ≡ Goes after → (after.kept ≡ l.kept) ⊎ (after.kept ≡ None)
unfolding next_move
next_kept set t l after e = subst (KeptSame l.kept) e (thread_kept set t l l.thread)

-- ---- lists that are set

set_twice : {A : Type 0} (xs : List A) (i : ℕ) (x y : A) → slice_set (slice_set xs i x) i y ≡ slice_set xs i y
set_twice [] i x y = refl
set_twice (z ∷ zs) zero x y = refl
set_twice (z ∷ zs) (suc i) x y = ap (λ ys. z ∷ ys) (set_twice zs i x y)

set_same : {A : Type 0} (xs : List A) (i : ℕ) (x : A) → slice_get xs i ≡ Some x → slice_set xs i x ≡ xs
set_same [] i x e = absurd (cc)
set_same (z ∷ zs) zero x e = ap (λ y. y ∷ zs) (sym (some_same z x e))
set_same (z ∷ zs) (suc i) x e = ap (λ ys. z ∷ ys) (set_same zs i x e)

-- ---- one thread of a state

-- only task 0 keeps an object
abbrev pub IsOwn : ℕ → Lone → Type 0
IsOwn t l = (t == 0) ≡ false → l.kept ≡ None

module _ (set : Setting) (s : State) (t : ℕ) where
  own_first : (th : Thread) → IsOwn t (lone_of s t th)
  own_first th e = ap (λ (z : Bool). cond z s.kept None) e

  own_next : (l after : Lone) → IsOwn t l → next_move set t l ≡ Goes after → IsOwn t after
  own_next l after own e z = elim (next_kept set t l after e) [ inl k ↦ k ∙ own z | inr k ↦ k ]

  kept_is : (z : Bool) (k : Option ℕ) → ((z ≡ false) → k ≡ None) → cond z (cond z k s.kept) None ≡ k
  kept_is true k f = refl
  kept_is false k f = sym (f refl)

  pub stands : (l : Lone) → IsOwn t l → lone_of (with_lone s t l) t l.thread ≡ l
  stands l own = ap (λ (k : Option ℕ). record { heap = l.heap; next = l.next; thread = l.thread; kept = k }) (kept_is (t == 0) l.kept own)

  kept_back : (z : Bool) → cond z (cond z s.kept None) s.kept ≡ s.kept
  kept_back true = refl
  kept_back false = refl

  pub same_state : (th : Thread) → slice_get s.threads t ≡ Some th → with_lone s t (lone_of s t th) ≡ s
  same_state th at =
      ap (λ (ths : List Thread). record s { threads = ths; kept = cond (t == 0) (cond (t == 0) s.kept None) s.kept }) (set_same s.threads t th at) ∙ ap (λ (k : Option ℕ). record s { kept = k }) (kept_back (t == 0))

  kept_twice : (z : Bool) (a b : Option ℕ) → cond z b (cond z a s.kept) ≡ cond z b s.kept
  kept_twice true a b = refl
  kept_twice false a b = refl

  pub state_twice : (l after : Lone) → with_lone (with_lone s t l) t after ≡ with_lone s t after
  state_twice l after =
      ap (λ (ths : List Thread). record s { heap = after.heap; next = after.next; threads = ths; kept = cond (t == 0) after.kept (cond (t == 0) l.kept s.kept) }) (set_twice s.threads t l.thread after.thread)
      ∙ ap (λ (k : Option ℕ). record s { heap = after.heap; next = after.next; threads = slice_set s.threads t after.thread; kept = k }) (kept_twice (t == 0) l.kept after.kept)

  module _ (th : Thread) (at : slice_get s.threads t ≡ Some th) where
    next_is : (l : Lone) → IsOwn t l → moved set (with_lone s t l) t ≡ moved_by set (with_lone s t l) t (next_move set t l)
    unfolding moved
    next_is l own =
        ap (thread_moved set (with_lone s t l) t) (set_there s.threads t th l.thread at) ∙ ap (λ (x : Lone). moved_by set (with_lone s t l) t (next_move set t x)) (stands l own)

    pub quiet_is : (l after : Lone) → IsOwn t l → next_move set t l ≡ Goes after → moved set (with_lone s t l) t ≡ quiet (with_lone s t after)
    quiet_is l after own e = next_is l own ∙ (ap (moved_by set (with_lone s t l) t) e ∙ ap quiet (state_twice l after))

    acts_one : (n : ℕ) (l after : Lone) → IsOwn t l → next_move set t l ≡ Goes after → acted_within set (suc n) (with_lone s t l) t ≡ acted_within set n (with_lone s t after) t
    unfolding acted_within
    acts_one n l after own e = ap (λ (m : Moved). acted_or m.state t m.act (acted_within set n m.state t)) (quiet_is l after own e)

    before_one : (n : ℕ) (l after : Lone) → IsOwn t l → next_move set t l ≡ Goes after → before_action set (suc n) (with_lone s t l) t ≡ before_action set n (with_lone s t after) t
    unfolding before_action
    before_one n l after own e = ap (λ (m : Moved). unless_acted (with_lone s t l) m.act (before_action set n m.state t)) (quiet_is l after own e)

    more_suc : (m n : ℕ) → more (suc m) n ≡ more m (suc n)
    more_suc zero n = refl
    more_suc (suc m) n = ap suc (more_suc m n)

    pub record Led (l : Lone) : Type 0 where
      pub own : IsOwn t l
      pub leads : Leads set s t l

    leads_at : (l : Lone) → IsOwn t l → (m : ℕ) → ((n : ℕ) → acted_within set (more m n) s t ≡ acted_within set n (with_lone s t l) t) → ((n : ℕ) → before_action set (more m n) s t ≡ before_action set n (with_lone s t l) t) → Led l
    leads_at l own m acts before = record { own = own; leads = record { moves = m; acts = acts; before = before; next = next_is l own; stands = stands l own } }

    pub led : (l : Lone) → Quiet set t (lone_of s t th) l → Led l
    led l (Stays same) = subst Led same (leads_at (lone_of s t th) (own_first th) 0 (λ n. ap (λ (x : State). acted_within set n x t) (sym (same_state th at))) (λ n. ap (λ (x : State). before_action set n x t) (sym (same_state th at))))
    led l (Moves b quiet e) =
        let d = led b quiet in
        let m = d.leads.moves in
        leads_at l (own_next b l d.own e) (suc m)
        (λ n. ap (λ (k : ℕ). acted_within set k s t) (more_suc m n) ∙ (d.leads.acts (suc n) ∙ acts_one n b l d.own e))
        (λ n. ap (λ (k : ℕ). before_action set k s t) (more_suc m n) ∙ (d.leads.before (suc n) ∙ before_one n b l d.own e))

pub threads_lead : ThreadsLead
threads_lead set s t th l at quiet = (led set s t th at l quiet).leads
