-- What a thread does next leaves each name that there was in the heap.
use Rattle.std.proofs.Common.{◌≡◌, ℕ, suc, ◌+◌, ◌<◌, ◌≤◌, ℤ, Bool, true, false, cond, List, [], ◌∷◌, Option, Some, None, ◌⊎◌, inl, inr, sym, subst, ◌∙◌, arith}
use Rattle.std.specs.Prelude.{pos, negsuc, nat_le, nat_lt}
use Rattle.std.specs.FinMap.{get, insert}
use Rattle.std.proofs.lemmas.Bool.Decides.{eqb_tells}
use Rattle.kilim_lemmas.proofs.Maps.{put_there, put_other}
use Rattle.kilim_program.specs.declared.names.BoxName.{BoxName}
use Rattle.kilim_run_state.specs.declared.value.Object.{Object}
use Rattle.kilim_run_state.specs.declared.value.Token.{Token}
use Rattle.kilim_program.specs.declared.value.Value.{Value}
use Rattle.kilim_program.specs.declared.value.Value.TheVariants.{Int, Null, Ref, Box}
use Rattle.kilim_run_state.specs.Machine.{Objects, Activation}
use Rattle.kilim_program.specs.Members.{execute_of}
use Rattle.kilim_run_machine.specs.Moves.{Move, moves, push_value}
use Rattle.kilim_run_machine.specs.Moves as move
use Rattle.kilim_run_machine.specs.Natives.{Native, native_of}
use Rattle.kilim_run_machine.specs.Natives as native
use Rattle.kilim_run_state.specs.Shapes.{shape_of}
use Rattle.kilim_run_model.specs.State.{Setting, Thread, Alive, Ended, begun_on}
use Rattle.kilim_run_model.specs.Lone.{Lone, Next, Goes, Puts, PutWaits, Bounds, Gets, Probes, Starts, Prints, Ends, Stands, arg_at, arg_next, asks_next, begins_next, box_limit, finish_next, frames_next, message_next, native_next, next_by, next_move, on_heap, print_next, printed, put_next, put_wait_next, bound_next, raised, start_next, thread_next, wait_next, went}
use Rattle.kilim_run_model.proofs.Raised.{raised_has, raises_has, throws_has}
use Rattle.kilim_run_machine.specs.Raising.{thrown}
use Rattle.kilim_run_state.specs.declared.cause.EndCause.{EndCause}
use Rattle.kilim_run_state.specs.declared.cause.EndCause.TheVariants as cause
use Rattle.kilim_replay_laws.specs.shared.Shared.{AllIn, MoveKeeps, IsFull}
use Rattle.kilim_replay_laws.proofs.shared.Stay.{moves_stay}

abbrev pub FullL : Lone → Type 0
FullL l = IsFull l.heap l.next

abbrev pub NextFull : Next → Type 0
NextFull (Goes after) = FullL after
NextFull (Puts box root shape after) = FullL after
NextFull (PutWaits box root shape after) = FullL after
NextFull (Bounds box most after) = FullL after
NextFull (Gets box after) = FullL after
NextFull (Probes box after) = FullL after
NextFull (Starts root shape after) = FullL after
NextFull (Prints token after) = FullL after
NextFull (Ends cause after) = FullL after
NextFull Stands = Unit {0}

module _ (l : Lone) (f : FullL l) where
  kept_full : (h : Objects) → AllIn l.heap h → IsFull h l.next
  kept_full h stay n lt = let o = f n lt in stay n o.0 o.1

  made_full : (h : Objects) (object : Object) → AllIn l.heap h → IsFull (insert h l.next object) (l.next + 1)
  made_full h object stay n lt = elim (eqb_tells n l.next) [
    | inl z ↦ (object, subst (λ (j : ℕ). get (insert h l.next object) j ≡ Some object) (sym z.1) (put_there h l.next object))
    | inr z ↦ let o = kept_full h stay n (below n l.next lt z.1) in (o.0, put_other h l.next object n z.1 ∙ o.1)
  ]
    where
      below : (a b : ℕ) → a < b + 1 → (a ≡ b → ⊥) → a < b
      below a b lt other = elim (nat_tells a b) [ inl e ↦ e | inr e ↦ absurd (other (omega (arith, lt, e))) ]
        where
          nat_tells : (a b : ℕ) → (a < b) ⊎ (b ≤ a)
          nat_tells ℕ.zero ℕ.zero = inr (omega arith)
          nat_tells ℕ.zero (suc b) = inl (omega arith)
          nat_tells (suc a) ℕ.zero = inr (omega arith)
          nat_tells (suc a) (suc b) = elim (nat_tells a b) [ inl e ↦ inl (omega (arith, e)) | inr e ↦ inr (omega (arith, e)) ]

module _ (set : Setting) where
  raised_full : (after : Lone) (why : EndCause) → FullL after → NextFull (raised set.program after why)
  raised_full after why f = raised_has NextFull after why f set.program (λ object g gs frames done boxes e. made_full after f after.heap object (λ n o there. (o, there)))

  put_full : (after : Lone) (box : BoxName) (root : ℕ) (o : Option (List Token)) → FullL after → NextFull (put_next after box root o)
  put_full after box root None f = f
  put_full after box root (Some shape) f = f

  message_full : (after : Lone) (box : BoxName) (v : Value) → FullL after → NextFull (message_next set.program after box v)
  message_full after box Null f = raised_full after cause.Null f
  message_full after box (Ref root) f = put_full after box root (shape_of set.program after.heap root) f
  message_full after box _ f = tt

  put_wait_full : (after : Lone) (box : BoxName) (root : ℕ) (o : Option (List Token)) → FullL after → NextFull (put_wait_next after box root o)
  put_wait_full after box root None f = f
  put_wait_full after box root (Some shape) f = f

  wait_full : (after : Lone) (box : BoxName) (v : Value) → FullL after → NextFull (wait_next set.program after box v)
  wait_full after box Null f = raised_full after cause.Null f
  wait_full after box (Ref root) f = put_wait_full after box root (shape_of set.program after.heap root) f
  wait_full after box _ f = tt

  bound_full : (after : Lone) (box : BoxName) (i : ℤ) → FullL after → NextFull (bound_next set.program after box i)
  bound_full after box (pos (suc i)) f = f
  bound_full after box (pos ℕ.zero) f = raised_full after cause.Size f
  bound_full after box (negsuc i) f = raised_full after cause.Size f

  start_full : (after : Lone) (root : ℕ) (o : Option (List Token)) → FullL after → NextFull (start_next after root o)
  start_full after root None f = f
  start_full after root (Some shape) f = f

  print_full : (after : Lone) (o : Option Token) → FullL after → NextFull (print_next after o)
  print_full after None f = tt
  print_full after (Some token) f = f

  arg_full : (after : Lone) (o : Option ℤ) → FullL after → NextFull (arg_next set.program after o)
  arg_full after None f = raised_full after cause.Index f
  arg_full after (Some x) f = f

  native_full : (after : Lone) (k : Native) (own : List Value) → FullL after → NextFull (native_next set after k own)
  native_full after native.Execute (Ref q ∷ []) f = f
  native_full after native.Start (Ref q ∷ []) f = start_full after q (shape_of set.program after.heap q) f
  native_full after native.Put (Box box ∷ v ∷ []) f = message_full after box v f
  native_full after native.PutWait (Box box ∷ v ∷ []) f = wait_full after box v f
  native_full after native.Bound (Box box ∷ Int i ∷ []) f = bound_full after box i f
  native_full after native.Get (Box box ∷ []) f = f
  native_full after native.Getnb (Box box ∷ []) f = f
  native_full after native.Print (v ∷ []) f = print_full after (printed v) f
  native_full after native.Yield [] f = f
  native_full after native.ArgCount [] f = f
  native_full after native.Arg (Int i ∷ []) f = arg_full after (arg_at set.limits.args i) f
  native_full after _ _ f = tt

  asks_full : (after : Lone) (args : List Value) (o : Option Native) → FullL after → NextFull (asks_next set after args o)
  asks_full after args None f = tt
  asks_full after args (Some k) f = native_full after k args f

  either_full : (z : Bool) (x y : Next) → NextFull x → NextFull y → NextFull (cond z x y)
  either_full true x y p q = p
  either_full false x y p q = q

  begins_full : (l : Lone) (done boxes : ℕ) (o : Option (List Activation)) → FullL l → NextFull (begins_next l done boxes o)
  begins_full l done boxes None f = tt
  begins_full l done boxes (Some []) f = f
  begins_full l done boxes (Some (frame ∷ frames)) f = f

  finish_full : (l : Lone) (done boxes : ℕ) (o : Option ℕ) → FullL l → NextFull (finish_next set l done boxes o)
  finish_full l done boxes None f = f
  finish_full l done boxes (Some q) f = begins_full l done boxes (begun_on set.program (execute_of set.program set.main) q) f

  module _ (t : ℕ) (l : Lone) (done boxes : ℕ) (f : FullL l) where
    move_full : (top : Activation) (below : List Activation) (m : Move) → MoveKeeps l.heap m → NextFull (next_by set t l done boxes top below m)
    move_full top below (move.Runs change frames h) s = kept_full l f h s
    move_full top below (move.Makes object frames h) s = made_full l f h object s
    move_full top below (move.Opens frames h) s = either_full (nat_lt boxes box_limit) _ _ (kept_full l f h s) (kept_full l f h s)
    move_full top below (move.Asks id args frames h) s = asks_full (went (on_heap l h) frames done boxes) args (native_of set.program id) (kept_full l f h s)
    move_full top below (move.Returns h) s = finish_full (on_heap l h) done boxes l.kept (kept_full l f h s)
    move_full top below (move.Raises c) s = raises_has NextFull l c f set.program done boxes top below (λ object g gs. made_full l f l.heap object (λ n o there. (o, there)))
    move_full top below (move.Throws n class c) s = throws_has NextFull l c f (done + 1) boxes (thrown set.program class (Ref n) top below) (λ g gs. f)
    move_full top below (move.Ends c) s = f
    move_full top below move.Stuck s = tt

    frames_full : (frames : List Activation) → NextFull (frames_next set t l frames done boxes)
    frames_full [] = f
    frames_full (top ∷ below) = move_full top below (moves set.program top below l.heap) (moves_stay l.heap set.program top below)

  pub next_full : (t : ℕ) (l : Lone) → FullL l → NextFull (next_move set t l)
  unfolding next_move
  next_full t l f = by l.thread
    where
      by : (th : Thread) → NextFull (thread_next set t l th)
      by (Ended c) = tt
      by (Alive frames done boxes) = either_full (nat_le set.limits.steps done) _ _ f (frames_full t l done boxes f frames)
