-- One move of a thread, taken apart.
use Rattle.std.proofs.Common.{◌≡◌, ℕ, zero, suc, ◌<◌, Bool, cond, List, [], ◌∷◌, Option, Some, None, refl, sym, ap, subst, ◌∙◌}
use Rattle.std.specs.Prelude.{slice_get}
use Rattle.std.proofs.lemmas.Bool.{lt-leb}
use Rattle.kilim_run_state.specs.declared.cause.EndCause.{EndCause}
use Rattle.kilim_run_state.specs.declared.cause.EndCause.TheVariants as cause
use Rattle.kilim_program.specs.declared.class.Method.{Method}
use Rattle.kilim_program.specs.declared.class.Program.{Program}
use Rattle.kilim_program.specs.declared.instr.Instr.{Instr}
use Rattle.kilim_run_journal.specs.declared.entry.Act.{Act}
use Rattle.kilim_run_journal.specs.declared.entry.Entry.{Entry}
use Rattle.kilim_run_state.specs.Machine.{Objects, Activation}
use Rattle.kilim_program.specs.Names.{method_at}
use Rattle.kilim_run_machine.specs.Effect.{Effect}
use Rattle.kilim_run_machine.specs.Does.{does}
use Rattle.kilim_program.specs.Lengths.{fetched}
use Rattle.kilim_run_machine.specs.Moves.{effect_found, effect_in, effect_of, move_by, moves}
use Rattle.kilim_run_model.specs.State.{Setting, Alive, Ended, State, noted}
use Rattle.kilim_run_model.specs.Lone.{Lone, over, next_by, frames_next, thread_next, next_move}
use Rattle.kilim_run_model.specs.Turn.{quiet, acted, lone_of, moved_by, thread_moved, moved}
use Rattle.kilim_run_model.specs.Runs.{acted_or, acted_within, before_action, Replays}

-- the effect is that of the instruction that stands at the frame's place
effect_at : (p : Program) (top : Activation) (heap : Objects) (method : Method) (found : Instr × ℕ) → method_at p top.method ≡ Some method → fetched method.code method.code_length top.place ≡ Some found →
    effect_of p top heap ≡ does p method found.0 found.1 top.locals top.stack heap
effect_at p top heap method found is-method is-found = ap (effect_in p top heap) is-method ∙ ap (effect_found p method top heap) is-found

moves_at : (p : Program) (top : Activation) (below : List Activation) (heap : Objects) (e : Effect) → effect_of p top heap ≡ e → moves p top below heap ≡ move_by p e top below
unfolding moves
moves_at p top below heap e is = ap (λ (x : Effect). move_by p x top below) is

-- a thread that has instructions left does that of its top frame
next_at : (set : Setting) (t : ℕ) (l : Lone) (top : Activation) (below : List Activation) (done boxes : ℕ) (method : Method) (found : Instr × ℕ) →
    l.thread ≡ Alive (top ∷ below) done boxes → done < set.limits.steps →
    method_at set.program top.method ≡ Some method → fetched method.code method.code_length top.place ≡ Some found →
    next_move set t l ≡ next_by set t l done boxes top below (move_by set.program (does set.program method found.0 found.1 top.locals top.stack l.heap) top below)
unfolding next_move
next_at set t l top below done boxes method found is-alive left is-method is-found =
    ap (thread_next set t l) is-alive
    ∙ (ap (λ (b : Bool). cond b (over l cause.Spent) (frames_next set t l (top ∷ below) done boxes)) (lt-leb set.limits.steps done left)
    ∙ ap (next_by set t l done boxes top below) (moves_at set.program top below l.heap (does set.program method found.0 found.1 top.locals top.stack l.heap) (effect_at set.program top l.heap method found is-method is-found)))

pub step : (set : Setting) (s : State) (t : ℕ) (top : Activation) (below : List Activation) (done boxes : ℕ) (method : Method) (found : Instr × ℕ) →
    slice_get s.threads t ≡ Some (Alive (top ∷ below) done boxes) → done < set.limits.steps →
    method_at set.program top.method ≡ Some method → fetched method.code method.code_length top.place ≡ Some found →
    moved set s t ≡ moved_by set s t (next_by set t (lone_of s t (Alive (top ∷ below) done boxes)) done boxes top below (move_by set.program (does set.program method found.0 found.1 top.locals top.stack s.heap) top below))
unfolding moved
step set s t top below done boxes method found is-alive left is-method is-found =
    ap (thread_moved set s t) is-alive
    ∙ ap (moved_by set s t) (next_at set t (lone_of s t (Alive (top ∷ below) done boxes)) top below done boxes method found refl left is-method is-found)

-- a move without an action, on the way to the next action
pub quietly : (set : Setting) (n : ℕ) (s s' : State) (t : ℕ) → moved set s t ≡ quiet s' → acted_within set (suc n) s t ≡ acted_within set n s' t
unfolding acted_within
quietly set n s s' t e = rw e refl

-- the next action
pub at_once : (set : Setting) (n : ℕ) (s s' : State) (t : ℕ) (act : Act) → moved set s t ≡ acted s' act → acted_within set (suc n) s t ≡ Some (act, noted s' t act)
unfolding acted_within
at_once set n s s' t act e = rw e refl

-- a thread that has ended doesn't move any more
ended_stays : (set : Setting) (s : State) (t : ℕ) (cause : EndCause) → slice_get s.threads t ≡ Some (Ended cause) → moved set s t ≡ quiet s
unfolding moved next_move
ended_stays set s t cause e = ap (thread_moved set s t) e

pub ended_settles : (set : Setting) (n : ℕ) (s : State) (t : ℕ) (cause : EndCause) → slice_get s.threads t ≡ Some (Ended cause) → before_action set n s t ≡ s
unfolding before_action
ended_settles set zero s t cause e = refl
ended_settles set (suc n) s t cause e = rw (ended_stays set s t cause e) (ended_settles set n s t cause e)

-- the first action is the same, however many moves are granted
pub same_action : (set : Setting) (m n : ℕ) (s : State) (a b : Act × State) (t : ℕ) → acted_within set m s t ≡ Some a → acted_within set n s t ≡ Some b → a ≡ b
unfolding acted_within
same_action set zero n s a b t p q = absurd (cc)
same_action set (suc m) zero s a b t p q = absurd (cc)
same_action set (suc m) (suc n) s a b t p q =
    elim (moved set s t).act as (λ (act : Option Act).
    acted_or (moved set s t).state t act (acted_within set m (moved set s t).state t) ≡ Some a →
    acted_or (moved set s t).state t act (acted_within set n (moved set s t).state t) ≡ Some b → a ≡ b) [
      | None ↦ λ x y. same_action set m n (moved set s t).state a b t x y
      | Some act ↦ λ x y. cc
    ] p q

-- no journal leads to two states
pub one_replay : (set : Setting) (s : State) (es : List Entry) (a b : State) → Replays set s es a → Replays set s es b → a ≡ b
one_replay set s [] a b p q = sym p ∙ q
one_replay set s (e ∷ es) a b (m, mid, acts, rest) (n, mid', acts', rest') =
    one_replay set mid es a b rest (subst (λ (x : State). Replays set x es b) (ap (λ (x : Act × State). x.1) (same_action set n m s (e.act, mid') (e.act, mid) e.task acts' acts)) rest')
