-- What is known of a standing to which a fiber comes along a course, and the fiber that is like it.
use Rattle.std.proofs.Common.{◌≡◌, ℕ, Bool, true, false, cond, List, [], ◌∷◌, length, Option, Some, None, sym, subst}
use Rattle.std.specs.Prelude.{nat_lt}
use Rattle.kilim_program.specs.declared.class.Method.{Method}
use Rattle.kilim_program.specs.declared.instr.Instr.{Instr}
use Rattle.kilim_program.specs.declared.names.MethodId.{MethodId}
use Rattle.kilim_program.specs.declared.value.Value.{Value}
use Rattle.kilim_program.specs.declared.value.Value.TheVariants.{Int, Long, Null, Ref, Text, Box, Fiber}
use Rattle.kilim_program.specs.Lengths.{fetched}
use Rattle.kilim_program.specs.Names.{method_at}
use Rattle.kilim_program.specs.Program.{Program}
use Rattle.kilim_type_sound.specs.Fits.{AreThere}
use Rattle.kilim_run_journal.specs.declared.entry.Act.{Act}
use Rattle.kilim_run_model.specs.kin.Kin.{AreHeld, IsThere}
use Rattle.kilim_run_state.specs.declared.cause.EndCause.TheVariants as cause
use Rattle.kilim_run_machine.specs.Effect.{Effect}
use Rattle.kilim_run_machine.specs.Effect as effect
use Rattle.kilim_run_state.specs.Machine.{Objects, Activation}
use Rattle.kilim_run_machine.specs.Moves.{Enters, Move, effect_found, effect_in, effect_of, entered, frame_limit, goes_on, move_by, moves, receiver_of, returned}
use Rattle.kilim_run_machine.specs.Moves as move
use Rattle.kilim_run_machine.specs.Natives.{native_of}
use Rattle.kilim_run_state.specs.Trees.{Root}
use Rattle.kilim_run_model.specs.Course.{Course}
use Rattle.kilim_run_model.specs.declared.deed.Deed.{Deed}
use Rattle.kilim_run_model.specs.Kept.{given}
use Rattle.kilim_run_model.specs.State.{Setting}
use Rattle.kilim_fiber_laws.specs.Fibers.{IsReached}
use Rattle.kilim_fiber_laws.specs.Served.{CanServe}
use Rattle.kilim_fiber_laws.proofs.woven_kin.history.Onward.{history_goes_on}
use Rattle.kilim_fiber_laws.specs.woven_kin.history.History.{Follows, state_in, state_of, world_of}
use Rattle.kilim_fiber_laws.proofs.woven_kin.Following.{next_kin}
use Rattle.kilim_fiber_laws.specs.woven_kin.Alike.{HasFree, IsWhole, Like, NextLike}
use Rattle.kilim_fiber_laws.specs.woven_kin.Alike as kin
use Rattle.kilim_fiber_laws.specs.woven_kin.Nexts.{next_of}
use Rattle.kilim_fiber_laws.specs.woven_kin.Standing.{Standing}
use Rattle.kilim_fiber_laws.proofs.receivers.Heaps.{KeepsHeap, keeps_heap}
use Rattle.kilim_fiber_spec.specs.Fibers.{Woven_state, wsteps}
use Rattle.kilim_fiber_spec.specs.Rooms.{GivesWhole, IsFineState, IsWholeAt}
use Rattle.kilim_fiber_laws.specs.woven_served.Served.{ServesCourse, first_fiber}
use Rattle.kilim_fiber_laws.proofs.receivers.states.Along.{append_none}
use Rattle.kilim_fiber_laws.specs.receivers.states.Law.{acts_of, first_thread, world_at}

-- ---- what stands on a stack

pub held_there : (h : Objects) (vs : List Value) → AreThere h vs → AreHeld (IsThere h) vs
held_there h [] e = tt
held_there h (Ref n ∷ vs) e = (e.0, held_there h vs e.1)
held_there h (Int n ∷ vs) e = (tt, held_there h vs e.1)
held_there h (Long n ∷ vs) e = (tt, held_there h vs e.1)
held_there h (Null ∷ vs) e = (tt, held_there h vs e.1)
held_there h (Text s ∷ vs) e = (tt, held_there h vs e.1)
held_there h (Box b ∷ vs) e = (tt, held_there h vs e.1)
held_there h (Fiber ∷ vs) e = (tt, held_there h vs e.1)

-- ---- what is given away

-- what the next move gives away is a whole tree, with all that is at or below its root
abbrev pub GivesObjects : Program → Program → Move → Type 0
GivesObjects P W (move.Asks id args frames heap) = (root : Root) (n : ℕ) → given (native_of W id) args ≡ Some (root, n) → IsWholeAt P root heap n
GivesObjects P W other = Unit {0}

module _ (P W : Program) (top : Activation) (below : List Activation) (h : Objects) where
  called_gives : (m : MethodId) (args : List Value) (frames : List Activation) (k : Objects) → GivesObjects P W (move.called W m args frames k)
  called_gives m args frames k = by (nat_lt (length frames) frame_limit)
    where
      by : (z : Bool) → GivesObjects P W (cond z (move.Runs (Enters (receiver_of W m args)) (entered W m args ∷ frames) k) (move.Ends cause.Depth))
      by true = tt
      by false = tt

  returned_gives : (v : Option Value) (frames : List Activation) (k : Objects) → GivesObjects P W (returned v frames k)
  returned_gives v [] k = tt
  returned_gives v (caller ∷ frames) k = tt

  by_gives : (e : Effect) → GivesWhole P W h e → KeepsHeap h e → GivesObjects P W (move_by W e top below)
  by_gives (effect.Asks m args q l s k) gives same = λ root n e. subst (λ (z : Objects). IsWholeAt P root z n) (sym same) (gives root n e)
  by_gives (effect.Goes q l s k) gives same = tt
  by_gives (effect.Makes o q l s k) gives same = tt
  by_gives (effect.Opens q l s k) gives same = tt
  by_gives (effect.Calls m args q l s k) gives same = called_gives m args (goes_on top q l s ∷ below) k
  by_gives (effect.Returns v k) gives same = returned_gives v below k
  by_gives (effect.Raises why) gives same = tt
  by_gives (effect.Throws object class why) gives same = tt
  by_gives (effect.Ends why) gives same = tt
  by_gives effect.Stuck gives same = tt

  -- what it gives away is in the heap as it is
  found_keeps : (own : Method) (o : Option (Instr × ℕ)) → KeepsHeap h (effect_found W own top h o)
  found_keeps own None = tt
  found_keeps own (Some at) = keeps_heap W own top.locals at.1 top.stack h at.0

  method_keeps : (o : Option Method) → KeepsHeap h (effect_in W top h o)
  method_keeps None = tt
  method_keeps (Some own) = found_keeps own (fetched own.code own.code_length top.place)

  pub moves_give : GivesWhole P W h (effect_of W top h) → GivesObjects P W (moves W top below h)
  unfolding moves
  moves_give gives = by_gives (effect_of W top h) gives (method_keeps (method_at W top.method))

gives_whole : (P W : Program) (m : Move) → GivesObjects P W m → kin.GivesWhole P W m
gives_whole P W (move.Asks id args frames heap) g = λ root n e. (g root n e).tree
gives_whole P W (move.Runs change frames heap) g = tt
gives_whole P W (move.Makes o frames heap) g = tt
gives_whole P W (move.Opens frames heap) g = tt
gives_whole P W (move.Returns heap) g = tt
gives_whole P W (move.Raises why) g = tt
gives_whole P W (move.Throws object class why) g = tt
gives_whole P W (move.Ends why) g = tt
gives_whole P W move.Stuck g = tt

module _ (set : Setting) (W : Program) (marks : List (List Bool)) (served : CanServe set W marks) (t : ℕ) (c : Course) (x : Standing) (r : IsReached set W marks t c x) where
  abbrev pub first : List Deed → List ℕ → Woven_state
  first deeds pauses = first_fiber set W marks c.beginning (world_at t r.begun deeds []) pauses

  abbrev pub acts : List Act
  acts = acts_of c.deeds []

  pub along : (pauses : List ℕ) → ServesCourse set W marks served.runs.tasks.form t c (first_thread set c.beginning (world_at t r.begun c.deeds [])) (first c.deeds pauses)
  along pauses = served.runs.courses t c r.begun pauses r.begins

  -- with no deed to come
  abbrev Here : List Deed → Type 0
  Here deeds = (ps : List ℕ) × (j : ℕ) × (wsteps set W marks j (first deeds ps) ≡ state_of t x [] acts (0 ∷ []))

  here : Here c.deeds
  here = subst Here (append_none c.deeds) (r.comes [] 0 [])

  abbrev pub state : Woven_state
  state = state_of t x [] acts (0 ∷ [])

  pub is_fine : IsFineState set.program W state
  is_fine = subst (IsFineState set.program W) here.2 ((along here.0).fine here.1)

  pub next_comes : Follows set W marks t first c.deeds acts (next_of set W marks t x)
  next_comes = history_goes_on set W marks t first c.deeds acts x r.comes

  -- what stands on its stack is in its heap, and what it gives away is whole
  whole_at : (fs : List Activation) → IsFineState set.program W (state_in fs x.fiber (world_of t x [] acts) (0 ∷ [])) → kin.IsWholeAt set W marks x fs
  whole_at [] fine = tt
  whole_at (top ∷ below) fine = λ left. (held_there x.heap top.stack fine.there, gives_whole set.program W (moves W top below x.heap) (moves_give set.program W top below x.heap fine.gives))

  pub is_whole : IsWhole set W marks x
  is_whole = whole_at x.frames is_fine

  -- the fiber that is like it does the same next
  pub next_like : (f : Standing) → Like x f → HasFree set W marks t f → NextLike set.program (next_of set W marks t x) (next_of set W marks t f)
  next_like f like free = next_kin set W marks t x f like is_whole free
