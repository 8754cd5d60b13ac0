-- Of each pausable frame: its receiver is kept below it, by the frames from the top down to it; or it is no tree.
use Rattle.std.proofs.Common.{◌≡◌, ◌⊎◌, inl, inr, ℕ, ◌≤◌, true, false, List, [], ◌∷◌, length, Option, Some, None, refl, ap, subst, arith}
use Rattle.std.specs.FinMap.{get}
use Rattle.kilim_program.specs.declared.instr.Instr.{Instr}
use Rattle.kilim_program.specs.declared.class.Method.{Method}
use Rattle.kilim_program.specs.declared.names.MethodId.{MethodId}
use Rattle.kilim_program.specs.declared.value.Value.{Value}
use Rattle.kilim_program.specs.declared.value.Value.TheVariants.{Ref}
use Rattle.kilim_program.specs.Names.{method_at}
use Rattle.kilim_program.specs.Program.{Program}
use Rattle.kilim_run_state.specs.declared.value.Object.{Object}
use Rattle.kilim_run_machine.specs.Does.{does}
use Rattle.kilim_run_machine.specs.Effect.{Effect}
use Rattle.kilim_run_state.specs.Machine.{Activation, Objects}
use Rattle.kilim_run_machine.specs.Moves.{effect_found, effect_in, move_by, moves}
use Rattle.kilim_isolation_laws.specs.typed_threads.fine.Typed.{IsVerified}
use Rattle.kilim_type_sound.specs.Sound as typed
use Rattle.kilim_type_sound.proofs.Grounds.{facts_hold}
use Rattle.kilim_type_sound.proofs.Theorem.{moves_fit}
use Rattle.kilim_type_sound.specs.Fits.{Classes, Fits}
use Rattle.kilim_isolation_laws.specs.graph_rows.Holds.{is_tree_object, trees, waiting_named}
use Rattle.kilim_isolation_laws.specs.forest.Laws.{IsPlace}
use Rattle.kilim_isolation_laws.specs.forest.Relation.{Frames}
use Rattle.kilim_isolation_laws.specs.graph_rows.Holds.{Waiting}
use Rattle.std.specs.Prelude.{map}
use Rattle.kilim_program.specs.declared.ty.Ty.{Ty}
use Rattle.kilim_isolation_laws.specs.Laws.{IsRunOfAccepted, listed_at}
use Rattle.kilim_isolation_laws.proofs.Keeping.{is_verified, sound, stack_there}
use Rattle.kilim_isolation_laws.proofs.Grounds.{is_verified as step_verified, whole_at}
use Rattle.kilim_isolation_laws.specs.reached_objects.graphs.Threads.{AllWaitFor, FramesFit, IsSound, TopIsVerified, keepers}
use Rattle.kilim_isolation_laws.specs.reached_objects.graphs.Threads as graphs
use Rattle.kilim_isolation_laws.proofs.reached_objects.graphs.Thread.{moves_keep}
use Rattle.kilim_run_model.specs.State.{Setting}
use Rattle.kilim_type_laws.specs.Laws.{typing_at}
use Rattle.kilim_fiber_spec.specs.lone.Law.{lone_at, lone_frames}
use Rattle.kilim_fiber_laws.proofs.receivers.Chain.{IsWell, as_well, wants_all}
use Rattle.kilim_fiber_spec.specs.Acts.{World}
use Rattle.kilim_fiber_spec.specs.Fibers.{frame}
use Rattle.kilim_fiber_spec.specs.Form.{is_pausable}
use Rattle.kilim_fiber_spec.specs.Thread.{At, Frame, Run, Stop, Thread, code_in, fetch, own_in, own_of}

module _ (set : Setting) (run : IsRunOfAccepted set) where
  abbrev pub P : Program
  P = set.program

  pub rules_hold : IsSound set.program (typing_at set.program) (listed_at set.program)
  rules_hold = sound set run.keeps run.form run.well run.accepted run.main run.begins

  pub verified : IsVerified set (typing_at set.program) wants_all
  verified = is_verified set run.keeps run.form run.well run.accepted run.main run.begins

  -- ---- what is kept

  -- an object that is no tree
  abbrev pub IsPrivate : Objects → ℕ → Type 0
  IsPrivate h o = (object : Object) × (get h o ≡ Some object) × (is_tree_object set.program (Some object) ≡ false)

  abbrev pub Keeps : Objects → List Activation → ℕ → Type 0
  Keeps h frames o = FramesFit set.program (typing_at set.program) (listed_at set.program) (Some o) h frames

  abbrev pub Stays : Objects → List Activation → ℕ → Type 0
  Stays h frames o = Keeps h frames o ⊎ IsPrivate h o

  -- of the frame of a pausable method c with the receiver y
  abbrev pub Guard : Objects → List Activation → MethodId → Value → Type 0
  Guard h frames c y = is_pausable set.program c ≡ true → (o : ℕ) → y ≡ Ref o → Stays h frames o

  -- of a frame and all below it; `above` puts the frames from the top on before those below
  abbrev pub Held : Objects → (List Activation → List Activation) → MethodId → Value → List Frame → Type 0
  Held h above c y [] = Guard h (above []) c y
  Held h above c y (At m q l s x ∷ b) = Guard h (above []) c y × Held h (λ pre. above (frame m q l s ∷ pre)) m x b

  pub held_map : (b : List Frame) (h k : Objects) (f g : List Activation → List Activation) → ((pre : List Activation) → length pre ≤ length b → (o : ℕ) → Keeps h (f pre) o → Keeps k (g pre) o) → ((o : ℕ) → IsPrivate h o → IsPrivate k o) → (c : MethodId) (y : Value) →
      Held h f c y b → Held k g c y b
  held_map [] h k f g keeps private c y guard = λ pausable o e. stays_map o (guard pausable o e)
    where
      stays_map : (o : ℕ) → Stays h (f []) o → Stays k (g []) o
      stays_map o (inl a) = inl (keeps [] (omega arith) o a)
      stays_map o (inr a) = inr (private o a)
  held_map (At m q l s x ∷ b) h k f g keeps private c y held = (
    (λ pausable o e. stays_map o (held.0 pausable o e)),
    held_map b h k (λ pre. f (frame m q l s ∷ pre)) (λ pre. g (frame m q l s ∷ pre)) (λ pre le o t. keeps (frame m q l s ∷ pre) (omega (arith, le)) o t) private m x held.1,
  )
    where
      stays_map : (o : ℕ) → Stays h (f []) o → Stays k (g []) o
      stays_map o (inl a) = inl (keeps [] (omega arith) o a)
      stays_map o (inr a) = inr (private o a)

  abbrev pub HeldIn : Thread → Type 0
  HeldIn (Run m p l s x b w) = Held w.heap (λ pre. frame m p l s ∷ pre) m x b
  HeldIn (Stop o) = Unit {0}

  -- ---- what is kept is there

  at_end : (ws : List Waiting) (h : Objects) (o : ℕ) → ws ≡ keepers (Some o) → Frames IsPlace (trees set.program h) (map waiting_named ws) → (trees set.program h).has o ≡ true
  at_end ws h o e f = by (subst (λ (z : List Waiting). Frames IsPlace (trees set.program h) (map waiting_named z)) e f)
    where
      by : Frames IsPlace (trees set.program h) (map waiting_named (keepers (Some o))) → (trees set.program h).has o ≡ true
      by f = f.0.there 0 o (refl, refl)

  all_end : (frames : List Activation) (ws : List Waiting) (h : Objects) (o : ℕ) (gets : Option Ty) → AllWaitFor set.program (typing_at set.program) (listed_at set.program) (Some o) frames ws gets → Frames IsPlace (trees set.program h) (map waiting_named ws) → (trees set.program h).has o ≡ true
  all_end [] ws h o gets e f = at_end ws h o e f
  all_end (a ∷ frames) [] h o gets e f = absurd e
  all_end (a ∷ frames) (w ∷ ws) h o gets e f = all_end frames ws h o e.0 e.2 f.2

  kept_there : (h : Objects) (frames : List Activation) (o : ℕ) → Keeps h frames o → (trees set.program h).has o ≡ true
  kept_there h [] o e = e.there o refl
  kept_there h (top ∷ frames) o t = all_end frames t.below h o t.result t.waits t.top_fits.stands.holds.frames.2

  has_there : (h : Objects) (o : ℕ) → (x : Option Object) → get h o ≡ x → is_tree_object set.program x ≡ true → (object : Object) × (get h o ≡ Some object)
  has_there h o None e t = absurd (cc)
  has_there h o (Some object) e t = (object, e)

  pub stays_there : (h : Objects) (frames : List Activation) (o : ℕ) → Stays h frames o → (object : Object) × (get h o ≡ Some object)
  stays_there h frames o (inl t) = has_there h o (get h o) refl (kept_there h frames o t)
  stays_there h frames o (inr t) = (t.0, t.1)

  pub top_verified : (of : Classes) (top : Activation) (below : List Activation) (h : Objects) → Fits set.program (typing_at set.program) wants_all of (top ∷ below) h → TopIsVerified set.program (typing_at set.program) top h
  top_verified of top below h f m i next at found =
      let here = f.frames.0 in
      step_verified set.program here.method of h f.heap (typing_at set.program top.method top.place).stack top.stack i here.stack (whole_at set.program run.keeps top.method m at top.place (i, next) found)

  -- ---- a move, of the whole thread and of the frames down to one

  pub effect_is : (top : Activation) (h : Objects) (i : Instr) (to : ℕ) (o : Option Method) → code_in o top.place ≡ Some (i, to) → effect_in set.program top h o ≡ does set.program (own_in o) i to top.locals top.stack h
  effect_is top h i to None e = absurd (none_some (i, to) e)
    where
      none_some : (x : Instr × ℕ) → None ≡ Some x → ⊥
      none_some x e = cc
  effect_is top h i to (Some method) e = ap (effect_found set.program method top h) e

  module _ (of : Classes) (m : MethodId) (p : ℕ) (l s : List Value) (b : List Frame) (w : World) (is : IsWell set run of (lone_at m p l s b w)) (i : Instr) (to : ℕ) (f : fetch set.program m p ≡ Some (i, to)) where
    abbrev pub effect : Effect
    effect = does set.program (own_of set.program m) i to l s w.heap

    pub typed_move : typed.MoveFits set.program (typing_at set.program) wants_all of (move_by set.program (does set.program (own_of set.program m) i to l s w.heap) (frame m p l s) (lone_frames b))
    unfolding moves
    typed_move =
        subst (λ (e : Effect). typed.MoveFits set.program (typing_at set.program) wants_all of (move_by set.program e (frame m p l s) (lone_frames b))) (effect_is (frame m p l s) w.heap i to (method_at set.program m) f)
        (moves_fit set.program (typing_at set.program) wants_all of (facts_hold set.program run.keeps) verified.verified (frame m p l s) (lone_frames b) w.heap is.fits.fits
        (stack_there set run.keeps run.form run.well run.accepted run.main run.begins (lone_at m p l s b w) (as_well set run of (lone_at m p l s b w) is)))

    -- whatever is kept
    pub graph_move : (kept : Option ℕ) (pre : List Activation) → FramesFit set.program (typing_at set.program) (listed_at set.program) kept w.heap (frame m p l s ∷ pre) →
        graphs.MoveFits set.program (typing_at set.program) (listed_at set.program) kept (move_by set.program (does set.program (own_of set.program m) i to l s w.heap) (frame m p l s) pre)
    unfolding moves
    graph_move kept pre t =
        subst (λ (e : Effect). graphs.MoveFits set.program (typing_at set.program) (listed_at set.program) kept (move_by set.program e (frame m p l s) pre)) (effect_is (frame m p l s) w.heap i to (method_at set.program m) f)
        (moves_keep set.program (typing_at set.program) (listed_at set.program) kept (frame m p l s) pre w.heap rules_hold
        (top_verified of (frame m p l s) (lone_frames b) w.heap is.fits.fits) t)
