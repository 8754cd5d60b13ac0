-- From an instruction's effects that are kin to moves that are.
use Rattle.std.proofs.Common.{◌≡◌, ℕ, Bool, true, false, cond, List, [], ◌∷◌, length, Option, Some, None, refl, sym, subst}
use Rattle.std.specs.Prelude.{nat_lt}
use Rattle.kilim_run_state.specs.declared.cause.EndCause.TheVariants as cause
use Rattle.kilim_program.specs.declared.class.Method.{Method}
use Rattle.kilim_program.specs.declared.class.Program.{Program}
use Rattle.kilim_program.specs.declared.instr.Instr.{Instr}
use Rattle.kilim_program.specs.declared.names.MethodId.{MethodId}
use Rattle.kilim_program.specs.declared.value.Value.{Value}
use Rattle.kilim_run_state.specs.Machine.{Objects, Activation}
use Rattle.kilim_program.specs.Names.{method_at}
use Rattle.kilim_run_machine.specs.Effect.{Effect}
use Rattle.kilim_run_machine.specs.Effect as effect
use Rattle.kilim_program.specs.Lengths.{fetched}
use Rattle.kilim_run_machine.specs.Moves.{Move, Enters, moves, move_by, called, returned, entered, goes_on, frame_limit, first_of, receiver_in, receiver_of, effect_found, effect_in, effect_of}
use Rattle.kilim_run_machine.specs.Moves as move
use Rattle.kilim_run_model.specs.kin.Kin.{Names, Owner, AreKin, FramesKin, MaybeKin, Alike, AreHeld, IsThere, StandsIn, EffectKin, MoveKin}
use Rattle.kilim_run_model.specs.kin.Laws.{RowsKin}
use Rattle.kilim_run_model.proofs.kin.Kins.{kin_entered, kin_result, frames_length}

module _ (p : Program) (good : ℕ → Type 0) (of : Names) (owner : ℕ → Owner) (t : ℕ) (h0 k0 : Objects) (alike : Alike of owner t k0 h0 k0) where
  abbrev MKin : Move → Move → Type 0
  MKin v w = MoveKin good of owner t h0 k0 v w

  abbrev EKin : Effect → Effect → Type 0
  EKin e d = EffectKin good of owner t h0 k0 e d

  alike_at : (h k : Objects) → h ≡ h0 → k ≡ k0 → Alike of owner t k0 h k
  alike_at h k a b = subst (λ (z : Objects). Alike of owner t k0 z k) (sym a) (subst (λ (z : Objects). Alike of owner t k0 h0 z) (sym b) alike)

  cond_kin : (b : Bool) (x y v w : Move) → MKin x v → MKin y w → MKin (cond b x y) (cond b v w)
  cond_kin true x y v w e d = e
  cond_kin false x y v w e d = d

  first_kin : (args brgs : List Value) → AreKin of args brgs → MaybeKin of (first_of args) (first_of brgs)
  first_kin [] [] e = tt
  first_kin (v ∷ vs) (w ∷ ws) e = e.0
  first_kin _ _ e = absurd e

  receiver_by : (static : Bool) (v w : Option Value) → MaybeKin of v w → MaybeKin of (cond static None v) (cond static None w)
  receiver_by true v w e = tt
  receiver_by false v w e = e

  receiver_in_kin : (m : Option Method) (args brgs : List Value) → AreKin of args brgs → MaybeKin of (receiver_in m args) (receiver_in m brgs)
  receiver_in_kin None args brgs e = tt
  receiver_in_kin (Some method) args brgs e = receiver_by method.is_static (first_of args) (first_of brgs) (first_kin args brgs e)

  receiver_kin : (m : MethodId) (args brgs : List Value) → AreKin of args brgs → MaybeKin of (receiver_of p m args) (receiver_of p m brgs)
  receiver_kin m args brgs e = receiver_in_kin (method_at p m) args brgs e

  called_kin : (m n : MethodId) (args brgs : List Value) (fs gs : List Activation) (h k : Objects) → m ≡ n → AreKin of args brgs → FramesKin of fs gs → Alike of owner t k0 h k →
      MKin (called p m args fs h) (called p n brgs gs k)
  called_kin m n args brgs fs gs h k same e below heaps =
      subst (λ (z : MethodId). MKin (called p m args fs h) (called p z brgs gs k)) same
      (subst (λ (z : ℕ). MKin (called p m args fs h) (cond (nat_lt z frame_limit) (move.Runs (Enters (receiver_of p m brgs)) (entered p m brgs ∷ gs) k) (move.Ends cause.Depth))) (frames_length of fs gs below)
      (cond_kin (nat_lt (length fs) frame_limit) _ _ _ _ (receiver_kin m args brgs e, kin_entered of p m args brgs fs gs e below, heaps) refl))

  returned_kin : (v w : Option Value) (fs gs : List Activation) (h k : Objects) → MaybeKin of v w → FramesKin of fs gs → h ≡ h0 → k ≡ k0 → MKin (returned v fs h) (returned w gs k)
  returned_kin v w [] [] h k e d a b = (a, b)
  returned_kin v w (f ∷ fs) (g ∷ gs) h k e d a b = (tt, kin_result of v w (f ∷ fs) (g ∷ gs) e d, alike_at h k a b)
  returned_kin v w _ _ h k e d a b = absurd d

  move_kin : (top pot : Activation) (fs gs : List Activation) → top.method ≡ pot.method → FramesKin of fs gs → (e d : Effect) → EKin e d → MKin (move_by p e top fs) (move_by p d pot gs)
  move_kin top pot fs gs same below (effect.Goes a ls vs h) (effect.Goes b ms ws k) x = (tt, (same, x.0, x.1, x.2, below), x.3)
  move_kin top pot fs gs same below (effect.Makes o a ls vs h) (effect.Makes q b ms ws k) x = (x.0, (same, x.1, x.2, x.3, below), x.4, x.5)
  move_kin top pot fs gs same below (effect.Opens a ls vs h) (effect.Opens b ms ws k) x = ((same, x.0, x.1, x.2, below), x.3, x.4)
  move_kin top pot fs gs same below (effect.Calls m args a ls vs h) (effect.Calls n brgs b ms ws k) x = called_kin m n args brgs (goes_on top a ls vs ∷ fs) (goes_on pot b ms ws ∷ gs) h k x.0 x.1 (same, x.2, x.3, x.4, below) (alike_at h k x.5 x.6)
  move_kin top pot fs gs same below (effect.Asks m args a ls vs h) (effect.Asks n brgs b ms ws k) x = (x.0, x.1, (same, x.2, x.3, x.4, below), x.5, x.6, x.7)
  move_kin top pot fs gs same below (effect.Returns v h) (effect.Returns w k) x = returned_kin v w fs gs h k x.0 below x.1 x.2
  move_kin top pot fs gs same below (effect.Raises c) (effect.Raises d) x = x
  move_kin top pot fs gs same below (effect.Throws n c why) (effect.Throws z d reason) x = x
  move_kin top pot fs gs same below (effect.Ends c) (effect.Ends d) x = x
  move_kin top pot fs gs same below effect.Stuck effect.Stuck x = tt
  move_kin top pot fs gs same below _ _ x = absurd x

module _ (p : Program) (of : Names) (owner : ℕ → Owner) (t : ℕ) (h k : Objects) (alike : Alike of owner t k h k) (rows : RowsKin p) (top pot : Activation) (held : AreHeld (IsThere h) top.stack) where
  abbrev Good : ℕ → Type 0
  Good = StandsIn h top.stack

  abbrev Kin : Effect → Effect → Type 0
  Kin e d = EffectKin Good of owner t h k e d

  found_kin : AreKin of top.locals pot.locals → AreKin of top.stack pot.stack → (own : Method) (f : Option (Instr × ℕ)) → Kin (effect_found p own top h f) (effect_found p own pot k f)
  found_kin l s own None = tt
  found_kin l s own (Some f) = rows of owner t h k alike own f.0 f.1 top.locals pot.locals top.stack pot.stack l s held

  in_kin : top.place ≡ pot.place → AreKin of top.locals pot.locals → AreKin of top.stack pot.stack → (m : Option Method) → Kin (effect_in p top h m) (effect_in p pot k m)
  in_kin at l s None = tt
  in_kin at l s (Some m) = subst (λ (z : ℕ). Kin (effect_in p top h (Some m)) (effect_found p m pot k (fetched m.code m.code_length z))) at (found_kin l s m (fetched m.code m.code_length top.place))

  pub moves_kin : (fs gs : List Activation) → FramesKin of (top ∷ fs) (pot ∷ gs) → MoveKin Good of owner t h k (moves p top fs h) (moves p pot gs k)
  unfolding moves
  moves_kin fs gs x =
      move_kin p Good of owner t h k alike top pot fs gs x.0 x.4 (effect_of p top h) (effect_of p pot k)
      (subst (λ (z : MethodId). Kin (effect_of p top h) (effect_in p pot k (method_at p z))) x.0 (in_kin x.1 x.2 x.3 (method_at p top.method)))
