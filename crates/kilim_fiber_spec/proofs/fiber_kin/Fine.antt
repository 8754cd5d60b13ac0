-- A fiber's next instruction isn't stuck and has room on the stack, as its thread's.
use Rattle.std.proofs.Common.{◌≡◌, ℕ, suc, ◌<◌, ◌≤◌, Bool, true, false, List, [], ◌∷◌, Option, Some, None, length, refl, sym, ap, subst, ◌∙◌}
use Rattle.kilim_program.specs.Program.{Program}
use Rattle.kilim_program.specs.declared.class.Method.{Method}
use Rattle.kilim_program.specs.declared.instr.Instr.{Instr}
use Rattle.kilim_program.specs.declared.names.MethodId.{MethodId}
use Rattle.kilim_program.specs.Lengths.{fetched}
use Rattle.kilim_program.specs.Names.{method_at}
use Rattle.kilim_run_state.specs.Machine.{Objects, Activation}
use Rattle.kilim_run_state.specs.declared.cause.EndCause.TheVariants as cause
use Rattle.std.specs.Prelude.{nat_lt, cond}
use Rattle.kilim_run_machine.specs.Effect.{Effect}
use Rattle.kilim_run_machine.specs.Effect as effect
use Rattle.kilim_run_machine.specs.Moves.{Move, effect_found, effect_in, effect_of, moves, Enters, move_by, goes_on, frame_limit, receiver_of, entered, returned}
use Rattle.kilim_run_machine.specs.Moves as move
use Rattle.kilim_run_model.specs.kin.Kin.{Names, AreKin, AreHeld, IsThere, FramesKin, StandsIn, Alike, EffectKin}
use Rattle.kilim_run_model.proofs.kin.Kins.{kin_length}
use Rattle.kilim_run_model.proofs.kin.Rows.{rows_kin}
use Rattle.kilim_run_rows.specs.Outcome.{is_stuck}
use Rattle.kilim_run_interp.specs.Step.{CallerFits, FitsStack, stack_limit}
use Rattle.kilim_run_interp.specs.Run.{IsFine}
use Rattle.kilim_fiber_spec.specs.fiber_kin.Mine.{all_mine}

-- ---- effects under other names

module _ (p : Program) (good : ℕ → Type 0) (of : Names) (h k : Objects) where
  abbrev Kin : Effect → Effect → Type 0
  Kin e d = EffectKin good of all_mine 0 h k e d

  stuck_kin : (e d : Effect) → Kin e d → is_stuck e ≡ is_stuck d
  stuck_kin (effect.Goes a ls vs x) (effect.Goes b ms ws y) w = refl
  stuck_kin (effect.Makes o a ls vs x) (effect.Makes q b ms ws y) w = refl
  stuck_kin (effect.Opens a ls vs x) (effect.Opens b ms ws y) w = refl
  stuck_kin (effect.Calls m args a ls vs x) (effect.Calls n brgs b ms ws y) w = refl
  stuck_kin (effect.Asks m args a ls vs x) (effect.Asks n brgs b ms ws y) w = refl
  stuck_kin (effect.Returns v x) (effect.Returns u y) w = refl
  stuck_kin (effect.Raises c) (effect.Raises d) w = refl
  stuck_kin (effect.Throws n k c) (effect.Throws x l d) w = refl
  stuck_kin (effect.Ends c) (effect.Ends d) w = refl
  stuck_kin effect.Stuck effect.Stuck w = refl
  stuck_kin _ _ w = absurd w

  caller_kin : (fs gs : List Activation) → FramesKin of fs gs → CallerFits p fs → CallerFits p gs
  caller_kin [] [] e w = tt
  caller_kin (f ∷ fs) (g ∷ gs) e w = subst (λ (z : MethodId). length g.stack < stack_limit p z) e.0 (subst (λ (z : ℕ). z < stack_limit p f.method) (kin_length of f.stack g.stack e.3) w)
  caller_kin _ _ e w = absurd e

  low : (limit a b : ℕ) → a ≡ b → a ≤ limit → b ≤ limit
  low limit a b e le = subst (λ (z : ℕ). z ≤ limit) e le

  fits_at : (m : MethodId) (fs gs : List Activation) → FramesKin of fs gs → (e d : Effect) → Kin e d → FitsStack p e m fs → FitsStack p d m gs
  fits_at m fs gs below (effect.Goes a ls vs x) (effect.Goes b ms ws y) w le = low (stack_limit p m) (length vs) (length ws) (kin_length of vs ws w.2) le
  fits_at m fs gs below (effect.Makes o a ls vs x) (effect.Makes q b ms ws y) w le = low (stack_limit p m) (suc (length vs)) (suc (length ws)) (ap suc (kin_length of vs ws w.3)) le
  fits_at m fs gs below (effect.Opens a ls vs x) (effect.Opens b ms ws y) w le = low (stack_limit p m) (suc (length vs)) (suc (length ws)) (ap suc (kin_length of vs ws w.2)) le
  fits_at m fs gs below (effect.Calls i args a ls vs x) (effect.Calls n brgs b ms ws y) w le = low (stack_limit p m) (length vs) (length ws) (kin_length of vs ws w.4) le
  fits_at m fs gs below (effect.Asks i args a ls vs x) (effect.Asks n brgs b ms ws y) w le = low (stack_limit p m) (length vs) (length ws) (kin_length of vs ws w.4) le
  fits_at m fs gs below (effect.Returns None x) (effect.Returns None y) w le = tt
  fits_at m fs gs below (effect.Returns (Some v) x) (effect.Returns (Some u) y) w le = caller_kin fs gs below le
  fits_at m fs gs below (effect.Returns None x) (effect.Returns (Some u) y) w le = absurd w.0
  fits_at m fs gs below (effect.Returns (Some v) x) (effect.Returns None y) w le = absurd w.0
  fits_at m fs gs below (effect.Raises c) (effect.Raises d) w le = le
  fits_at m fs gs below (effect.Throws n k c) (effect.Throws x l d) w le = le
  fits_at m fs gs below (effect.Ends c) (effect.Ends d) w le = le
  fits_at m fs gs below effect.Stuck effect.Stuck w le = le
  fits_at m fs gs below _ _ w le = absurd w

module _ (p : Program) (of : Names) (h k : Objects) (alike : Alike of all_mine 0 k h k) (top pot : Activation) (held : AreHeld (IsThere h) top.stack) where
  abbrev Same : Effect → Effect → Type 0
  Same e d = EffectKin (StandsIn h top.stack) of all_mine 0 h k e d

  found_kin : AreKin of top.locals pot.locals → AreKin of top.stack pot.stack → (own : Method) (f : Option (Instr × ℕ)) → Same (effect_found p own top h f) (effect_found p own pot k f)
  found_kin l s own None = tt
  found_kin l s own (Some f) = rows_kin p of all_mine 0 h k alike own f.0 f.1 top.locals pot.locals top.stack pot.stack l s held

  in_kin : top.place ≡ pot.place → AreKin of top.locals pot.locals → AreKin of top.stack pot.stack → (m : Option Method) → Same (effect_in p top h m) (effect_in p pot k m)
  in_kin at l s None = tt
  in_kin at l s (Some m) = subst (λ (z : ℕ). Same (effect_in p top h (Some m)) (effect_found p m pot k (fetched m.code m.code_length z))) at (found_kin l s m (fetched m.code m.code_length top.place))

  effect_kin : top.method ≡ pot.method → top.place ≡ pot.place → AreKin of top.locals pot.locals → AreKin of top.stack pot.stack → Same (effect_of p top h) (effect_of p pot k)
  effect_kin own at l s = subst (λ (z : MethodId). Same (effect_of p top h) (effect_in p pot k (method_at p z))) own (in_kin at l s (method_at p top.method))

  pub fine_kin : (fs gs : List Activation) → FramesKin of (top ∷ fs) (pot ∷ gs) → IsFine p top fs h → IsFine p pot gs k
  fine_kin fs gs e w =
      let same = effect_kin e.0 e.1 e.2 e.3 in
      let good = StandsIn h top.stack in
      record {
        fine = sym (stuck_kin p good of h k (effect_of p top h) (effect_of p pot k) same) ∙ w.fine;
        fits = subst (λ (z : MethodId). FitsStack p (effect_of p pot k) z gs) e.0 (fits_at p good of h k top.method fs gs e.4 (effect_of p top h) (effect_of p pot k) same w.fits);
      }

-- ---- room for a new mailbox

open_by : (p : Program) (top : Activation) (below : List Activation) (e : Effect) (g : Activation) (gs : List Activation) (heap : Objects) → FitsStack p e top.method below → move_by p e top below ≡ move.Opens (g ∷ gs) heap → length g.stack < stack_limit p g.method
open_by p top below (effect.Opens place ls vs h) g gs heap le e =
    let same : goes_on top place ls vs ≡ g = ap (frame_in top) e in
    subst (λ (z : Activation). length z.stack < stack_limit p z.method) same le
  where
    frame_in : Activation → Move → Activation
    frame_in d (move.Opens (f ∷ fs) h) = f
    frame_in d m = d
open_by p top below (effect.Goes place ls vs h) g gs heap le e = absurd (cc)
open_by p top below (effect.Makes o place ls vs h) g gs heap le e = absurd (cc)
open_by p top below (effect.Calls m args place ls vs h) g gs heap le e = absurd (not_called (nat_lt (length (goes_on top place ls vs ∷ below)) frame_limit) e)
  where
    not_called : (b : Bool) → cond b (move.Runs (Enters (receiver_of p m args)) (entered p m args ∷ goes_on top place ls vs ∷ below) h) (move.Ends cause.Depth) ≡ move.Opens (g ∷ gs) heap → ⊥
    not_called true e = cc
    not_called false e = cc
open_by p top below (effect.Asks m args place ls vs h) g gs heap le e = absurd (cc)
open_by p top below (effect.Returns v h) g gs heap le e = absurd (not_returned below e)
  where
    not_returned : (fs : List Activation) → returned v fs h ≡ move.Opens (g ∷ gs) heap → ⊥
    not_returned [] e = cc
    not_returned (f ∷ fs) e = cc
open_by p top below (effect.Raises c) g gs heap le e = absurd (cc)
open_by p top below (effect.Throws object class c) g gs heap le e = absurd (cc)
open_by p top below (effect.Ends c) g gs heap le e = absurd (cc)
open_by p top below effect.Stuck g gs heap le e = absurd (cc)

-- behind an instruction that makes a mailbox there is room for its name
pub opens_fit : (p : Program) (top : Activation) (below : List Activation) (h heap : Objects) (g : Activation) (gs : List Activation) → IsFine p top below h → moves p top below h ≡ move.Opens (g ∷ gs) heap → length g.stack < stack_limit p g.method
unfolding moves
opens_fit p top below h heap g gs fine e = open_by p top below (effect_of p top h) g gs heap fine.fits e
