-- Which handler catches is told by the frames' methods and places alone: what is left of frames where an object is thrown is the
-- same under other names.
use Rattle.std.proofs.Common.{◌≡◌, ℕ, List, [], ◌∷◌, Option, Some, None, refl, subst}
use Rattle.kilim_program.specs.declared.class.Handler.{Handler}
use Rattle.kilim_program.specs.declared.class.Method.{Method}
use Rattle.kilim_program.specs.declared.instr.Instr.{Instr}
use Rattle.kilim_program.specs.declared.names.ClassId.{ClassId}
use Rattle.kilim_program.specs.declared.names.MethodId.{MethodId}
use Rattle.kilim_program.specs.declared.value.Value.{Value}
use Rattle.kilim_program.specs.Names.{method_at}
use Rattle.kilim_program.specs.Program.{Program}
use Rattle.kilim_run_state.specs.Machine.{Activation}
use Rattle.kilim_run_machine.specs.Raising.{call_in, caught_behind, caught_by, caught_in, handler_of, index_at, index_in, or_below, thrown, unwound}
use Rattle.kilim_run_model.specs.kin.Kin.{Names, IsKin, AreKin, FramesKin}

module _ (p : Program) (c : ClassId) (of : Names) (v w : Value) (same : IsKin of v w) where
  abbrev FrameKin : Option Activation → Option Activation → Type 0
  FrameKin None None = Unit {0}
  FrameKin (Some a) (Some b) = FramesKin of (a ∷ []) (b ∷ [])
  FrameKin None (Some b) = ⊥
  FrameKin (Some a) None = ⊥

  or_kin : (a b : Option Activation) → FrameKin a b → (fs gs us ws : List Activation) → FramesKin of fs gs → FramesKin of us ws → FramesKin of (or_below a fs us) (or_below b gs ws)
  or_kin None None k fs gs us ws rest others = others
  or_kin (Some a) (Some b) (methods, places, locals, stacks, none) fs gs us ws rest others = (methods, places, locals, stacks, rest)
  or_kin None (Some b) k fs gs us ws rest others = absurd k
  or_kin (Some a) None k fs gs us ws rest others = absurd k

  module _ (f g : Activation) (methods : f.method ≡ g.method) (locals : AreKin of f.locals g.locals) where
    by_kin : (h : Option Handler) → FrameKin (caught_by f v h) (caught_by g w h)
    by_kin None = tt
    by_kin (Some h) = (methods, refl, locals, (same, tt), tt)

    in_kin : (at : ℕ) (m : Option Method) → FrameKin (caught_in p c v f at m) (caught_in p c w g at m)
    in_kin at None = tt
    in_kin at (Some m) = by_kin (handler_of p c at m.handlers)

    at_kin : (at : ℕ) → FrameKin (caught_in p c v f at (method_at p f.method)) (caught_in p c w g at (method_at p g.method))
    at_kin at = subst (λ (z : MethodId). FrameKin (caught_in p c v f at (method_at p f.method)) (caught_in p c w g at (method_at p z))) methods (in_kin at (method_at p f.method))

    behind_kin : (e : Option (ℕ × Instr)) → FrameKin (caught_behind p c v f e) (caught_behind p c w g e)
    behind_kin None = tt
    behind_kin (Some e) = at_kin e.0

    waits_kin : f.place ≡ g.place → FrameKin (caught_behind p c v f (call_in (method_at p f.method) f.place)) (caught_behind p c w g (call_in (method_at p g.method) g.place))
    waits_kin places =
        subst (λ (z : ℕ). FrameKin (caught_behind p c v f (call_in (method_at p f.method) f.place)) (caught_behind p c w g (call_in (method_at p g.method) z))) places
        (subst (λ (z : MethodId). FrameKin (caught_behind p c v f (call_in (method_at p f.method) f.place)) (caught_behind p c w g (call_in (method_at p z) f.place))) methods
        (behind_kin (call_in (method_at p f.method) f.place)))

  pub unwound_kin : (fs gs : List Activation) → FramesKin of fs gs → FramesKin of (unwound p c v fs) (unwound p c w gs)
  unwound_kin [] [] k = tt
  unwound_kin (f ∷ fs) (g ∷ gs) (methods, places, locals, stacks, rest) =
      or_kin (caught_behind p c v f (call_in (method_at p f.method) f.place)) (caught_behind p c w g (call_in (method_at p g.method) g.place)) (waits_kin f g methods locals places) fs gs (unwound p c v fs) (unwound p c w gs) rest (unwound_kin fs gs rest)
  unwound_kin [] (g ∷ gs) k = absurd k
  unwound_kin (f ∷ fs) [] k = absurd k

  pub thrown_kin : (f g : Activation) (fs gs : List Activation) → FramesKin of (f ∷ fs) (g ∷ gs) → FramesKin of (thrown p c v f fs) (thrown p c w g gs)
  thrown_kin f g fs gs (methods, places, locals, stacks, rest) =
      or_kin (caught_in p c v f f.place (method_at p f.method)) (caught_in p c w g g.place (method_at p g.method))
      (subst (λ (z : ℕ). FrameKin (caught_in p c v f f.place (method_at p f.method)) (caught_in p c w g z (method_at p g.method))) places (at_kin f g methods locals f.place))
      fs gs (unwound p c v fs) (unwound p c w gs) rest (unwound_kin fs gs rest)

-- so is the class of an index
pub index_same : (p : Program) (f g : Activation) → f.method ≡ g.method → f.place ≡ g.place → index_at p f ≡ index_at p g
index_same p f g methods places =
    subst (λ (z : ℕ). index_at p f ≡ index_in (method_at p g.method) z) places
    (subst (λ (z : MethodId). index_at p f ≡ index_in (method_at p z) f.place) methods refl)
