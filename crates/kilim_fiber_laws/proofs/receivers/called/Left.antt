-- The frames that are left where something is raised or thrown: each of the method that it was of, above those that were below it.
use Rattle.std.proofs.Common.{◌≡◌, ℕ, List, [], ◌∷◌, Option, Some, None, refl, sym, ap, subst}
use Rattle.kilim_program.specs.declared.class.Handler.{Handler}
use Rattle.kilim_program.specs.declared.class.Method.{Method}
use Rattle.kilim_program.specs.declared.instr.Instr.{Instr}
use Rattle.kilim_program.specs.declared.names.ClassId.{ClassId}
use Rattle.kilim_program.specs.declared.names.MethodId.{MethodId}
use Rattle.kilim_program.specs.declared.value.Value.{Value}
use Rattle.kilim_program.specs.Names.{method_at}
use Rattle.kilim_program.specs.Program.{Program}
use Rattle.kilim_run_state.specs.Machine.{Activation}
use Rattle.kilim_run_machine.specs.Raising.{call_in, caught_behind, caught_by, caught_in, handler_of}
use Rattle.kilim_type_sound.specs.Fits.{Classes}
use Rattle.kilim_fiber_spec.specs.Fibers.{frame}
use Rattle.kilim_fiber_spec.specs.Thread.{At, Frame, left_at, left_behind, or_left}
use Rattle.kilim_fiber_laws.specs.receivers.called.Law.{AllCalled}

-- ---- a frame that catches is of the method that it was of

abbrev pub method_or : MethodId → Option Activation → MethodId
method_or m None = m
method_or m (Some a) = a.method

by_method : (a : Activation) (v : Value) (h : Option Handler) → method_or a.method (caught_by a v h) ≡ a.method
by_method a v None = refl
by_method a v (Some h) = refl

-- calls stand below the top frame
module _ (p : Program) (of : Classes) (kept : Option ℕ) where
  abbrev pub AreCalled : List Frame → Type 0
  AreCalled [] = Unit {0}
  AreCalled (At m q l s x ∷ b) = AllCalled p of kept m x b

module _ (p : Program) (c : ClassId) (v : Value) where
  pub in_method : (a : Activation) (at : ℕ) (o : Option Method) → method_or a.method (caught_in p c v a at o) ≡ a.method
  in_method a at None = refl
  in_method a at (Some m) = by_method a v (handler_of p c at m.handlers)

  pub behind_method : (a : Activation) (e : Option (ℕ × Instr)) → method_or a.method (caught_behind p c v a e) ≡ a.method
  behind_method a None = refl
  behind_method a (Some e) = in_method a e.0 (method_at p a.method)

  -- ---- calls stand above those that stood below

  module _ (of : Classes) (kept : Option ℕ) where
    below_called : (m : MethodId) (x : Value) (b : List Frame) → AllCalled p of kept m x b → AreCalled p of kept b
    below_called m x [] all = tt
    below_called m x (At k q l s y ∷ b) all = all.1

    or_called : (m : MethodId) (x : Value) (o : Option Activation) (rest left : List Frame) → method_or m o ≡ m → AllCalled p of kept m x rest → AreCalled p of kept left → AreCalled p of kept (or_left x o rest left)
    or_called m x None rest left same all later = later
    or_called m x (Some a) rest left same all later = subst (λ (k : MethodId). AllCalled p of kept k x rest) (sym same) all

    pub behind_called : (b : List Frame) → AreCalled p of kept b → AreCalled p of kept (left_behind p c v b)
    behind_called [] all = tt
    behind_called (At m q l s x ∷ b) all =
        or_called m x (caught_behind p c v (frame m q l s) (call_in (method_at p m) q)) b (left_behind p c v b) (behind_method (frame m q l s) (call_in (method_at p m) q)) all (behind_called b (below_called m x b all))

    pub at_called : (top : Activation) (x : Value) (b : List Frame) → AllCalled p of kept top.method x b → AreCalled p of kept (left_at p c v top x b)
    at_called top x b all =
        or_called top.method x (caught_in p c v top top.place (method_at p top.method)) b (left_behind p c v b) (in_method top top.place (method_at p top.method)) all (behind_called b (below_called top.method x b all))
