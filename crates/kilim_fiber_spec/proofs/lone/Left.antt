-- What comes of what is raised or thrown: the thread goes on at a handler, or ends.
use Rattle.std.proofs.Common.{◌≡◌, ℕ, suc, ◌≤◌, List, [], ◌∷◌, Option, Some, None, refl, arith}
use Rattle.std.specs.Prelude.{length}
use Rattle.kilim_program.specs.declared.names.ClassId.{ClassId}
use Rattle.kilim_program.specs.declared.value.Value.{Value}
use Rattle.kilim_program.specs.Names.{method_at}
use Rattle.kilim_program.specs.Program.{Program}
use Rattle.kilim_run_state.specs.declared.cause.EndCause.{EndCause}
use Rattle.kilim_run_state.specs.Machine.{Activation}
use Rattle.kilim_run_state.specs.Objects.{new_object}
use Rattle.kilim_run_machine.specs.Raising.{call_in, caught_behind, caught_in, or_below, thrown, unwound}
use Rattle.kilim_run_model.specs.State.{Setting}
use Rattle.kilim_fiber_spec.specs.Acts.{World, ending, raises, thrown_to, with_new}
use Rattle.kilim_fiber_spec.specs.Fibers.{frame}
use Rattle.kilim_fiber_spec.specs.Thread.{At, Frame, Stop, Thread, left_at, left_behind, or_left, stands_at}
use Rattle.kilim_fiber_spec.specs.lone.Law.{lone_frames}

-- ---- the frames that are left are those of the machine

or_same : (x : Value) (o : Option Activation) (rest left : List Frame) (alone : List Activation) → alone ≡ lone_frames left → or_below o (lone_frames rest) alone ≡ lone_frames (or_left x o rest left)
or_same x None rest left alone e = e
or_same x (Some a) rest left alone e = refl

pub behind_same : (p : Program) (c : ClassId) (v : Value) (b : List Frame) → unwound p c v (lone_frames b) ≡ lone_frames (left_behind p c v b)
behind_same p c v [] = refl
behind_same p c v (At m q l s x ∷ b) = or_same x (caught_behind p c v (frame m q l s) (call_in (method_at p m) q)) b (left_behind p c v b) (unwound p c v (lone_frames b)) (behind_same p c v b)

pub at_same : (p : Program) (c : ClassId) (v : Value) (top : Activation) (x : Value) (b : List Frame) → thrown p c v top (lone_frames b) ≡ lone_frames (left_at p c v top x b)
at_same p c v top x b = or_same x (caught_in p c v top top.place (method_at p top.method)) b (left_behind p c v b) (unwound p c v (lone_frames b)) (behind_same p c v b)

-- ---- they are no more than there were

or_few : (n : ℕ) (x : Value) (o : Option Activation) (rest left : List Frame) → suc (length rest) ≤ n → length left ≤ n → length (or_left x o rest left) ≤ n
or_few n x None rest left few h = h
or_few n x (Some a) rest left few h = few

pub behind_few : (p : Program) (c : ClassId) (v : Value) (b : List Frame) → length (left_behind p c v b) ≤ length b
behind_few p c v [] = omega arith
behind_few p c v (At m q l s x ∷ b) =
    let h = behind_few p c v b in
    or_few (suc (length b)) x (caught_behind p c v (frame m q l s) (call_in (method_at p m) q)) b (left_behind p c v b) (omega arith) (omega (arith, h))

pub at_few : (p : Program) (c : ClassId) (v : Value) (top : Activation) (x : Value) (b : List Frame) → length (left_at p c v top x b) ≤ suc (length b)
at_few p c v top x b =
    let h = behind_few p c v b in
    or_few (suc (length b)) x (caught_in p c v top top.place (method_at p top.method)) b (left_behind p c v b) (omega arith) (omega (arith, h))

-- ---- what holds of the end and of each frame that is left

module _ (set : Setting) (P : Thread → Type 0) (w : World) (why : EndCause) (ends : P (ending set w Stop why)) where
  pub thrown_has : (after : World) (left : List Frame) → ((f : Frame) (fs : List Frame) → left ≡ f ∷ fs → P (stands_at set f fs after)) → P (thrown_to set Stop (stands_at set) w why after left)
  thrown_has after [] each = ends
  thrown_has after (f ∷ fs) each = each f fs refl

  pub raises_has : (p : Program) (left : ClassId → List Frame) (o : Option ClassId) → ((c : ClassId) (f : Frame) (fs : List Frame) → left c ≡ f ∷ fs → P (stands_at set f fs (with_new w (new_object p c)))) → P (raises set Stop (stands_at set) w why p left o)
  raises_has p left None each = ends
  raises_has p left (Some c) each = thrown_has (with_new w (new_object p c)) (left c) (each c)
