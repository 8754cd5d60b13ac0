-- A step that raises or throws, with what the handling blocks do behind it: both end alike, or stand at one handler again.
use Rattle.std.proofs.Common.{◌≡◌, ℕ, zero, suc, ◌+◌, ◌*◌, ◌≤◌, Bool, false, List, [], ◌∷◌, Some, sym, ap, subst, ◌∙◌, arith}
use Rattle.std.specs.FinMap.{get}
use Rattle.kilim_program.specs.declared.names.ClassId.{ClassId}
use Rattle.kilim_program.specs.declared.names.MethodId.{MethodId}
use Rattle.kilim_program.specs.declared.ty.Base.TheVariants as base
use Rattle.kilim_program.specs.declared.value.Value.{Value}
use Rattle.kilim_program.specs.declared.value.Value.TheVariants as value
use Rattle.kilim_program.specs.Program.{Program}
use Rattle.kilim_run_state.specs.declared.cause.EndCause.{EndCause}
use Rattle.kilim_run_state.specs.declared.value.Object.{Object}
use Rattle.kilim_run_state.specs.Machine.{Activation}
use Rattle.kilim_run_machine.specs.Raising.{thrown_cause}
use Rattle.kilim_run_model.specs.State.{Setting}
use Rattle.kilim_type_sound.specs.Fits.{AreThere}
use Rattle.kilim_fiber_spec.specs.Acts.{Over, World, ending, thrown_to}
use Rattle.kilim_fiber_spec.specs.Fibers.{Fib, Fiber_at, Saved, Woven_state, WRun, WStop, wstands_at, wstep}
use Rattle.kilim_fiber_spec.specs.Form.{Facts, Members, longest}
use Rattle.kilim_fiber_spec.specs.Links.{Forms, Link, code, left_overs}
use Rattle.kilim_fiber_spec.specs.Serves.{Rows}
use Rattle.kilim_fiber_spec.specs.Thread.{Frame, Stop, Thread, stands_at}
use Rattle.kilim_fiber_laws.specs.simulation.Handling.{Blocks, Tables}
use Rattle.kilim_fiber_laws.proofs.simulation.Forward.{Match, Goes_on, Overs, calm}
use Rattle.kilim_fiber_laws.proofs.simulation.Forward as forward
use Rattle.kilim_fiber_laws.proofs.simulation.Handling.{AreGone, Handled, InGroup, IsCaught, IsLeft, Lands, Nobody}
use Rattle.kilim_fiber_laws.proofs.simulation.Natural.{ending_is}
use Rattle.kilim_fiber_laws.proofs.simulation.Paths as path
use Rattle.kilim_fiber_laws.proofs.simulation.Still.{StepIsKnown}
use Rattle.kilim_fiber_laws.proofs.simulation.Unwinds.{count_of}

module _ (set : Setting) (W : Program) (marks : List (List Bool)) (most : ℕ) (Q : Woven_state → Type 0)
    (runs : (m : MethodId) (p : ℕ) (l s : List Value) (b : List Activation) (f : Fib) (w : World) (ps : List ℕ) → StepIsKnown set W marks (WRun m p l s b f w ps) → AreThere w.heap s → Q (WRun m p l s b f w ps))
    (members : Members set.program W) (form : Forms set W marks) (facts : (m : MethodId) → Facts set.program W (code set W marks) (form m)) (rows : Rows set W marks form) (enough : calm + 8 + 512 * longest ≤ most) (blocks : Blocks set W marks form)
    (c0 : ClassId) (tables : Tables set W marks form blocks c0) (n : ℕ) (object : Object) (dims : object.class.dims ≡ zero) (class : object.class.base ≡ base.Class c0)
    (w0 after : World) (ps : List ℕ) (why : EndCause) (there : get after.heap n ≡ Some object) (word : thrown_cause W c0 ≡ why)
    -- what ends, ends alike in the world in which nothing was caught and in that in which a handling block caught
    (ends_alike : ending set after WStop why ≡ ending set w0 WStop why) where
  abbrev M : Thread → ℕ → Woven_state → Type 0
  M = Match set W marks most Q runs members form facts rows enough

  abbrev To : ℕ → Woven_state → ℕ → Woven_state → Type 0
  To c x d y = path.To set W marks most Q runs c x d y

  abbrev Left : List Link → List Frame → List Activation → Type 0
  Left = IsLeft set W marks most Q runs members form facts blocks c0 tables n object dims class w0 after ps why there word

  module _ (links : List Link) (few : count_of links ≤ 512) (m : MethodId) (p : ℕ) (l s : List Value) (b : List Activation) (f : Fib) (w : World) (old : ℕ) (was : Value) (now : Q (WRun m p l s b f w ps)) where
    -- the first step is counted; each block takes four more
    through : (u : Thread) (c : ℕ) (a : Activation) (rest : List Activation) → c ≤ most → wstep set W marks (WRun m p l s b f w ps) ≡ WRun a.method a.place a.locals a.stack rest (Fiber_at (left_overs links) (Saved old was []) [] false false) after ps → after.done ≡ w.done + 1
        → Handled set W marks most Q runs members form facts blocks c0 tables n object dims class w0 after ps why there word (4 * count_of links) u 0 (WRun a.method a.place a.locals a.stack rest (Fiber_at (left_overs links) (Saved old was []) [] false false) after ps)
        → M u c (WRun m p l s b f w ps)
    through u c a rest room ew d (Lands t e k le way fine behind) =
        Goes_on t e k (omega (arith, le, few))
        (path.joins set W marks most Q runs (forward.counts set W marks most Q runs members form facts rows enough c m p l s b f w ps a.method a.place a.locals a.stack rest (Fiber_at (left_overs links) (Saved old was []) [] false false) after ps room ew d now) way) fine
    through u c a rest room ew d (Nobody e k le way) =
        Overs (ending set w0 (λ (o : Over). o) why) (e ∙ ending_is set w0 Stop why) k (omega (arith, le, few, enough))
        (path.joins set W marks most Q runs (forward.counts set W marks most Q runs members form facts rows enough c m p l s b f w ps a.method a.place a.locals a.stack rest (Fiber_at (left_overs links) (Saved old was []) [] false false) after ps room ew d now)
        (subst (λ (z : Woven_state). To 0 (WRun a.method a.place a.locals a.stack rest (Fiber_at (left_overs links) (Saved old was []) [] false false) after ps) k z) (ends_alike ∙ ending_is set w0 WStop why) way))

    pub arrives : (u : Thread) (c : ℕ) (left : List Frame) (wleft : List Activation) → suc c ≤ most → u ≡ thrown_to set Stop (stands_at set) w0 why after left
        → wstep set W marks (WRun m p l s b f w ps) ≡ thrown_to set WStop (wstands_at set W marks (Fiber_at (left_overs links) (Saved old was []) [] false false) ps) w0 why after wleft → after.done ≡ w.done + 1 → Left links left wleft → M u c (WRun m p l s b f w ps)
    arrives u c left wleft room eu ew d (AreGone e1 e2) =
        forward.both_end set W marks most Q runs members form facts rows enough u c m p l s b f w w0 ps why room
        (eu ∙ ap (thrown_to set Stop (stands_at set) w0 why after) e1) (ew ∙ ap (thrown_to set WStop (wstands_at set W marks (Fiber_at (left_overs links) (Saved old was []) [] false false) ps) w0 why after) e2) now
    arrives u c left wleft room eu ew d (IsCaught m2 q2 l2 wl2 x2 ov2 e1 e2 fine behind) =
        forward.on set W marks most Q runs members form facts rows enough u c m p l s b f w ps m2 q2 (value.Ref n ∷ []) l2 wl2 x2 ov2 links old was after ps (omega (arith, room))
        (eu ∙ ap (thrown_to set Stop (stands_at set) w0 why after) e1) (ew ∙ ap (thrown_to set WStop (wstands_at set W marks (Fiber_at (left_overs links) (Saved old was []) [] false false) ps) w0 why after) e2) d fine now
    arrives u c left wleft room eu ew d (InGroup a rest e go) =
        subst (λ (t : Thread). M t c (WRun m p l s b f w ps)) (sym eu)
        (through (thrown_to set Stop (stands_at set) w0 why after left) c a rest (omega (arith, room))
        (ew ∙ ap (thrown_to set WStop (wstands_at set W marks (Fiber_at (left_overs links) (Saved old was []) [] false false) ps) w0 why after) e) d
        (subst (λ (fs : List Activation). Handled set W marks most Q runs members form facts blocks c0 tables n object dims class w0 after ps why there word (4 * count_of links) (thrown_to set Stop (stands_at set) w0 why after left) 0
        (thrown_to set WStop (wstands_at set W marks (Fiber_at (left_overs links) (Saved old was []) [] false false) ps) after why after fs)) e (go (Saved old was []) 0)))
