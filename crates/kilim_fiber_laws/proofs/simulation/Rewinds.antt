-- Rewinding: the resume blocks, restores, and the calls again.
use Rattle.std.proofs.Common.{◌≡◌, inl, inr, ℕ, suc, ◌+◌, ◌*◌, ◌<◌, ◌≤◌, Bool, true, false, not, ◌&&◌, pos, List, [], ◌∷◌, ◌++◌, length, Some, refl, sym, ap, subst, ◌∙◌, arith}
use Rattle.std.specs.Prelude.{slice_get, if◌then◌else◌}
use Rattle.std.proofs.lemmas.Option.{slice_get_within}
use Rattle.std.proofs.lemmas.Bool.{false≢true, lt-ltb}
use Rattle.kilim_run_state.specs.declared.cause.EndCause.TheVariants as cause
use Rattle.kilim_program.specs.declared.class.Method.{Method}
use Rattle.kilim_program.specs.declared.instr.Instr.{Instr}
use Rattle.kilim_program.specs.declared.instr.Instr.TheVariants as instr
use Rattle.kilim_program.specs.declared.names.MethodId.{MethodId}
use Rattle.kilim_program.specs.declared.ty.Ty.{Ty}
use Rattle.kilim_program.specs.declared.value.Value.{Value}
use Rattle.kilim_program.specs.declared.value.Value.TheVariants as value
use Rattle.kilim_program.specs.declared.verified.VType.{VType}
use Rattle.kilim_program.specs.declared.verified.VType.TheVariants.{Top, Int, Long, Null, UninitThis, Uninit, Object}
use Rattle.kilim_program.specs.Program.{Program}
use Rattle.kilim_run_state.specs.Machine.{Objects, Activation}
use Rattle.kilim_run_machine.specs.Natives.{Native}
use Rattle.kilim_run_machine.specs.Effect.{Goes, Calls}
use Rattle.kilim_run_machine.specs.Does.{does}
use Rattle.kilim_run_state.specs.Machine.{slots_of}
use Rattle.kilim_run_machine.specs.Moves.{entered, frame_limit}
use Rattle.kilim_program.specs.Same.{argument_slots}
use Rattle.kilim_run_model.specs.State.{Setting}
use Rattle.kilim_type_spec.specs.Step.{vtype}
use Rattle.kilim_weave_spec.specs.Woven.{Plan, Item, member, fiber_slot, added, pausable_callee, below, saved, receiver, receiver_of, restore_receiver, restore_stack, dummies, dummy_of, resume_code}
use Rattle.kilim_fiber_spec.specs.Acts.{World, ending}
use Rattle.kilim_fiber_spec.specs.Thread.{fetch, own_of}
use Rattle.kilim_run_machine.specs.Natives.{Down, Receiver}
use Rattle.kilim_fiber_spec.specs.Fibers.{Fib, Fiber_at, Rec, Saved, is_rewinding, Woven_state, WRun, WStop, frame}
use Rattle.kilim_fiber_spec.specs.Form.{Facts, HasAt, Among_slots, Members, longest}
use Rattle.kilim_fiber_spec.specs.Rows.{handed, OldHeap, IsClean}
use Rattle.kilim_fiber_spec.specs.Links.{kept_stack, kept_slots, dummy_value, with_dummies, with_receiver, again, RefFits, AllFit, SlotsFit, Link, Lk, method_of, self_of_link, left_overs, rev_onto, bare, bares, Target, Inner, Leaf, Forms, code, plan_of, w_frames, record_of, first_record, next_records, Good, Goods, Takes, ReceiverFits, Fit, Chained, entering, at_leaf}
use Rattle.kilim_type_sound.specs.Fits.{AreThere}
use Rattle.kilim_fiber_laws.proofs.simulation.Still.{StepIsKnown}
use Rattle.kilim_run_interp.specs.Step.{stack_limit}
use Rattle.kilim_fiber_laws.proofs.simulation.Held.{all_there, dummies_there, dummy_there, ref_there}
use Rattle.kilim_fiber_laws.proofs.simulation.Added as add
use Rattle.kilim_fiber_laws.proofs.simulation.Paths as path
use Rattle.kilim_fiber_laws.proofs.simulation.Stretches as stretch
use Rattle.kilim_fiber_laws.proofs.simulation.Restores as restore
use Rattle.kilim_fiber_laws.proofs.simulation.Prologue as prologue
use Rattle.kilim_fiber_laws.proofs.simulation.Slots.{put_back, back_other, back_same}
use Rattle.kilim_fiber_laws.proofs.simulation.Unwinds.{count_of}

-- dummies and a receiver come on top
pub more_dummies : (tys : List Ty) (s : List Value) → length s ≤ length (with_dummies tys s)
more_dummies [] s = omega arith
more_dummies (ty ∷ tys) s = let a = more_dummies tys (dummy_value (vtype ty) ∷ s) in omega (arith, a)

pub more_receiver : (static : Bool) (y : Value) (s : List Value) → length s ≤ length (with_receiver static y s)
more_receiver true y s = omega arith
more_receiver false y s = omega arith

module _ (set : Setting) (W : Program) (marks : List (List Bool)) (most : ℕ) (Q : Woven_state → Type 0)
    (runs : (m : MethodId) (p : ℕ) (l s : List Value) (b : List Activation) (f : Fib) (w : World) (ps : List ℕ) → StepIsKnown set W marks (WRun m p l s b f w ps) → AreThere w.heap s → Q (WRun m p l s b f w ps))
    (members : Members set.program W) (form : Forms set W marks) (facts : (m : MethodId) → Facts set.program W (code set W marks) (form m))
    -- a pausable call of the woven program does what that of the unwoven one does
    (hands : (m : MethodId) (p : ℕ) (i : Instr) (callee : Method) (to nx : ℕ) (l wl s : List Value) (heap : Objects) → fetch set.program m p ≡ Some (i, to) → pausable_callee set.program i ≡ Some callee → OldHeap set.program heap → IsClean set.program i s heap → does W (own_of W m) i nx wl (value.Fiber ∷ s) heap ≡ handed nx wl (does set.program (own_of set.program m) i to l s heap)) where
  abbrev To : ℕ → Woven_state → ℕ → Woven_state → Type 0
  To c x d y = path.To set W marks most Q runs c x d y

  not_self : {n : ℕ} → n < n → ⊥
  not_self h = omega (arith, h)

  -- the stack of a call that is made again
  receiver_there : (heap : Objects) (static : Bool) (t : VType) (y : Value) (s : List Value) → ReceiverFits set W marks form static heap t y → AreThere heap s → AreThere heap (with_receiver static y s)
  receiver_there heap true t y s fit th = th
  receiver_there heap false t y s fit th = (ref_there W heap t y fit, th)

  pub again_there : (heap : Objects) (callee : Method) (ts : List VType) (t : VType) (y : Value) (s : List Value) → AllFit W heap ts s → ReceiverFits set W marks form callee.is_static heap t y → AreThere heap (again callee y s)
  again_there heap callee ts t y s fits fit = dummies_there heap callee.params (with_receiver callee.is_static y s) (receiver_there heap callee.is_static t y s fit (all_there W heap ts s fits))

  module _ (m : MethodId) where
    abbrev x : Plan
    x = plan_of set W marks form m

    abbrev has : ℕ → List Item → Type 0
    has q rest = HasAt (code set W marks m) q rest

    abbrev Reach : List Item → ℕ → ℕ → Woven_state → List Value → List Value → List Activation → Fib → World → List ℕ → Type 0
    Reach = path.Reach set W marks most Q runs m

    goes : (rest : List Item) (c q nx : ℕ) (i : Instr) (mk : Bool) (l s l2 s2 l3 s3 : List Value) (b : List Activation) (f f3 : Fib) (w : World) (ps : List ℕ)
        → code set W marks m q ≡ Some (i, nx, mk) → (mk && not (is_rewinding f)) ≡ false → does W (own_of W m) i nx l s w.heap ≡ Goes nx l2 s2 w.heap → length s2 ≤ stack_limit W m → AreThere w.heap s
        → Reach rest (suc c) nx (WRun m nx l2 s2 b f w ps) l3 s3 b f3 w ps → Reach rest c q (WRun m q l s b f w ps) l3 s3 b f3 w ps
    goes = stretch.goes set W marks most Q runs members form facts m

    here : (rest : List Item) (c q : ℕ) (l s : List Value) (b : List Activation) (f : Fib) (w : World) (ps : List ℕ) → has q rest → Reach rest c q (WRun m q l s b f w ps) l s b f w ps
    here = path.here set W marks most Q runs m

    pushes : (t : VType) (nx : ℕ) (l s : List Value) (heap : Objects) → does W (own_of W m) (dummy_of t) nx l s heap ≡ Goes nx l (dummy_value t ∷ s) heap
    pushes Int nx l s heap = add.iconst W (own_of W m) nx l s heap (pos 0)
    pushes Long nx l s heap = add.lconst W (own_of W m) nx l s heap (pos 0)
    pushes t nx l s heap = add.null_const W (own_of W m) nx l s heap

    dummies_go : (tys : List Ty) (rest : List Item) (c q : ℕ) (l s : List Value) (b : List Activation) (f : Fib) (w : World) (ps : List ℕ) → has q (dummies tys rest) → length (with_dummies tys s) ≤ stack_limit W m → AreThere w.heap s
        → Reach rest c q (WRun m q l s b f w ps) l (with_dummies tys s) b f w ps
    dummies_go [] rest c q l s b f w ps h low th = here rest c q l s b f w ps h
    dummies_go (ty ∷ tys) rest c q l s b f w ps h low th =
        let more = more_dummies tys (dummy_value (vtype ty) ∷ s) in
        goes rest c q h.0 (dummy_of (vtype ty)) false l s l (dummy_value (vtype ty) ∷ s) l (with_dummies tys (dummy_value (vtype ty) ∷ s)) b f f w ps h.1 refl (pushes (vtype ty) h.0 l s w.heap) (omega (arith, low, more)) th
        (dummies_go tys rest (suc c) h.0 l (dummy_value (vtype ty) ∷ s) b f w ps h.2 low (dummy_there w.heap (vtype ty), th))

    -- the receiver of the call is that of the next record
    receivers : (t : VType) (rest : List Item) (c q : ℕ) (y : Value) (l s : List Value) (b : List Activation) (lo : List Rec) (r : Rec) (p2 : ℕ) (vs2 : List Value) (de : List Rec) (re pa : Bool) (w : World) (ps : List ℕ)
        → slice_get l (fiber_slot x.method) ≡ Some value.Fiber → RefFits W w.heap t y → has q (receiver_of x t rest) → suc (length s) ≤ stack_limit W m → AreThere w.heap s
        → Reach rest c q (WRun m q l s b (Fiber_at lo r (Saved p2 y vs2 ∷ de) re pa) w ps) l (y ∷ s) b (Fiber_at lo r (Saved p2 y vs2 ∷ de) re pa) w ps
    receivers (Object ty) rest c q y l s b lo r p2 vs2 de re pa w ps e fit h low th =
        let f = Fiber_at lo r (Saved p2 y vs2 ∷ de) re pa in
        stretch.fiber_goes set W marks most Q runs members form facts m rest c q h.0 l s l (y ∷ s) b f f w ps e h.1 (omega (arith, low)) th
        (stretch.member_goes set W marks most Q runs members form facts m rest (suc c) h.0 h.2.0 (instr.Invokevirtual (member set.program 10)) (member set.program 10) (value.Fiber ∷ []) Receiver l (value.Fiber ∷ s) s l (y ∷ s) b f f f (Some y) w ps h.2.1
        (members.alone 10 Receiver refl refl (own_of W m) h.2.0 l s w.heap) (members.named 10 Receiver refl) refl (omega (arith, low)) (tt, th)
        (goes rest (suc (suc c)) h.2.0 h.2.2.0 (instr.Checkcast ty) false l (y ∷ s) l (y ∷ s) l (y ∷ s) b f f w ps h.2.2.1 refl (fit.1 (own_of W m) h.2.2.0 l s) (omega (arith, low)) (ref_there W w.heap (Object ty) y fit, th)
        (here rest (suc (suc (suc c))) h.2.2.0 l (y ∷ s) b f w ps h.2.2.2)))
    receivers Null rest c q y l s b lo r p2 vs2 de re pa w ps e fit h low th =
        let f = Fiber_at lo r (Saved p2 y vs2 ∷ de) re pa in
        goes rest c q h.0 instr.AconstNull false l s l (y ∷ s) l (y ∷ s) b f f w ps h.1 refl
        (subst (λ (z : Value). does W (own_of W m) instr.AconstNull h.0 l s w.heap ≡ Goes h.0 l (z ∷ s) w.heap) (sym fit) (add.null_const W (own_of W m) h.0 l s w.heap)) (omega (arith, low)) th
        (here rest (suc c) h.0 l (y ∷ s) b f w ps h.2)
    receivers Int rest c q y l s b lo r p2 vs2 de re pa w ps e fit h low th = absurd fit
    receivers Long rest c q y l s b lo r p2 vs2 de re pa w ps e fit h low th = absurd fit
    receivers Top rest c q y l s b lo r p2 vs2 de re pa w ps e fit h low th = absurd fit
    receivers UninitThis rest c q y l s b lo r p2 vs2 de re pa w ps e fit h low th = absurd fit
    receivers (Uninit at) rest c q y l s b lo r p2 vs2 de re pa w ps e fit h low th = absurd fit

    receivers_if : (static : Bool) (t : VType) (rest : List Item) (c q : ℕ) (y : Value) (l s : List Value) (b : List Activation) (lo : List Rec) (r : Rec) (p2 : ℕ) (vs2 : List Value) (de : List Rec) (re pa : Bool) (w : World) (ps : List ℕ)
        → slice_get l (fiber_slot x.method) ≡ Some value.Fiber → ReceiverFits set W marks form static w.heap t y → has q (restore_receiver static x t rest) → length (with_receiver static y s) ≤ stack_limit W m → AreThere w.heap s
        → Reach rest c q (WRun m q l s b (Fiber_at lo r (Saved p2 y vs2 ∷ de) re pa) w ps) l (with_receiver static y s) b (Fiber_at lo r (Saved p2 y vs2 ∷ de) re pa) w ps
    receivers_if true t rest c q y l s b lo r p2 vs2 de re pa w ps e fit h low th = here rest c q l s b (Fiber_at lo r (Saved p2 y vs2 ∷ de) re pa) w ps h
    receivers_if false t rest c q y l s b lo r p2 vs2 de re pa w ps e fit h low th = receivers t rest c q y l s b lo r p2 vs2 de re pa w ps e fit h low th

    -- the resume block of a call: locals, stack, receiver, dummies, and on to the group
    blocks : (rest : List Item) (callee : Method) (from to n : ℕ) (self y : Value) (wl l0 s : List Value) (c q : ℕ) (b : List Activation) (lo : List Rec) (p2 : ℕ) (vs2 : List Value) (de : List Rec) (w : World) (ps : List ℕ)
        → slice_get l0 (fiber_slot x.method) ≡ Some value.Fiber → ((k : ℕ) → Among_slots (saved x from to) k → k < fiber_slot x.method) → AllFit W w.heap (below x callee from) s → SlotsFit W w.heap (saved x from to) wl
        → ReceiverFits set W marks form callee.is_static w.heap (receiver x callee from) y → has q (resume_code x callee from to rest) → suc (length (again callee y s)) ≤ stack_limit W m
        → (d : ℕ) × (d + q ≤ c + longest) × To c (WRun m q l0 [] b (Fiber_at lo (Saved n self (kept_slots (saved x from to) wl (kept_stack (below x callee from) s []))) (Saved p2 y vs2 ∷ de) true false) w ps)
        d (WRun m ((form m).at from) (put_back (saved x from to) wl l0) (again callee y s) b (Fiber_at lo (Saved n self []) (Saved p2 y vs2 ∷ de) true false) w ps)
    blocks rest callee from to n self y wl l0 s c q b lo p2 vs2 de w ps e inside fits slots recv h low =
        jumps (dummies_behind (receiver_behind (stack_behind
        (restore.restores_locals set W marks most Q runs members form facts m (saved x from to) (restore_stack x (below x callee from) (restore_receiver callee.is_static x (receiver x callee from) (dummies callee.params (added (instr.Goto ((form m).at from)) 3 ∷ rest)))) c q wl l0 b lo n self (kept_stack (below x callee from) s []) (Saved p2 y vs2 ∷ de) true false w ps e inside slots h (omega (arith, low))))))
      where
        fiber_there : slice_get (put_back (saved x from to) wl l0) (fiber_slot x.method) ≡ Some value.Fiber
        fiber_there = back_other (saved x from to) wl l0 (fiber_slot x.method) (λ z. not_self (inside (fiber_slot x.method) z)) ∙ e

        stack_behind : Reach (restore_stack x (below x callee from) (restore_receiver callee.is_static x (receiver x callee from) (dummies callee.params (added (instr.Goto ((form m).at from)) 3 ∷ rest)))) c q (WRun m q l0 [] b (Fiber_at lo (Saved n self (kept_slots (saved x from to) wl (kept_stack (below x callee from) s []))) (Saved p2 y vs2 ∷ de) true false) w ps) (put_back (saved x from to) wl l0) [] b (Fiber_at lo (Saved n self (kept_stack (below x callee from) s [])) (Saved p2 y vs2 ∷ de) true false) w ps → Reach (restore_receiver callee.is_static x (receiver x callee from) (dummies callee.params (added (instr.Goto ((form m).at from)) 3 ∷ rest))) c q (WRun m q l0 [] b (Fiber_at lo (Saved n self (kept_slots (saved x from to) wl (kept_stack (below x callee from) s []))) (Saved p2 y vs2 ∷ de) true false) w ps) (put_back (saved x from to) wl l0) s b (Fiber_at lo (Saved n self []) (Saved p2 y vs2 ∷ de) true false) w ps
        stack_behind r =
            let more = more_dummies callee.params (with_receiver callee.is_static y s) in
            let most_of = more_receiver callee.is_static y s in
            path.then_reach set W marks most Q runs m (restore_stack x (below x callee from) (restore_receiver callee.is_static x (receiver x callee from) (dummies callee.params (added (instr.Goto ((form m).at from)) 3 ∷ rest)))) (restore_receiver callee.is_static x (receiver x callee from) (dummies callee.params (added (instr.Goto ((form m).at from)) 3 ∷ rest))) c q (WRun m q l0 [] b (Fiber_at lo (Saved n self (kept_slots (saved x from to) wl (kept_stack (below x callee from) s []))) (Saved p2 y vs2 ∷ de) true false) w ps) (put_back (saved x from to) wl l0) [] (put_back (saved x from to) wl l0) s b (Fiber_at lo (Saved n self (kept_stack (below x callee from) s [])) (Saved p2 y vs2 ∷ de) true false) (Fiber_at lo (Saved n self []) (Saved p2 y vs2 ∷ de) true false) w ps r
            (restore.restores_stack set W marks most Q runs members form facts m (below x callee from) (restore_receiver callee.is_static x (receiver x callee from) (dummies callee.params (added (instr.Goto ((form m).at from)) 3 ∷ rest))) r.count r.place (put_back (saved x from to) wl l0) s b lo n self [] (Saved p2 y vs2 ∷ de) true false w ps fiber_there fits r.has (omega (arith, low, more, most_of)))

        receiver_behind : Reach (restore_receiver callee.is_static x (receiver x callee from) (dummies callee.params (added (instr.Goto ((form m).at from)) 3 ∷ rest))) c q (WRun m q l0 [] b (Fiber_at lo (Saved n self (kept_slots (saved x from to) wl (kept_stack (below x callee from) s []))) (Saved p2 y vs2 ∷ de) true false) w ps) (put_back (saved x from to) wl l0) s b (Fiber_at lo (Saved n self []) (Saved p2 y vs2 ∷ de) true false) w ps → Reach (dummies callee.params (added (instr.Goto ((form m).at from)) 3 ∷ rest)) c q (WRun m q l0 [] b (Fiber_at lo (Saved n self (kept_slots (saved x from to) wl (kept_stack (below x callee from) s []))) (Saved p2 y vs2 ∷ de) true false) w ps) (put_back (saved x from to) wl l0) (with_receiver callee.is_static y s) b (Fiber_at lo (Saved n self []) (Saved p2 y vs2 ∷ de) true false) w ps
        receiver_behind r =
            let more = more_dummies callee.params (with_receiver callee.is_static y s) in
            path.then_reach set W marks most Q runs m (restore_receiver callee.is_static x (receiver x callee from) (dummies callee.params (added (instr.Goto ((form m).at from)) 3 ∷ rest))) (dummies callee.params (added (instr.Goto ((form m).at from)) 3 ∷ rest)) c q (WRun m q l0 [] b (Fiber_at lo (Saved n self (kept_slots (saved x from to) wl (kept_stack (below x callee from) s []))) (Saved p2 y vs2 ∷ de) true false) w ps) (put_back (saved x from to) wl l0) s (put_back (saved x from to) wl l0) (with_receiver callee.is_static y s) b (Fiber_at lo (Saved n self []) (Saved p2 y vs2 ∷ de) true false) (Fiber_at lo (Saved n self []) (Saved p2 y vs2 ∷ de) true false) w ps r
            (receivers_if callee.is_static (receiver x callee from) (dummies callee.params (added (instr.Goto ((form m).at from)) 3 ∷ rest)) r.count r.place y (put_back (saved x from to) wl l0) s b lo (Saved n self []) p2 vs2 de true false w ps fiber_there recv r.has (omega (arith, low, more)) (all_there W w.heap (below x callee from) s fits))

        dummies_behind : Reach (dummies callee.params (added (instr.Goto ((form m).at from)) 3 ∷ rest)) c q (WRun m q l0 [] b (Fiber_at lo (Saved n self (kept_slots (saved x from to) wl (kept_stack (below x callee from) s []))) (Saved p2 y vs2 ∷ de) true false) w ps) (put_back (saved x from to) wl l0) (with_receiver callee.is_static y s) b (Fiber_at lo (Saved n self []) (Saved p2 y vs2 ∷ de) true false) w ps → Reach (added (instr.Goto ((form m).at from)) 3 ∷ rest) c q (WRun m q l0 [] b (Fiber_at lo (Saved n self (kept_slots (saved x from to) wl (kept_stack (below x callee from) s []))) (Saved p2 y vs2 ∷ de) true false) w ps) (put_back (saved x from to) wl l0) (again callee y s) b (Fiber_at lo (Saved n self []) (Saved p2 y vs2 ∷ de) true false) w ps
        dummies_behind r =
            path.then_reach set W marks most Q runs m (dummies callee.params (added (instr.Goto ((form m).at from)) 3 ∷ rest)) (added (instr.Goto ((form m).at from)) 3 ∷ rest) c q (WRun m q l0 [] b (Fiber_at lo (Saved n self (kept_slots (saved x from to) wl (kept_stack (below x callee from) s []))) (Saved p2 y vs2 ∷ de) true false) w ps) (put_back (saved x from to) wl l0) (with_receiver callee.is_static y s) (put_back (saved x from to) wl l0) (again callee y s) b (Fiber_at lo (Saved n self []) (Saved p2 y vs2 ∷ de) true false) (Fiber_at lo (Saved n self []) (Saved p2 y vs2 ∷ de) true false) w ps r
            (dummies_go callee.params (added (instr.Goto ((form m).at from)) 3 ∷ rest) r.count r.place (put_back (saved x from to) wl l0) (with_receiver callee.is_static y s) b (Fiber_at lo (Saved n self []) (Saved p2 y vs2 ∷ de) true false) w ps r.has (omega (arith, low)) (receiver_there w.heap callee.is_static (receiver x callee from) y s recv (all_there W w.heap (below x callee from) s fits)))

        jumps : Reach (added (instr.Goto ((form m).at from)) 3 ∷ rest) c q (WRun m q l0 [] b (Fiber_at lo (Saved n self (kept_slots (saved x from to) wl (kept_stack (below x callee from) s []))) (Saved p2 y vs2 ∷ de) true false) w ps) (put_back (saved x from to) wl l0) (again callee y s) b (Fiber_at lo (Saved n self []) (Saved p2 y vs2 ∷ de) true false) w ps → (d : ℕ) × (d + q ≤ c + longest) × To c (WRun m q l0 [] b (Fiber_at lo (Saved n self (kept_slots (saved x from to) wl (kept_stack (below x callee from) s []))) (Saved p2 y vs2 ∷ de) true false) w ps) d (WRun m ((form m).at from) (put_back (saved x from to) wl l0) (again callee y s) b (Fiber_at lo (Saved n self []) (Saved p2 y vs2 ∷ de) true false) w ps)
        jumps r =
            let g = r.has in
            let few = r.few in
            let grows = (facts m).grows r.place g.0 (instr.Goto ((form m).at from)) false g.1 in
            let within = (facts m).within r.place g.0 (instr.Goto ((form m).at from)) g.1 in (
              suc r.count,
              omega (arith, few, grows, within),
              path.joins set W marks most Q runs r.way
                  (path.one set W marks most Q runs r.count m r.place (put_back (saved x from to) wl l0) (again callee y s) b (Fiber_at lo (Saved n self []) (Saved p2 y vs2 ∷ de) true false) w ps (instr.Goto ((form m).at from)) g.0 false (Goes ((form m).at from) (put_back (saved x from to) wl l0) (again callee y s) w.heap) g.1 refl
                  (add.goto W (own_of W m) g.0 (put_back (saved x from to) wl l0) (again callee y s) w.heap ((form m).at from))
                  (path.goes_room set.program W m b w.heap ((form m).at from) (put_back (saved x from to) wl l0) (again callee y s) w.heap (omega (arith, low))) (again_there w.heap callee (below x callee from) (receiver x callee from) y s fits recv) (λ on. (on, refl, refl)) (λ on. tt)),
            )

  -- ---- one frame comes back

  slots_alike : (heap : Objects) (es : List (ℕ × VType)) (l wl : List Value) → ((k : ℕ) → Among_slots es k → slice_get l k ≡ slice_get wl k) → SlotsFit W heap es l → SlotsFit W heap es wl
  slots_alike heap [] l wl a fit = tt
  slots_alike heap (e ∷ es) l wl a fit = ((fit.0.0, sym (a e.0 (inl refl)) ∙ fit.0.1, fit.0.2), slots_alike heap es l wl (λ k z. a k (inr z)) fit.1)

  slot_there : (heap : Objects) (es : List (ℕ × VType)) (l : List Value) (k : ℕ) → SlotsFit W heap es l → Among_slots es k → (v : Value) × (slice_get l k ≡ Some v)
  slot_there heap [] l k fit a = absurd a
  slot_there heap (e ∷ es) l k fit (inl a) = (fit.0.0, subst (λ (j : ℕ). slice_get l j ≡ Some fit.0.0) a fit.0.1)
  slot_there heap (e ∷ es) l k fit (inr a) = slot_there heap es l k fit.1 a

  -- the new woven locals of a link, its place and its receiver as what its record holds
  abbrev pub with_locals : Link → List Value → Link
  with_locals (Lk m from to i callee s l wl self old was) wl2 = Lk m from to i callee s l wl2 self ((form m).number from) self

  -- right before the call, with the fiber on top of the stack
  abbrev at_call : Link → Value → List Activation → List Rec → Rec → List Rec → World → List ℕ → Woven_state
  at_call (Lk m from to i callee s l wl self old was) y b lo next deep w ps =
      WRun m ((form m).call_at from) wl (value.Fiber ∷ again callee y s) b (Fiber_at (Saved old was [] ∷ lo) next deep true false) w ps

  record Entered (k : Link) (y : Value) (c : ℕ) (args : List Value) (b : List Activation) (lo : List Rec) (next : Rec) (deep : List Rec) (w : World) (ps : List ℕ) : Type 0 where
    wl2 : List Value
    good : Good set W marks form (with_locals k wl2)
    count : ℕ
    few : count ≤ c + 2 * longest + 2
    way : To c (WRun (method_of k) 0 (entered W (method_of k) (args ++ value.Fiber ∷ [])).locals [] b (Fiber_at lo (record_of set W marks form k) (next ∷ deep) true false) w ps) count (at_call (with_locals k wl2) y b lo next deep w ps)

  enters : (target : Target) (k : Link) (c p2 : ℕ) (y : Value) (vs2 : List Value) (args : List Value) (b : List Activation) (lo : List Rec) (deep : List Rec) (w : World) (ps : List ℕ)
      → Good set W marks form k → Fit set W marks form w.heap target y k → Takes set W marks form (method_of k) args (self_of_link k) → Entered k y c args b lo (Saved p2 y vs2) deep w ps
  enters target (Lk m from to i callee s l wl self old was) c p2 y vs2 args b lo deep w ps good fit takes =
      let xx = plan_of set W marks form m in
      let g = (facts m).group from to i callee good.0 good.1 in
      let low = fit.6 in
      let high = (facts m).higher g.has_calls in
      let th = again_there w.heap callee (below xx callee from) (receiver xx callee from) y s fit.0 fit.2 in
      let n = (form m).number from in
      let l0 = (entered W m (args ++ value.Fiber ∷ [])).locals in
      let es = saved xx from to in
      let vs = kept_slots es wl (kept_stack (below xx callee from) s []) in
      let f0 = Fiber_at lo (Saved n self vs) (Saved p2 y vs2 ∷ deep) true false in
      let f1 = Fiber_at lo (Saved n self []) (Saved p2 y vs2 ∷ deep) true false in
      let f2 = Fiber_at (Saved n self [] ∷ lo) (Saved p2 y vs2) deep true false in
      let slots = slots_alike w.heap es l wl good.2 fit.1 in
      let FF = argument_slots (form m).method in
      let LL = fiber_slot (form m).method in
      let big = prologue.larger_right (form m).method.max_locals (suc FF) in
      let first : (form m).method.is_static ≡ false → slice_get l0 0 ≡ Some self = λ z. first_there m args self takes z in
      let wide = prologue.entered_length W m (args ++ value.Fiber ∷ []) in
      let st = prologue.starts set W marks most Q runs members form facts m self l0 c b lo n self vs (Saved p2 y vs2 ∷ deep) true false w ps g.has_calls
      (prologue.entered_fiber W m args FF takes.slots) first takes.is_reference wide fit.7 in
      let l1 = st.locals in
      let inside : (k : ℕ) → Among_slots es k → k < LL = λ k z. let v = slot_there w.heap es l k fit.1 z in let u = slice_get_within {A = Value} l k v.0 v.1 in let u2 = good.3.within in omega (arith, u, u2) in
      let bl = blocks m g.back_rest callee from to n self y wl l1 s st.count ((form m).block from) b lo p2 vs2 deep w ps st.sets.fiber inside fit.0 slots fit.2 g.back (omega (arith, low, high)) in
      let l2 = put_back es wl l1 in
      let to_block = subst (λ (q : ℕ). To c (WRun m 0 l0 [] b f0 w ps) st.count (WRun m q l1 [] b f0 w ps)) g.target st.way in
      let fiber2 = back_other es wl l1 LL (λ z. not_self (inside LL z)) ∙ st.sets.fiber in
      let len1 = st.sets.same_length in
      let len0 = prologue.entered_length W m (args ++ value.Fiber ∷ []) in
      let len2 = slice_get_within l1 LL value.Fiber st.sets.fiber in
      let a1 = st.few in let a2 = bl.1 in let a3 = (facts m).within st.switch st.last _ st.is_switch in
      record {
        wl2 = l2;
        good = (
          good.0,
          good.1,
          λ k z. let v = slot_there w.heap es l k fit.1 z in let i2 = inside k z in
              v.1 ∙ sym (back_same es wl l1 k v.0 z (sym (good.2 k z) ∙ v.1) (omega (arith, i2, len2))),
          record { fiber = fiber2; self_there = λ z. back_other es wl l1 (suc LL) (λ a. after_self (inside (suc LL) a)) ∙ st.sets.self z; self_none = takes.self_none; is_reference = takes.is_reference; within = good.3.within },
          good.4,
        );
        count = suc (suc bl.0);
        few = omega (arith, a1, a2, a3);
        way = path.joins set W marks most Q runs to_block (path.joins set W marks most Q runs bl.2
            (path.joins set W marks most Q runs
            (path.one set W marks most Q runs bl.0 m ((form m).at from) l2 (again callee y s) b f1 w ps (instr.Aload LL) g.down_at false (Goes g.down_at l2 (value.Fiber ∷ again callee y s) w.heap) g.load refl (add.aload W (own_of W m) g.down_at l2 (again callee y s) w.heap LL value.Fiber fiber2 add.fiber_is_reference)
            (path.goes_room set.program W m b w.heap g.down_at l2 (value.Fiber ∷ again callee y s) w.heap (omega (arith, low, high))) th (λ on. (on, refl, refl)) (λ on. tt))
            (path.calls set W marks most Q runs (suc bl.0) m g.down_at l2 (value.Fiber ∷ again callee y s) (again callee y s) b f1 w ps (instr.Invokevirtual (member set.program 1)) ((form m).call_at from) (member set.program 1) (value.Fiber ∷ []) Down g.down
            (members.alone 1 Down refl refl (own_of W m) ((form m).call_at from) l2 (again callee y s) w.heap) (members.named 1 Down refl) (omega (arith, low, high)) (tt, th))));
      }
    where
      after_self : {n : ℕ} → suc n < n → ⊥
      after_self h = omega (arith, h)

      first_there : (m : MethodId) (args : List Value) (self : Value) → Takes set W marks form m args self → (form m).method.is_static ≡ false → slice_get (entered W m (args ++ value.Fiber ∷ [])).locals 0 ≡ Some self
      first_there m args self takes z =
          let v = takes.self_first z in
          prologue.entered_argument W m args 0 (slice_get_within (slots_of args) 0 self v) ∙ v

  -- ---- all frames come back

  w_length : (links : List Link) → length (w_frames set W marks form links) ≡ count_of links
  w_length [] = refl
  w_length (Lk m from to i callee s l wl self old was ∷ ks) = ap suc (w_length ks)

  pub record Back (leaf : Native) (box : Value) (c most_new : ℕ) (x : Woven_state) (sides : List Link) (w : World) (ps : List ℕ) : Type 0 where
    pub top : Link
    pub below : List Link
    pub same : bares (top ∷ below) ≡ sides
    pub good : Good set W marks form top
    pub goods : Goods set W marks form below
    pub count : ℕ
    pub few : count ≤ c + most_new
    pub way : To c x count (at_leaf set W marks form box top below w ps)

  again_call : (k k2 : Link) (wl2 : List Value) (box : Value) (ks links : List Link) (c : ℕ) (w : World) (ps : List ℕ)
      → Good set W marks form (with_locals k wl2) → Fit set W marks form w.heap (Inner (method_of k2)) (self_of_link k2) k → suc (count_of links) < frame_limit
      → (args : List Value) × Takes set W marks form (method_of k2) args (self_of_link k2)
      × To c (at_call (with_locals k wl2) (self_of_link k2) (w_frames set W marks form links) (left_overs links) (record_of set W marks form k2) (first_record set W marks form box ks ∷ next_records set W marks form box ks) w ps)
      (suc c) (entering set W marks form box args k2 ks (with_locals k wl2 ∷ links) w ps)
  again_call (Lk m from to i callee s l wl self old was) k2 wl2 box ks links c w ps good fit room =
      let g = (facts m).group from to i callee good.0 good.1 in
      let redo = fit.3 in
      let q = (form m).up_at from in
      let n = w_length links in
      let low = good.4 in
      let high = (facts m).as_high in
      let deep = first_record set W marks form box ks ∷ next_records set W marks form box ks in
      let f = Fiber_at (Saved ((form m).number from) self [] ∷ left_overs links) (record_of set W marks form k2) deep true false in
      let y = self_of_link k2 in (
        redo.0,
        redo.2,
        subst (λ (b : Bool). To c (WRun m ((form m).call_at from) wl2 (value.Fiber ∷ again callee y s) (w_frames set W marks form links) f w ps) (suc c)
            (if b then (WRun (method_of k2) 0 (entered W (method_of k2) (redo.0 ++ value.Fiber ∷ [])).locals [] (frame m q wl2 s ∷ w_frames set W marks form links) f w ps) else ending set w WStop cause.Depth))
            (lt-ltb (length (frame m q wl2 s ∷ w_frames set W marks form links)) frame_limit (omega (arith, n, room)))
            (path.one set W marks most Q runs c m ((form m).call_at from) wl2 (value.Fiber ∷ again callee y s) (w_frames set W marks form links) f w ps i q true
            (Calls (method_of k2) (redo.0 ++ value.Fiber ∷ []) q wl2 s w.heap) g.call refl
            (hands m from i callee to q wl2 wl2 (again callee y s) w.heap good.0 good.1 fit.4 fit.5 ∙ ap (handed q wl2) (redo.1 wl2 s))
            (path.calls_room set.program W m (w_frames set W marks form links) w.heap (method_of k2) (redo.0 ++ value.Fiber ∷ []) q wl2 s w.heap (omega (arith, low, high))) (tt, again_there w.heap callee (below (plan_of set W marks form m) callee from) (receiver (plan_of set W marks form m) callee from) y s fit.0 fit.2) (λ on. absurd (false≢true on)) (λ on. tt)),
      )

  pub rewinds : (leaf : Native) (box : Value) (ks : List Link) (k : Link) (links : List Link) (args : List Value) (c : ℕ) (w : World) (ps : List ℕ)
      → Goods set W marks form links → Chained set W marks form w.heap leaf box (k ∷ ks) → Takes set W marks form (method_of k) args (self_of_link k) → count_of links + suc (count_of ks) ≤ frame_limit
      → Back leaf box c (suc (count_of ks) * (2 * longest + 3)) (entering set W marks form box args k ks links w ps) (rev_onto (bares (k ∷ ks)) (bares links)) w ps
  rewinds leaf box [] k links args c w ps goods chain takes room =
      let e = enters (Leaf leaf) k c 0 box [] args (w_frames set W marks form links) (left_overs links) [] w ps chain.0.0 chain.0.1 takes in
      let a = e.few in
      back_at k e.wl2 e.count (omega (arith, a)) e.good e.way
    where
      back_at : (k : Link) (wl2 : List Value) (d : ℕ) → d ≤ c + (suc 0) * (2 * longest + 3) → Good set W marks form (with_locals k wl2)
          → To c (entering set W marks form box args k [] links w ps) d (at_call (with_locals k wl2) box (w_frames set W marks form links) (left_overs links) (Saved 0 box []) [] w ps)
          → Back leaf box c (suc 0 * (2 * longest + 3)) (entering set W marks form box args k [] links w ps) (rev_onto (bares (k ∷ [])) (bares links)) w ps
      back_at (Lk m from to i callee s l wl self old was) wl2 d few good way =
          record { top = Lk m from to i callee s l wl2 self ((form m).number from) self; below = links; same = refl; good = good; goods = goods; count = d; few = few; way = way }
  rewinds leaf box (k2 ∷ ks) k links args c w ps goods chain takes room =
      let e = next_enters k2 chain.0.1 in
      let call = again_call k k2 e.wl2 box ks links e.count w ps e.good chain.0.1 (omega (arith, room)) in
      let r = rewinds leaf box ks k2 (with_locals k e.wl2 ∷ links) call.0 (suc e.count) w ps (e.good, goods) chain.1 call.1 (omega (arith, room)) in
      let a = e.few in let a2 = r.few in
      record {
        top = r.top;
        below = r.below;
        same = r.same ∙ same_frame k e.wl2;
        good = r.good;
        goods = r.goods;
        count = r.count;
        few = omega (arith, a, a2);
        way = path.joins set W marks most Q runs e.way (path.joins set W marks most Q runs call.2 r.way);
      }
    where
      next_enters : (k2 : Link) → Fit set W marks form w.heap (Inner (method_of k2)) (self_of_link k2) k → Entered k (self_of_link k2) c args (w_frames set W marks form links) (left_overs links) (record_of set W marks form k2) (first_record set W marks form box ks ∷ next_records set W marks form box ks) w ps
      next_enters (Lk m from to i callee s l wl self old was) fit =
          enters (Inner m) k c ((form m).number from) self (kept_slots (saved (plan_of set W marks form m) from to) wl (kept_stack (below (plan_of set W marks form m) callee from) s [])) args
          (w_frames set W marks form links) (left_overs links) (first_record set W marks form box ks ∷ next_records set W marks form box ks) w ps chain.0.0 fit takes

      same_frame : (k : Link) (wl2 : List Value) → rev_onto (bares (k2 ∷ ks)) (bares (with_locals k wl2 ∷ links)) ≡ rev_onto (bares (k2 ∷ ks)) (bare k ∷ bares links)
      same_frame (Lk m from to i callee s l wl self old was) wl2 = refl
