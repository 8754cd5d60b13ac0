-- An exception goes through the groups of a woven fiber as it goes through the frames of its thread: each handling block lowers the level and
-- drops its record in three steps, and throws on. One that is caught stands at the moved handler; one that isn't ends both.
use Rattle.std.proofs.Common.{◌≡◌, ℕ, zero, suc, ◌+◌, ◌*◌, ◌≤◌, Bool, true, false, List, [], ◌∷◌, pos, Option, Some, None, refl, sym, ap, subst, ◌∙◌, arith}
use Rattle.std.proofs.lemmas.Bool.{false≢true}
use Rattle.std.specs.FinMap.{get}
use Rattle.kilim_program.specs.declared.class.Handler.{Handler}
use Rattle.kilim_program.specs.declared.class.Method.{Method}
use Rattle.kilim_program.specs.declared.instr.Instr.{Instr}
use Rattle.kilim_program.specs.declared.instr.Instr.TheVariants as instr
use Rattle.kilim_program.specs.declared.names.ClassId.{ClassId}
use Rattle.kilim_program.specs.declared.names.MethodId.{MethodId}
use Rattle.kilim_program.specs.declared.ty.Base.{Base}
use Rattle.kilim_program.specs.declared.ty.Base.TheVariants as base
use Rattle.kilim_program.specs.declared.value.Value.{Value}
use Rattle.kilim_program.specs.declared.value.Value.TheVariants as value
use Rattle.kilim_program.specs.Names.{method_at}
use Rattle.kilim_program.specs.Program.{Program}
use Rattle.kilim_run_state.specs.declared.cause.EndCause.{EndCause}
use Rattle.kilim_run_state.specs.declared.value.Object.{Object}
use Rattle.kilim_run_state.specs.Machine.{Activation, Objects}
use Rattle.kilim_run_machine.specs.Does.{does, throws_object}
use Rattle.kilim_run_machine.specs.Effect.{Goes, Throws, with_some}
use Rattle.kilim_run_machine.specs.Natives.{Up}
use Rattle.kilim_run_machine.specs.Raising.{IsEntry, call_in, caught_behind, caught_by, caught_in, covers, handler_of, or_below, thrown, thrown_cause, unwound}
use Rattle.kilim_run_interp.specs.Step.{stack_limit}
use Rattle.kilim_run_model.specs.State.{Setting}
use Rattle.kilim_type_sound.specs.Fits.{AreThere}
use Rattle.kilim_type_sound.proofs.Caught.{found}
use Rattle.kilim_weave_spec.specs.Woven.{fiber_slot, member, pausable_callee}
use Rattle.kilim_fiber_spec.specs.Acts.{World, ending, thrown_to}
use Rattle.kilim_fiber_spec.specs.Fibers.{Fib, Fiber_at, Rec, Saved, Woven_state, WRun, WStop, frame, wstands_at, wstep}
use Rattle.kilim_fiber_spec.specs.Form.{Facts, Members}
use Rattle.kilim_fiber_spec.specs.Links.{Both, Fine, Fine_at, Forms, Fw, Good, Goods, Held, Link, Lk, PLink, Pk, Stacked, code, left_overs, u_frames, u_stack, unwoven, w_frames, w_stack, woven}
use Rattle.kilim_fiber_spec.specs.Runs.{idle, stop}
use Rattle.kilim_fiber_spec.specs.Thread.{At, Frame, Stop, Thread, fetch, left_at, left_behind, or_left, own_of, stands_at}
use Rattle.kilim_fiber_laws.specs.simulation.Handling.{AlikeCaught, AllBehind, Behind, Block, Blocks, Moves, Tables, handlers_in, handlers_of, throws_at}
use Rattle.kilim_fiber_laws.proofs.simulation.Added as add
use Rattle.kilim_fiber_laws.proofs.simulation.Paths as path
use Rattle.kilim_fiber_laws.proofs.simulation.Still.{StepIsKnown}
use Rattle.kilim_fiber_laws.proofs.simulation.Unwinds.{count_of}

-- a frame's table is asked by its entries
in_table : (p : Program) (c : ClassId) (v : Value) (a : Activation) (at : ℕ) (o : Option Method) → caught_in p c v a at o ≡ caught_by a v (handler_of p c at (handlers_in o))
in_table p c v a at None = refl
in_table p c v a at (Some m) = refl

-- what an `athrow` does
pub throws_on : (W : Program) (own : Method) (nx : ℕ) (l s : List Value) (heap : Objects) (n : ℕ) (object : Object) (c : ClassId) → get heap n ≡ Some object → object.class.dims ≡ zero → object.class.base ≡ base.Class c
    → does W own instr.Athrow nx l (value.Ref n ∷ s) heap ≡ Throws n c (thrown_cause W c)
unfolding does
throws_on W own nx l s heap n object c there dims class =
    ap (λ (o : Option Object). with_some o (λ (x : Object). throws_object W n x.class.dims x.class.base)) there
    ∙ ap (λ (k : ℕ). throws_object W n k object.class.base) dims
    ∙ ap (λ (b : Base). throws_object W n zero b) class

module _ (set : Setting) (W : Program) (marks : List (List Bool)) (most : ℕ) (Q : Woven_state → Type 0)
    (runs : (m : MethodId) (p : ℕ) (l s : List Value) (b : List Activation) (f : Fib) (w : World) (ps : List ℕ) → StepIsKnown set W marks (WRun m p l s b f w ps) → AreThere w.heap s → Q (WRun m p l s b f w ps))
    (members : Members set.program W) (form : Forms set W marks) (facts : (m : MethodId) → Facts set.program W (code set W marks) (form m)) (blocks : Blocks set W marks form)
    (c0 : ClassId) (tables : Tables set W marks form blocks c0) (n : ℕ) (object : Object) (dims : object.class.dims ≡ zero) (class : object.class.base ≡ base.Class c0)
    -- where it is caught the world is `after`; where nothing catches it, the thread ends in w0
    (w0 after : World) (ps : List ℕ) (why : EndCause) (there : get after.heap n ≡ Some object) (word : thrown_cause W c0 ≡ why) where
  abbrev To : ℕ → Woven_state → ℕ → Woven_state → Type 0
  To c x d y = path.To set W marks most Q runs c x d y

  abbrev v : Value
  v = value.Ref n

  abbrev P : Program
  P = set.program

  -- the thread, and the fiber, where these frames are left
  abbrev pub goes_to : List Frame → Thread
  goes_to left = thrown_to set Stop (stands_at set) w0 why after left

  abbrev pub wgoes_to : Fib → List Activation → Woven_state
  wgoes_to f left = thrown_to set WStop (wstands_at set W marks f ps) after why after left

  abbrev ov_of : Both → List PLink
  ov_of (Fw m p s l wl x ov links old was w ps) = ov

  -- what comes of both: a frame at its handler, or the end; at most four instructions more for each frame that stands at a pausable call
  pub data Handled (few : ℕ) (u : Thread) (c : ℕ) (x : Woven_state) : Type 0 where
    Lands : (t : Both) → u ≡ unwoven t → (d : ℕ) → d ≤ c + few → To c x d (woven set W marks form t) → Fine set W marks form t → AllBehind set W marks form (ov_of t) → Handled few u c x
    Nobody : u ≡ ending set w0 Stop why → (d : ℕ) → d ≤ c + few → To c x d (ending set after WStop why) → Handled few u c x

  behind_way : (few many c d : ℕ) (u : Thread) (x y : Woven_state) → few + d ≤ many + c → To c x d y → Handled few u d y → Handled many u c x
  behind_way few many c d u x y le a (Lands t e k lt b fine ov) = Lands t e k (omega (arith, le, lt)) (path.joins set W marks most Q runs a b) fine ov
  behind_way few many c d u x y le a (Nobody e k lt b) = Nobody e k (omega (arith, le, lt)) (path.joins set W marks most Q runs a b)

  -- ---- the handling block

  module _ (m : MethodId) (from to : ℕ) (i : Instr) (callee : Method) (s l wl : List Value) (self : Value) (old : ℕ) (was : Value) (good : Good set W marks form (Lk m from to i callee s l wl self old was)) where
    abbrev block : Block set W marks form m from to callee
    block = blocks m from to i callee good.0 good.1

    held_true : (b : Bool) → b ≡ true → Held set W marks form b m l wl self
    held_true true e = good.3
    held_true false e = absurd (false≢true e)

    high : stack_limit set.program m + 4 ≤ stack_limit W m
    high = (facts m).higher ((facts m).group from to i callee good.0 good.1).has_calls

    -- the level is lowered again, and its record is dropped
    lowered : (links : List Link) (r : Rec) (c : ℕ)
        → To c (WRun m (blocks m from to i callee good.0 good.1).handled wl (value.Ref n ∷ []) (w_frames set W marks form links) (Fiber_at (Saved old was [] ∷ left_overs links) r [] false false) after ps)
        (suc (suc (suc c))) (WRun m (throws_at set W marks form (blocks m from to i callee good.0 good.1)) wl (value.Ref n ∷ []) (w_frames set W marks form links) (Fiber_at (left_overs links) (Saved old was []) [] false false) after ps)
    lowered links r c =
        let g = blocks m from to i callee good.0 good.1 in
        let h = g.stands in
        let tall = high in
        let b = w_frames set W marks form links in
        let lo = left_overs links in
        let f0 = Fiber_at (Saved old was [] ∷ lo) r [] false false in
        let f1 = Fiber_at lo (Saved old was []) [] false false in
        let LL = fiber_slot (form m).method in
        let th : AreThere after.heap (value.Ref n ∷ []) = ((object, there), tt) in
        path.joins set W marks most Q runs
        (path.one set W marks most Q runs c m g.handled wl (value.Ref n ∷ []) b f0 after ps (instr.Aload LL) h.0 false (Goes h.0 wl (value.Fiber ∷ value.Ref n ∷ []) after.heap) h.1 refl (add.aload W (own_of W m) h.0 wl (value.Ref n ∷ []) after.heap LL value.Fiber good.3.fiber add.fiber_is_reference)
        (path.goes_room set.program W m b after.heap h.0 wl (value.Fiber ∷ value.Ref n ∷ []) after.heap (omega (arith, tall))) th (λ on. (on, refl, refl)) (λ on. tt))
        (path.joins set W marks most Q runs
        (path.calls set W marks most Q runs (suc c) m h.0 wl (value.Fiber ∷ value.Ref n ∷ []) (value.Ref n ∷ []) b f0 after ps (instr.Invokevirtual (member set.program 2)) h.2.0 (member set.program 2) (value.Fiber ∷ []) Up h.2.1
        (members.alone 2 Up refl refl (own_of W m) h.2.0 wl (value.Ref n ∷ []) after.heap) (members.named 2 Up refl) (omega (arith, tall)) (tt, th))
        (path.one set W marks most Q runs (suc (suc c)) m h.2.0 wl (value.Int (pos 0) ∷ value.Ref n ∷ []) b f1 after ps instr.Pop h.2.2.0 false (Goes h.2.2.0 wl (value.Ref n ∷ []) after.heap) h.2.2.1 refl (add.pop W (own_of W m) h.2.2.0 wl (value.Ref n ∷ []) after.heap (value.Int (pos 0)) refl)
        (path.goes_room set.program W m b after.heap h.2.2.0 wl (value.Ref n ∷ []) after.heap (omega (arith, tall))) (tt, th) (λ on. (on, refl, refl)) (λ on. tt)))

    -- one `athrow`, which doesn't count
    throws : (links : List Link) (c : ℕ) → let f1 = Fiber_at (left_overs links) (Saved old was []) [] false false in
        To c (WRun m (throws_at set W marks form (blocks m from to i callee good.0 good.1)) wl (value.Ref n ∷ []) (w_frames set W marks form links) f1 after ps)
        (suc c) (wgoes_to f1 (thrown W c0 (value.Ref n) (frame m (throws_at set W marks form (blocks m from to i callee good.0 good.1)) wl (value.Ref n ∷ [])) (w_frames set W marks form links)))
    throws links c =
        let h = (blocks m from to i callee good.0 good.1).stands in
        let b = w_frames set W marks form links in
        let f1 = Fiber_at (left_overs links) (Saved old was []) [] false false in
        let q = throws_at set W marks form (blocks m from to i callee good.0 good.1) in
        let th : AreThere after.heap (value.Ref n ∷ []) = ((object, there), tt) in
        let does_so : does W (own_of W m) instr.Athrow h.2.2.2.0 wl (value.Ref n ∷ []) after.heap ≡ Throws n c0 why = throws_on W (own_of W m) h.2.2.2.0 wl [] after.heap n object c0 there dims class ∙ ap (λ (z : EndCause). Throws n c0 z) word in
        idle
        (runs m q wl (value.Ref n ∷ []) b f1 after ps
        (path.next_room set W marks m q wl (value.Ref n ∷ []) b f1 after ps instr.Athrow h.2.2.2.0 false (Throws n c0 why) h.2.2.2.1 does_so (record { unstuck = refl; fits = omega arith; result = tt }, tt, tt) (λ on. absurd (false≢true on)) (λ on. absurd (false≢true on))) th)
        (subst (λ (z : Woven_state). To (suc c) (wstep set W marks (WRun m q wl (value.Ref n ∷ []) b f1 after ps)) (suc c) z)
        (path.found set W marks most Q runs m q wl (value.Ref n ∷ []) b f1 after ps instr.Athrow h.2.2.2.0 false false (Throws n c0 why) h.2.2.2.1 refl does_so) stop)

    -- the frame at a handler whose range has the call
    stands : (links : List Link) (h : Handler) → Goods set W marks form links → IsEntry (handlers_of set.program m) h → covers h from ≡ true → Fine_at set W marks form m h.at l wl self [] links
    stands links h goods among covering =
        let g = blocks m from to i callee good.0 good.1 in
        record { alike = λ k z. good.2 k (g.kept h k among covering z); held = held_true (form m).has_calls ((facts m).group from to i callee good.0 good.1).has_calls; stacked = goods }

    -- from the block on; what comes below is given
    block_handled : (links : List Link) → Goods set W marks form links → (r : Rec) (c : ℕ) (p : ℕ) (s1 : List Value)
        → Handled (4 * count_of links) (goes_to (left_behind set.program c0 (value.Ref n) (u_frames links))) (suc (suc (suc (suc c)))) (wgoes_to (Fiber_at (left_overs links) (Saved old was []) [] false false) (unwound W c0 (value.Ref n) (w_frames set W marks form links)))
        → Handled (4 * suc (count_of links)) (goes_to (or_left self (caught_by (frame m p l s1) (value.Ref n) (handler_of set.program c0 from (handlers_of set.program m))) (u_frames links) (left_behind set.program c0 (value.Ref n) (u_frames links)))) c
        (WRun m (blocks m from to i callee good.0 good.1).handled wl (value.Ref n ∷ []) (w_frames set W marks form links) (Fiber_at (Saved old was [] ∷ left_overs links) r [] false false) after ps)
    block_handled links goods r c p s1 again = by (handler_of set.program c0 from (handlers_of set.program m)) (handler_of W c0 (throws_at set W marks form (blocks m from to i callee good.0 good.1)) (handlers_of W m)) refl (tables.block m from to i callee good.0 good.1)
        (subst (λ (o : Option Activation). To c (WRun m (blocks m from to i callee good.0 good.1).handled wl (value.Ref n ∷ []) (w_frames set W marks form links) (Fiber_at (Saved old was [] ∷ left_overs links) r [] false false) after ps) (suc (suc (suc (suc c))))
        (wgoes_to (Fiber_at (left_overs links) (Saved old was []) [] false false) (or_below o (w_frames set W marks form links) (unwound W c0 (value.Ref n) (w_frames set W marks form links)))))
        (in_table W c0 (value.Ref n) (frame m (throws_at set W marks form (blocks m from to i callee good.0 good.1)) wl (value.Ref n ∷ [])) (throws_at set W marks form (blocks m from to i callee good.0 good.1)) (method_at W m))
        (path.joins set W marks most Q runs (lowered links r c) (throws links (suc (suc (suc c))))))
      where
        by : (o q : Option Handler) → handler_of set.program c0 from (handlers_of set.program m) ≡ o → Moves (form m).at o q
            → To c (WRun m (blocks m from to i callee good.0 good.1).handled wl (value.Ref n ∷ []) (w_frames set W marks form links) (Fiber_at (Saved old was [] ∷ left_overs links) r [] false false) after ps) (suc (suc (suc (suc c))))
            (wgoes_to (Fiber_at (left_overs links) (Saved old was []) [] false false) (or_below (caught_by (frame m (throws_at set W marks form (blocks m from to i callee good.0 good.1)) wl (value.Ref n ∷ [])) (value.Ref n) q) (w_frames set W marks form links) (unwound W c0 (value.Ref n) (w_frames set W marks form links))))
            → Handled (4 * suc (count_of links)) (goes_to (or_left self (caught_by (frame m p l s1) (value.Ref n) o) (u_frames links) (left_behind set.program c0 (value.Ref n) (u_frames links)))) c
            (WRun m (blocks m from to i callee good.0 good.1).handled wl (value.Ref n ∷ []) (w_frames set W marks form links) (Fiber_at (Saved old was [] ∷ left_overs links) r [] false false) after ps)
        by None None eo moves way = behind_way (4 * count_of links) (4 * suc (count_of links)) c (suc (suc (suc (suc c)))) _ _ _ (omega arith) way again
        by (Some h) (Some k) eo moves way =
            let f = found set.program c0 from (handlers_of set.program m) h eo in
            Lands (Fw m h.at (value.Ref n ∷ []) l wl self [] links old was after ps) refl (suc (suc (suc (suc c)))) (omega arith)
            (subst (λ (z : ℕ). To c (WRun m (blocks m from to i callee good.0 good.1).handled wl (value.Ref n ∷ []) (w_frames set W marks form links) (Fiber_at (Saved old was [] ∷ left_overs links) r [] false false) after ps) (suc (suc (suc (suc c))))
            (WRun m z wl (value.Ref n ∷ []) (w_frames set W marks form links) (Fiber_at (left_overs links) (Saved old was []) [] false false) after ps)) moves way)
            (stands links h goods f.among f.covers_it) tt
        by None (Some k) eo moves way = absurd moves
        by (Some h) None eo moves way = absurd moves

    -- the call of the group finds its block, whatever stands on the stack
    to_block : (q : ℕ) (s2 : List Value) (rest below : List Activation) → or_below (caught_by (frame m q wl s2) (value.Ref n) (handler_of W c0 ((form m).call_at from) (handlers_of W m))) rest below ≡ frame m (blocks m from to i callee good.0 good.1).handled wl (value.Ref n ∷ []) ∷ rest
    to_block q s2 rest below =
        let t = tables.call m from to i callee good.0 good.1 in
        ap (λ (o : Option Handler). or_below (caught_by (frame m q wl s2) (value.Ref n) o) rest below) t.1
        ∙ ap (λ (k : ℕ). frame m k wl (value.Ref n ∷ []) ∷ rest) t.2

    -- the thread's frame is asked at the call behind which it stands
    at_call : (rest later : List Frame) → or_left self (caught_behind set.program c0 (value.Ref n) (frame m to l s) (call_in (method_at set.program m) to)) rest later
        ≡ or_left self (caught_by (frame m to l s) (value.Ref n) (handler_of set.program c0 from (handlers_of set.program m))) rest later
    at_call rest later =
        ap (λ (o : Option (ℕ × Instr)). or_left self (caught_behind set.program c0 (value.Ref n) (frame m to l s) o) rest later) (tables.behind m from to i good.0)
        ∙ ap (λ (o : Option Activation). or_left self o rest later) (in_table set.program c0 (value.Ref n) (frame m to l s) from (method_at set.program m))

    -- and so is the woven one
    wat_call : (rest below : List Activation) → or_below (caught_behind W c0 (value.Ref n) (frame m ((form m).up_at from) wl s) (call_in (method_at W m) ((form m).up_at from))) rest below ≡ frame m (blocks m from to i callee good.0 good.1).handled wl (value.Ref n ∷ []) ∷ rest
    wat_call rest below =
        let t = tables.behind_call m from to i callee good.0 good.1 in
        ap (λ (o : Option (ℕ × Instr)). or_below (caught_behind W c0 (value.Ref n) (frame m ((form m).up_at from) wl s) o) rest below) t.1
        ∙ (ap (λ (o : Option Activation). or_below o rest below) (in_table W c0 (value.Ref n) (frame m ((form m).up_at from) wl s) ((form m).call_at from) (method_at W m))
        ∙ to_block ((form m).up_at from) s rest below)

  -- ---- frames that stand at pausable calls

  pub links_handled : (links : List Link) (r : Rec) (c : ℕ) → Goods set W marks form links
      → Handled (4 * count_of links) (goes_to (left_behind set.program c0 (value.Ref n) (u_frames links))) c (wgoes_to (Fiber_at (left_overs links) r [] false false) (unwound W c0 (value.Ref n) (w_frames set W marks form links)))
  links_handled [] r c goods = Nobody refl c (omega arith) stop
  links_handled (Lk m from to i callee s l wl self old was ∷ links) r c goods =
      subst (λ (left : List Frame). Handled (4 * count_of (Lk m from to i callee s l wl self old was ∷ links)) (goes_to left) c (wgoes_to (Fiber_at (Saved old was [] ∷ left_overs links) r [] false false) (unwound W c0 (value.Ref n) (w_frames set W marks form (Lk m from to i callee s l wl self old was ∷ links)))))
      (sym (at_call m from to i callee s l wl self old was goods.0 (u_frames links) (left_behind set.program c0 (value.Ref n) (u_frames links))))
      (subst (λ (left : List Activation). Handled (4 * suc (count_of links)) (goes_to (or_left self (caught_by (frame m to l s) (value.Ref n) (handler_of set.program c0 from (handlers_of set.program m))) (u_frames links) (left_behind set.program c0 (value.Ref n) (u_frames links)))) c (wgoes_to (Fiber_at (Saved old was [] ∷ left_overs links) r [] false false) left))
      (sym (wat_call m from to i callee s l wl self old was goods.0 (w_frames set W marks form links) (unwound W c0 (value.Ref n) (w_frames set W marks form links))))
      (block_handled m from to i callee s l wl self old was goods.0 links goods.1 r c to s (links_handled links (Saved old was []) (suc (suc (suc (suc c)))) goods.1)))

  -- ---- what is left at once: nothing, a frame at its handler, or the block of the first group

  pub data IsLeft (links : List Link) (left : List Frame) (wleft : List Activation) : Type 0 where
    AreGone : left ≡ [] → wleft ≡ [] → IsLeft links left wleft
    IsCaught : (m : MethodId) (q : ℕ) (l wl : List Value) (x : Value) (ov : List PLink) → left ≡ At m q l (value.Ref n ∷ []) x ∷ u_stack ov links → wleft ≡ frame m ((form m).at q) wl (value.Ref n ∷ []) ∷ w_stack set W marks form ov links
        → Fine_at set W marks form m q l wl x ov links → AllBehind set W marks form ov → IsLeft links left wleft
    InGroup : (a : Activation) (rest : List Activation) → wleft ≡ a ∷ rest
        → ((r : Rec) (c : ℕ) → Handled (4 * count_of links) (goes_to left) c (wgoes_to (Fiber_at (left_overs links) r [] false false) wleft)) → IsLeft links left wleft

  links_left : (links : List Link) → Goods set W marks form links → IsLeft links (left_behind set.program c0 (value.Ref n) (u_frames links)) (unwound W c0 (value.Ref n) (w_frames set W marks form links))
  links_left [] goods = AreGone refl refl
  links_left (Lk m from to i callee s l wl self old was ∷ links) goods =
      InGroup (frame m (blocks m from to i callee goods.0.0 goods.0.1).handled wl (value.Ref n ∷ [])) (w_frames set W marks form links)
      (wat_call m from to i callee s l wl self old was goods.0 (w_frames set W marks form links) (unwound W c0 (value.Ref n) (w_frames set W marks form links)))
      (λ r c. links_handled (Lk m from to i callee s l wl self old was ∷ links) r c goods)

  -- ---- frames at other calls above them

  -- a frame, whose table is asked on both sides
  at_frame : (m : MethodId) (p p1 q1 : ℕ) (l wl s1 s2 : List Value) (x : Value) (ov : List PLink) (links : List Link) → Held set W marks form (form m).has_calls m l wl x → Stacked set W marks form m ov links → AllBehind set W marks form ov
      → AlikeCaught set W marks form m p l wl → (o k : Option Handler) → handler_of set.program c0 p (handlers_of set.program m) ≡ o → Moves (form m).at o k → (left : List Frame) (wleft : List Activation) → IsLeft links left wleft
      → IsLeft links (or_left x (caught_by (frame m p1 l s1) (value.Ref n) o) (u_stack ov links) left) (or_below (caught_by (frame m q1 wl s2) (value.Ref n) k) (w_stack set W marks form ov links) wleft)
  at_frame m p p1 q1 l wl s1 s2 x ov links held below behind caught None None eo moves left wleft again = again
  at_frame m p p1 q1 l wl s1 s2 x ov links held below behind caught (Some h) (Some k) eo moves left wleft again =
      let f = found set.program c0 p (handlers_of set.program m) h eo in
      IsCaught m h.at l wl x ov refl (ap (λ (z : ℕ). frame m z wl (value.Ref n ∷ []) ∷ w_stack set W marks form ov links) moves)
      (record { alike = λ j z. caught h j f.among f.covers_it z; held = held; stacked = below }) behind
  at_frame m p p1 q1 l wl s1 s2 x ov links held below behind caught None (Some k) eo moves left wleft again = absurd moves
  at_frame m p p1 q1 l wl s1 s2 x ov links held below behind caught (Some h) None eo moves left wleft again = absurd moves

  -- at an instruction, or behind it
  in_tables : (m : MethodId) (p q p1 q1 : ℕ) (l wl s1 s2 : List Value) (x : Value) (ov : List PLink) (links : List Link) → Held set W marks form (form m).has_calls m l wl x → Stacked set W marks form m ov links → AllBehind set W marks form ov
      → AlikeCaught set W marks form m p l wl → Moves (form m).at (handler_of set.program c0 p (handlers_of set.program m)) (handler_of W c0 q (handlers_of W m)) → (left : List Frame) (wleft : List Activation) → IsLeft links left wleft
      → IsLeft links (or_left x (caught_in set.program c0 (value.Ref n) (frame m p1 l s1) p (method_at set.program m)) (u_stack ov links) left) (or_below (caught_in W c0 (value.Ref n) (frame m q1 wl s2) q (method_at W m)) (w_stack set W marks form ov links) wleft)
  in_tables m p q p1 q1 l wl s1 s2 x ov links held below behind caught moves left wleft again =
      subst (λ (o : Option Activation). IsLeft links (or_left x o (u_stack ov links) left) (or_below (caught_in W c0 (value.Ref n) (frame m q1 wl s2) q (method_at W m)) (w_stack set W marks form ov links) wleft))
      (sym (in_table set.program c0 (value.Ref n) (frame m p1 l s1) p (method_at set.program m)))
      (subst (λ (o : Option Activation). IsLeft links (or_left x (caught_by (frame m p1 l s1) (value.Ref n) (handler_of set.program c0 p (handlers_of set.program m))) (u_stack ov links) left) (or_below o (w_stack set W marks form ov links) wleft))
      (sym (in_table W c0 (value.Ref n) (frame m q1 wl s2) q (method_at W m)))
      (at_frame m p p1 q1 l wl s1 s2 x ov links held below behind caught (handler_of set.program c0 p (handlers_of set.program m)) (handler_of W c0 q (handlers_of W m)) refl moves left wleft again))

  -- behind its call
  one_behind : (m : MethodId) (to : ℕ) (l wl s : List Value) (x : Value) (ov : List PLink) (links : List Link) → Held set W marks form (form m).has_calls m l wl x → Stacked set W marks form m ov links → AllBehind set W marks form ov → Behind set W marks form m to l wl
      → (left : List Frame) (wleft : List Activation) → IsLeft links left wleft
      → IsLeft links (or_left x (caught_behind set.program c0 (value.Ref n) (frame m to l s) (call_in (method_at set.program m) to)) (u_stack ov links) left)
      (or_below (caught_behind W c0 (value.Ref n) (frame m ((form m).at to) wl s) (call_in (method_at W m) ((form m).at to))) (w_stack set W marks form ov links) wleft)
  one_behind m to l wl s x ov links held below behind b left wleft again =
      let from = b.0 in
      let t = tables.behind_plain m from to b.1 b.2 b.3 in
      subst (λ (o : Option (ℕ × Instr)). IsLeft links (or_left x (caught_behind set.program c0 (value.Ref n) (frame m to l s) o) (u_stack ov links) left) (or_below (caught_behind W c0 (value.Ref n) (frame m ((form m).at to) wl s) (call_in (method_at W m) ((form m).at to))) (w_stack set W marks form ov links) wleft))
      (sym (tables.behind m from to b.1 b.2))
      (subst (λ (o : Option (ℕ × Instr)). IsLeft links (or_left x (caught_in set.program c0 (value.Ref n) (frame m to l s) from (method_at set.program m)) (u_stack ov links) left) (or_below (caught_behind W c0 (value.Ref n) (frame m ((form m).at to) wl s) o) (w_stack set W marks form ov links) wleft))
      (sym t.1)
      (in_tables m from ((form m).at from) to ((form m).at to) l wl s s x ov links held below behind b.4 (tables.plain m from to b.1 b.2 b.3) left wleft again))

  frames_left : (above : MethodId) (ov : List PLink) (links : List Link) → Stacked set W marks form above ov links → AllBehind set W marks form ov → IsLeft links (left_behind set.program c0 (value.Ref n) (u_stack ov links)) (unwound W c0 (value.Ref n) (w_stack set W marks form ov links))
  frames_left above [] links stacked behind = links_left links stacked
  frames_left above (Pk m to s l wl x ∷ ov) links stacked behind = one_behind m to l wl s x ov links stacked.2 stacked.3 behind.1 behind.0 _ _ (frames_left m ov links stacked.3 behind.1)

  -- a built-in method raises, behind whose call the top frame stands
  pub behind_left : (m : MethodId) (to : ℕ) (l wl s : List Value) (x : Value) (ov : List PLink) (links : List Link) → Fine_at set W marks form m to l wl x ov links → AllBehind set W marks form ov → Behind set W marks form m to l wl
      → IsLeft links (left_behind set.program c0 (value.Ref n) (At m to l s x ∷ u_stack ov links)) (unwound W c0 (value.Ref n) (frame m ((form m).at to) wl s ∷ w_stack set W marks form ov links))
  behind_left m to l wl s x ov links fine behind b = one_behind m to l wl s x ov links fine.held fine.stacked behind b _ _ (frames_left m ov links fine.stacked behind)

  -- an old instruction raises or throws
  pub old_left : (m : MethodId) (p to : ℕ) (i : Instr) (l wl s : List Value) (x : Value) (ov : List PLink) (links : List Link) → fetch set.program m p ≡ Some (i, to) → pausable_callee set.program i ≡ None
      → Fine_at set W marks form m p l wl x ov links → AllBehind set W marks form ov → AlikeCaught set W marks form m p l wl
      → IsLeft links (left_at set.program c0 (value.Ref n) (frame m p l s) x (u_stack ov links)) (thrown W c0 (value.Ref n) (frame m ((form m).at p) wl s) (w_stack set W marks form ov links))
  old_left m p to i l wl s x ov links is plain fine behind caught =
      in_tables m p ((form m).at p) p ((form m).at p) l wl s s x ov links fine.held fine.stacked behind caught (tables.plain m p to i is plain) _ _ (frames_left m ov links fine.stacked behind)

  -- a pausable call raises by itself, with the fiber on its stack
  pub call_left : (m : MethodId) (from to : ℕ) (i : Instr) (callee : Method) (s l wl : List Value) (self : Value) (old : ℕ) (was : Value) (good : Good set W marks form (Lk m from to i callee s l wl self old was)) (links : List Link) → Goods set W marks form links → (s1 s2 : List Value)
      → IsLeft (Lk m from to i callee s l wl self old was ∷ links) (left_at set.program c0 (value.Ref n) (frame m from l s1) self (u_frames links)) (thrown W c0 (value.Ref n) (frame m ((form m).call_at from) wl s2) (w_frames set W marks form links))
  call_left m from to i callee s l wl self old was good links goods s1 s2 =
      subst (λ (o : Option Activation). IsLeft (Lk m from to i callee s l wl self old was ∷ links) (or_left self o (u_frames links) (left_behind set.program c0 (value.Ref n) (u_frames links))) (thrown W c0 (value.Ref n) (frame m ((form m).call_at from) wl s2) (w_frames set W marks form links)))
      (sym (in_table set.program c0 (value.Ref n) (frame m from l s1) from (method_at set.program m)))
      (subst (λ (wleft : List Activation). IsLeft (Lk m from to i callee s l wl self old was ∷ links) (or_left self (caught_by (frame m from l s1) (value.Ref n) (handler_of set.program c0 from (handlers_of set.program m))) (u_frames links) (left_behind set.program c0 (value.Ref n) (u_frames links))) wleft)
      (sym (ap (λ (o : Option Activation). or_below o (w_frames set W marks form links) (unwound W c0 (value.Ref n) (w_frames set W marks form links))) (in_table W c0 (value.Ref n) (frame m ((form m).call_at from) wl s2) ((form m).call_at from) (method_at W m))
      ∙ to_block m from to i callee s l wl self old was good ((form m).call_at from) s2 (w_frames set W marks form links) (unwound W c0 (value.Ref n) (w_frames set W marks form links))))
      (InGroup (frame m (blocks m from to i callee good.0 good.1).handled wl (value.Ref n ∷ [])) (w_frames set W marks form links) refl
      (λ r c. block_handled m from to i callee s l wl self old was good links goods r c from s1 (links_handled links (Saved old was []) (suc (suc (suc (suc c)))) goods))))
