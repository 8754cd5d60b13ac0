-- The leaves: `get`, for each number of pauses, and `yield`.
use Rattle.std.proofs.Common.{◌≡◌, ℕ, zero, suc, ◌+◌, ◌*◌, ◌≤◌, Bool, true, false, List, [], ◌∷◌, ◌++◌, Option, Some, None, refl, sym, ap, subst, ◌∙◌, arith}
use Rattle.std.proofs.lemmas.Bool.{false≢true}
use Rattle.std.specs.Prelude.{nat_le, if◌then◌else◌}
use Rattle.kilim_run_state.specs.declared.cause.EndCause.{EndCause}
use Rattle.kilim_run_state.specs.declared.cause.EndCause.TheVariants as cause
use Rattle.kilim_program.specs.declared.class.Method.{Method}
use Rattle.kilim_program.specs.declared.instr.Instr.{Instr}
use Rattle.kilim_program.specs.declared.names.MethodId.{MethodId}
use Rattle.kilim_program.specs.declared.value.Value.{Value}
use Rattle.kilim_program.specs.declared.value.Value.TheVariants as value
use Rattle.kilim_program.specs.Program.{Program}
use Rattle.kilim_run_state.specs.Machine.{Objects, Activation}
use Rattle.kilim_run_machine.specs.Natives.{Native, native_of}
use Rattle.kilim_run_machine.specs.Natives as native
use Rattle.kilim_run_machine.specs.Effect.{Asks}
use Rattle.kilim_run_model.specs.State.{Setting}
use Rattle.kilim_fiber_spec.specs.Acts.{World, Lost, counted, ending, spending, native_does}
use Rattle.kilim_fiber_spec.specs.Thread.{push, Frame, At, Thread, Run, Stop, raised_behind}
use Rattle.kilim_run_machine.specs.Natives.{FiberMember}
use Rattle.kilim_fiber_spec.specs.Fibers.{Fib, Fiber_at, Rec, Saved, empty_record, Woven_state, WRun, WStop, wstep, wasks, wnatives, wnative, gets, yields, frame, wraised_behind}
use Rattle.kilim_fiber_spec.specs.Form.{Facts, Members, longest}
use Rattle.kilim_fiber_spec.specs.Rows.{handed}
use Rattle.kilim_fiber_spec.specs.Runs.{stop, idle}
use Rattle.kilim_fiber_spec.specs.Serves.{Rows}
use Rattle.kilim_weave_spec.specs.Woven.{below, receiver}
use Rattle.kilim_fiber_spec.specs.Links.{again, Link, Lk, u_frames, left_overs, rev_onto, bares, Target, Inner, Leaf, Forms, code, w_frames, Good, Goods, LeafTakes, AreReady, Fw, at_rest, at_leaf, plan_of}
use Rattle.kilim_type_sound.specs.Fits.{AreThere}
use Rattle.kilim_fiber_laws.specs.simulation.Throwing.{behind_native}
use Rattle.kilim_fiber_laws.proofs.simulation.Still.{StepIsKnown}
use Rattle.kilim_fiber_laws.proofs.simulation.Throwing.{called_same}
use Rattle.kilim_fiber_laws.proofs.simulation.Paths as path
use Rattle.kilim_fiber_laws.proofs.simulation.Natural.{Outcome, GoesOn, IsOver, IsRaised, fold, Counts, native_same}
use Rattle.kilim_fiber_laws.proofs.simulation.Unwinds.{count_of, push_low, rests}
use Rattle.kilim_fiber_laws.proofs.simulation.Pauses as pause
use Rattle.kilim_program.specs.declared.ty.Ty.{Ty}
use Rattle.kilim_run_state.specs.Trees.{Root}
use Rattle.kilim_run_model.specs.Kept.{given}
use Rattle.kilim_fiber_laws.proofs.simulation.Held.{NextHeld, all_there}
use Rattle.kilim_fiber_laws.proofs.simulation.Rewinds.{again_there}
use Rattle.kilim_fiber_laws.proofs.simulation.Forward.{calm, Match, Goes_on}
use Rattle.kilim_fiber_laws.proofs.simulation.Forward as forward
use Rattle.kilim_fiber_laws.proofs.simulation.Catching as catching

pub frames_bare : (ks : List Link) → u_frames (bares ks) ≡ u_frames ks
frames_bare [] = refl
frames_bare (Lk m from to i callee s l wl self old was ∷ ks) = ap (λ (fs : List Frame). At m to l s self ∷ fs) (frames_bare ks)

pub count_bare : (ks : List Link) → count_of (bares ks) ≡ count_of ks
count_bare [] = refl
count_bare (k ∷ ks) = ap suc (count_bare ks)

module _ (set : Setting) (W : Program) (marks : List (List Bool)) (most : ℕ) (Q : Woven_state → Type 0)
    (runs : (m : MethodId) (p : ℕ) (l s : List Value) (b : List Activation) (f : Fib) (w : World) (ps : List ℕ) → StepIsKnown set W marks (WRun m p l s b f w ps) → AreThere w.heap s → Q (WRun m p l s b f w ps))
    (members : Members set.program W) (form : Forms set W marks) (facts : (m : MethodId) → Facts set.program W (code set W marks) (form m)) (rows : Rows set W marks form)
    (enough : calm + 8 + 512 * longest ≤ most) where
  abbrev M : Thread → ℕ → Woven_state → Type 0
  M = Match set W marks most Q runs members form facts rows enough

  abbrev To : ℕ → Woven_state → ℕ → Woven_state → Type 0
  To c x d y = path.To set W marks most Q runs c x d y

  ready_bare : (heap : Objects) (t : Target) (y : Value) (ks : List Link) → AreReady set W marks form heap t y ks → AreReady set W marks form heap t y (bares ks)
  ready_bare heap (Inner c) y [] r = r
  ready_bare heap (Leaf n) y [] r = r
  ready_bare heap (Inner c) y (Lk m from to i callee s l wl self old was ∷ ks) r = (r.0, ready_bare heap (Inner m) self ks r.1)
  ready_bare heap (Leaf n) y (Lk m from to i callee s l wl self old was ∷ ks) r = (r.0, ready_bare heap (Inner m) self ks r.1)

  bare_ready : (heap : Objects) (t : Target) (y : Value) (ks : List Link) → AreReady set W marks form heap t y (bares ks) → AreReady set W marks form heap t y ks
  bare_ready heap (Inner c) y [] r = r
  bare_ready heap (Leaf n) y [] r = r
  bare_ready heap (Inner c) y (Lk m from to i callee s l wl self old was ∷ ks) r = (r.0, bare_ready heap (Inner m) self ks r.1)
  bare_ready heap (Leaf n) y (Lk m from to i callee s l wl self old was ∷ ks) r = (r.0, bare_ready heap (Inner m) self ks r.1)

  pub same_ready : (heap : Objects) (t : Target) (y : Value) (ks ls : List Link) → bares ks ≡ bares ls → AreReady set W marks form heap t y ls → AreReady set W marks form heap t y ks
  same_ready heap t y ks ls e r = bare_ready heap t y ks (subst (λ (z : List Link). AreReady set W marks form heap t y z) (sym e) (ready_bare heap t y ls r))

  -- the thread behind a leaf, for its unwoven side
  abbrev pub behind : List Link → World → Option Value → Thread
  behind [] a v = Stop Lost
  behind (Lk m from to i callee s l wl self old was ∷ ks) a v = Run m to l (push v s) self (u_frames ks) a

  -- what may be said of each rest: it is of links with this unwoven side
  abbrev pub Rests : Native → Value → List Link → World → Type 0
  Rests leaf box sides w = (k : Link) (links : List Link) (k0 : Link) (ks : List Link) (ps : List ℕ) → bares (k ∷ links) ≡ sides → rev_onto (k ∷ links) [] ≡ k0 ∷ ks → Good set W marks form k → Goods set W marks form links
      → AreReady set W marks form w.heap (Leaf leaf) box (k ∷ links) → Q (at_rest set W marks form box k0 ks w ps)

  pub rest_has : (leaf : Native) (box : Value) (sides : List Link) (w : World) (ps : List ℕ) (k : Link) (links : List Link) → Rests leaf box sides w → bares (k ∷ links) ≡ sides → Good set W marks form k → Goods set W marks form links
      → AreReady set W marks form w.heap (Leaf leaf) box (k ∷ links) → (ks : List Link) → rev_onto (k ∷ links) [] ≡ ks → Q (rests set W marks most Q runs members form facts box ks w ps)
  rest_has leaf box sides w ps k links q e g gs r [] h = let n = pause.count_rev (k ∷ links) [] in let z = ap count_of h in absurd (omega (arith, n, z))
  rest_has leaf box sides w ps k links q e g gs r (k0 ∷ ks) h = q k links k0 ks ps e h g gs r

  abbrev pub goes_on : MethodId → ℕ → List Value → List Value → List Activation → Fib → World → List ℕ → Option Value → Woven_state
  goes_on m q wl s b f2 a rest v = WRun m q wl (push v s) b f2 a rest

  -- something is wrong with a value of the leaf
  abbrev pub fails : World → List Link → EndCause → Thread
  fails w [] why = Stop Lost
  fails w (Lk m from to i callee s l wl self old was ∷ ks) why = raised_behind set (At m to l s self ∷ u_frames ks) w why

  abbrev pub fails_on : MethodId → ℕ → List Value → List Value → List Activation → Fib → World → List ℕ → EndCause → Woven_state
  fails_on m q wl s b = wraised_behind set W marks (frame m q wl s ∷ b)

  -- a leaf gives nothing away
  keeps_leaf : (leaf : Native) (box : Value) (r : Root) (n : ℕ) (first : List Value) (result : Option Ty) → LeafTakes set W marks form leaf first box result → given (Some leaf) (first ++ value.Fiber ∷ []) ≡ Some (r, n) → ⊥
  keeps_leaf native.Get box r n first result takes g = path.none_given (r, n) g
  keeps_leaf native.Yield box r n first result takes g = path.none_given (r, n) g
  keeps_leaf native.PutWait box r n first result takes g = path.none_given (r, n) (sym (null_given box) ∙ (ap (λ (xs : List Value). given (Some native.PutWait) (xs ++ value.Fiber ∷ [])) (sym takes.0) ∙ g))
    where
      null_given : (y : Value) → given (Some native.PutWait) (y ∷ value.Null ∷ value.Fiber ∷ []) ≡ None
      null_given (value.Box b) = refl
      null_given y = refl
  keeps_leaf leaf box r n first result takes g = absurd takes

  -- the call of the leaf again
  pub calls_again : (box : Value) (w : World) (leaf : Native) (m : MethodId) (from to : ℕ) (i : Instr) (callee : Method) (s l wl : List Value) (self : Value) (old : ℕ) (was : Value) (links : List Link) (ps : List ℕ)
      → Good set W marks form (Lk m from to i callee s l wl self old was) → AreReady set W marks form w.heap (Leaf leaf) box (Lk m from to i callee s l wl self old was ∷ links)
      → (args : List Value) × LeafTakes set W marks form leaf args box callee.result
      × (wstep set W marks (at_leaf set W marks form box (Lk m from to i callee s l wl self old was) links w ps)
      ≡ wnative set W marks (goes_on m ((form m).up_at from) wl s (w_frames set W marks form links)) (fails_on m ((form m).up_at from) wl s (w_frames set W marks form links)) leaf (args ++ value.Fiber ∷ []) (Fiber_at (Saved old was [] ∷ left_overs links) (Saved 0 box []) [] true false) w ps)
      × Q (at_leaf set W marks form box (Lk m from to i callee s l wl self old was) links w ps)
  calls_again box w leaf m from to i callee s l wl self old was links ps good ready =
      let redo = ready.0.3 in
      let g = (facts m).group from to i callee good.0 good.1 in
      let q = (form m).up_at from in
      let f2 = Fiber_at (Saved old was [] ∷ left_overs links) (Saved 0 box []) [] true false in
      let low = good.4 in
      let high = (facts m).higher g.has_calls in
      let nn = rows.natives m from i callee to wl (again callee box s) s redo.1 w.heap redo.0 good.0 good.1 ready.0.5 (redo.2 wl s) in (
        redo.1,
        redo.4,
        path.found set W marks most Q runs m ((form m).call_at from) wl (value.Fiber ∷ again callee box s) (w_frames set W marks form links) f2 w ps i q true false
            (Asks redo.0 (redo.1 ++ value.Fiber ∷ []) q wl s w.heap) g.call refl
            (rows.hands m from i callee to q wl wl (again callee box s) w.heap good.0 good.1 ready.0.4 ready.0.5 ∙ ap (handed q wl) (redo.2 wl s))
            ∙ ap (λ (o : Option FiberMember). wasks set W marks (goes_on m q wl s (w_frames set W marks form links)) (fails_on m q wl s (w_frames set W marks form links)) o (native_of W redo.0) (redo.1 ++ value.Fiber ∷ []) f2 w ps) nn.0
            ∙ ap (λ (o : Option Native). wnatives set W marks (goes_on m q wl s (w_frames set W marks form links)) (fails_on m q wl s (w_frames set W marks form links)) o (redo.1 ++ value.Fiber ∷ []) f2 w ps) (rows.same_natives redo.0 nn.0 ∙ redo.3),
        runs m ((form m).call_at from) wl (value.Fiber ∷ again callee box s) (w_frames set W marks form links) f2 w ps
            (path.next_room set W marks m ((form m).call_at from) wl (value.Fiber ∷ again callee box s) (w_frames set W marks form links) f2 w ps i q true (Asks redo.0 (redo.1 ++ value.Fiber ∷ []) q wl s w.heap) g.call
            (rows.hands m from i callee to q wl wl (again callee box s) w.heap good.0 good.1 ready.0.4 ready.0.5 ∙ ap (handed q wl) (redo.2 wl s))
            (path.asks_room set.program W m (w_frames set W marks form links) w.heap redo.0 (redo.1 ++ value.Fiber ∷ []) q wl s w.heap (omega (arith, low, high)) (λ r n g. keeps_leaf leaf box r n redo.1 callee.result redo.4 (subst (λ (o : Option Native). given o (redo.1 ++ value.Fiber ∷ []) ≡ Some (r, n)) (rows.same_natives redo.0 nn.0 ∙ redo.3) g))) (λ on. absurd (false≢true on))
            (λ on raise other. called_same set W marks (behind_native set W marks m q wl s (w_frames set W marks form links)) raise other form (Saved old was [] ∷ left_overs links) (Saved 0 box []) [] false w ps redo.0 leaf box redo.1 callee.result nn.0 (rows.same_natives redo.0 nn.0 ∙ redo.3) redo.4))
            (tt, again_there set W marks most Q runs members form facts rows.hands w.heap callee (below (plan_of set W marks form m) callee from) (receiver (plan_of set W marks form m) callee from) box s ready.0.0 ready.0.2),
      )

  module _ (box : Value) (w : World) (sides : List Link) (kept : w.kept ≡ None) (time : nat_le set.limits.steps w.done ≡ false) where
    -- it takes
    pub takes_match : (u : Thread) (c : ℕ) (m : MethodId) (from to : ℕ) (i : Instr) (callee : Method) (s l wl : List Value) (self : Value) (old : ℕ) (was : Value) (links : List Link) (stk : List Value) (r : Rec) (re : Bool) (ps rest : List ℕ)
        → c ≤ calm + 3 → Good set W marks form (Lk m from to i callee s l wl self old was) → Goods set W marks form links
        → u ≡ native_does set w Stop (behind (Lk m from to i callee s l wl self old was ∷ links)) (fails w (Lk m from to i callee s l wl self old was ∷ links)) native.Get (box ∷ [])
        → wstep set W marks (WRun m ((form m).call_at from) wl stk (w_frames set W marks form links) (Fiber_at (Saved old was [] ∷ left_overs links) r [] re false) w ps)
        ≡ spending set w WStop (native_does set w WStop (λ (a : World) (v : Option Value). goes_on m ((form m).up_at from) wl s (w_frames set W marks form links) (Fiber_at (Saved old was [] ∷ left_overs links) empty_record [] false false) a rest v) (fails_on m ((form m).up_at from) wl s (w_frames set W marks form links) (Fiber_at (Saved old was [] ∷ left_overs links) r [] re false) w rest) native.Get (box ∷ []))
        → Q (WRun m ((form m).call_at from) wl stk (w_frames set W marks form links) (Fiber_at (Saved old was [] ∷ left_overs links) r [] re false) w ps) → NextHeld set u → M u c (WRun m ((form m).call_at from) wl stk (w_frames set W marks form links) (Fiber_at (Saved old was [] ∷ left_overs links) r [] re false) w ps)
    takes_match u c m from to i callee s l wl self old was links stk r re ps rest few good goods eu ew q held =
        let z = native_same set w Stop (behind (Lk m from to i callee s l wl self old was ∷ links)) (fails w (Lk m from to i callee s l wl self old was ∷ links)) native.Get (box ∷ []) in
        let y = native_same set w WStop (λ (a : World) (v : Option Value). goes_on m ((form m).up_at from) wl s (w_frames set W marks form links) (Fiber_at (Saved old was [] ∷ left_overs links) empty_record [] false false) a rest v) (fails_on m ((form m).up_at from) wl s (w_frames set W marks form links) (Fiber_at (Saved old was [] ∷ left_overs links) r [] re false) w rest) native.Get (box ∷ []) in
        by (native_does set w IsOver GoesOn IsRaised native.Get (box ∷ [])) (eu ∙ z.0)
        (ew ∙ ap (λ (b : Bool). if b then ending set w WStop cause.Spent else native_does set w WStop (λ (a : World) (v : Option Value). goes_on m ((form m).up_at from) wl s (w_frames set W marks form links) (Fiber_at (Saved old was [] ∷ left_overs links) empty_record [] false false) a rest v) (fails_on m ((form m).up_at from) wl s (w_frames set W marks form links) (Fiber_at (Saved old was [] ∷ left_overs links) r [] re false) w rest) native.Get (box ∷ [])) time ∙ y.0) z.1
      where
        by : (o : Outcome) → u ≡ fold Stop (behind (Lk m from to i callee s l wl self old was ∷ links)) (fails w (Lk m from to i callee s l wl self old was ∷ links)) o
            → wstep set W marks (WRun m ((form m).call_at from) wl stk (w_frames set W marks form links) (Fiber_at (Saved old was [] ∷ left_overs links) r [] re false) w ps)
            ≡ fold WStop (λ (a : World) (v : Option Value). goes_on m ((form m).up_at from) wl s (w_frames set W marks form links) (Fiber_at (Saved old was [] ∷ left_overs links) empty_record [] false false) a rest v) (fails_on m ((form m).up_at from) wl s (w_frames set W marks form links) (Fiber_at (Saved old was [] ∷ left_overs links) r [] re false) w rest) o
            → Counts w o → M u c (WRun m ((form m).call_at from) wl stk (w_frames set W marks form links) (Fiber_at (Saved old was [] ∷ left_overs links) r [] re false) w ps)
        by (GoesOn a v) eu ew n =
            let ret = forward.returned set W marks most Q runs members form facts rows enough m from to i callee s (push v s) l wl self old was links empty_record 0 a rest good goods (push_low v s) (held.stack m to l (push v s) self (u_frames links) a eu) in
            Goes_on (Fw m to (push v s) l wl self [] links old was a rest) eu 3 (omega arith)
            (path.joins set W marks most Q runs
            (forward.counts set W marks most Q runs members form facts rows enough c m ((form m).call_at from) wl stk (w_frames set W marks form links) (Fiber_at (Saved old was [] ∷ left_overs links) r [] re false) w ps
            m ((form m).up_at from) wl (push v s) (w_frames set W marks form links) (Fiber_at (Saved old was [] ∷ left_overs links) empty_record [] false false) a rest (omega (arith, few, enough)) ew n q)
            ret.0) ret.1
        by (IsRaised why) eu ew n =
            let pauses = ((facts m).group from to i callee good.0 good.1).pausable in
            forward.both_end set W marks most Q runs members form facts rows enough u c m ((form m).call_at from) wl stk (w_frames set W marks form links) (Fiber_at (Saved old was [] ∷ left_overs links) r [] re false) w (counted w) ps why (omega (arith, few, enough))
            (eu ∙ catching.behind_over set W marks form facts rows.catches m pauses links goods to l s self w why) (ew ∙ catching.wbehind_over set W marks form facts rows.catches m pauses links goods ((form m).up_at from) wl s (Fiber_at (Saved old was [] ∷ left_overs links) r [] re false) w rest why) q
        by (IsOver o) eu ew n = forward.both_over set W marks most Q runs members form facts rows enough u c m ((form m).call_at from) wl stk (w_frames set W marks form links) (Fiber_at (Saved old was [] ∷ left_overs links) r [] re false) w ps o (omega (arith, few, enough)) eu ew q

    pub to_links : (m : MethodId) (from to : ℕ) (i : Instr) (callee : Method) (s l wl : List Value) (self : Value) (old : ℕ) (was : Value) (links : List Link) → bares (Lk m from to i callee s l wl self old was ∷ links) ≡ sides
        → native_does set w Stop (behind sides) (fails w sides) native.Get (box ∷ []) ≡ native_does set w Stop (behind (Lk m from to i callee s l wl self old was ∷ links)) (fails w (Lk m from to i callee s l wl self old was ∷ links)) native.Get (box ∷ [])
    to_links m from to i callee s l wl self old was links e =
        ap (λ (z : List Link). native_does set w Stop (behind z) (fails w z) native.Get (box ∷ [])) (sym e)
        ∙ ap (λ (fs : List Frame). native_does set w Stop (λ (a : World) (v : Option Value). Run m to l (push v s) self fs a) (raised_behind set (At m to l s self ∷ fs) w) native.Get (box ∷ [])) (frames_bare links)

    -- for each number of pauses
    pub gets_match : (n : ℕ) (rest : List ℕ) (u : Thread) (c : ℕ) (m : MethodId) (from to : ℕ) (i : Instr) (callee : Method) (s l wl : List Value) (self : Value) (old : ℕ) (was : Value) (links : List Link) (stk : List Value) (r : Rec) (re : Bool) (ps : List ℕ)
        → Rests native.Get box sides w → bares (Lk m from to i callee s l wl self old was ∷ links) ≡ sides → c ≤ calm + 3 → suc (count_of links) ≤ 512
        → Good set W marks form (Lk m from to i callee s l wl self old was) → Goods set W marks form links → AreReady set W marks form w.heap (Leaf native.Get) box (Lk m from to i callee s l wl self old was ∷ links)
        → u ≡ native_does set w Stop (behind sides) (fails w sides) native.Get (box ∷ [])
        → wstep set W marks (WRun m ((form m).call_at from) wl stk (w_frames set W marks form links) (Fiber_at (Saved old was [] ∷ left_overs links) r [] re false) w ps)
        ≡ gets set W marks (goes_on m ((form m).up_at from) wl s (w_frames set W marks form links)) (fails_on m ((form m).up_at from) wl s (w_frames set W marks form links)) (box ∷ []) box (Fiber_at (Saved old was [] ∷ left_overs links) r [] re false) w (n ∷ rest)
        → Q (WRun m ((form m).call_at from) wl stk (w_frames set W marks form links) (Fiber_at (Saved old was [] ∷ left_overs links) r [] re false) w ps) → NextHeld set u → M u c (WRun m ((form m).call_at from) wl stk (w_frames set W marks form links) (Fiber_at (Saved old was [] ∷ left_overs links) r [] re false) w ps)
    gets_match zero rest u c m from to i callee s l wl self old was links stk r re ps q e few deep good goods ready eu ew here_ok held =
        takes_match u c m from to i callee s l wl self old was links stk r re ps rest few good goods (eu ∙ to_links m from to i callee s l wl self old was links e) ew here_ok held
    gets_match (suc n) rest u c m from to i callee s l wl self old was links stk r re ps q e few deep good goods ready eu ew here_ok held =
        let k = Lk m from to i callee s l wl self old was in
        let p = pause.pauses set W marks most Q runs members form facts rows.hands native.Get box (Some value.Null) k links (suc c) w (n ∷ rest) kept good goods ready (ready.0.3.4.1) tt deep (omega (arith, few, deep, enough))
        (rest_has native.Get box sides w (n ∷ rest) k links q e good goods ready (rev_onto (k ∷ links) []) refl) in
        let a = p.few in
        let nb = count_bare p.below in
        let nl = count_bare links in
        let es = ap count_of p.same in
        forward.after set W marks most Q runs members form facts rows enough
        (path.joins set W marks most Q runs
        (idle here_ok
        (subst (λ (z : Woven_state). To (suc c) (wstep set W marks (WRun m ((form m).call_at from) wl stk (w_frames set W marks form links) (Fiber_at (Saved old was [] ∷ left_overs links) r [] re false) w ps)) (suc c) z) ew stop))
        p.way)
        (next p.top p.below p.count (p.same ∙ e) (omega (arith, a, deep)) (omega (arith, nb, nl, es, deep)) p.good p.goods (same_ready w.heap (Leaf native.Get) box (p.top ∷ p.below) (k ∷ links) p.same ready)
        (λ m2 from2 to2 i2 callee2 s2 l2 wl2 self2 old2 was2 links2 d e2 few2 deep2 good2 goods2 ready2 ew2 ok2.
        gets_match n rest u d m2 from2 to2 i2 callee2 s2 l2 wl2 self2 old2 was2 links2 (value.Fiber ∷ again callee2 box s2) (Saved 0 box []) true (n ∷ rest) q e2 few2 deep2 good2 goods2 ready2 eu ew2 ok2 held))
      where
        next : (k : Link) (links : List Link) (d : ℕ) → bares (k ∷ links) ≡ sides → d ≤ calm + 3 → suc (count_of links) ≤ 512 → Good set W marks form k → Goods set W marks form links → AreReady set W marks form w.heap (Leaf native.Get) box (k ∷ links)
            → ((m : MethodId) (from to : ℕ) (i : Instr) (callee : Method) (s l wl : List Value) (self : Value) (old : ℕ) (was : Value) (links : List Link) (d : ℕ) → bares (Lk m from to i callee s l wl self old was ∷ links) ≡ sides → d ≤ calm + 3 → suc (count_of links) ≤ 512
            → Good set W marks form (Lk m from to i callee s l wl self old was) → Goods set W marks form links → AreReady set W marks form w.heap (Leaf native.Get) box (Lk m from to i callee s l wl self old was ∷ links)
            → wstep set W marks (at_leaf set W marks form box (Lk m from to i callee s l wl self old was) links w (n ∷ rest)) ≡ gets set W marks (goes_on m ((form m).up_at from) wl s (w_frames set W marks form links)) (fails_on m ((form m).up_at from) wl s (w_frames set W marks form links)) (box ∷ []) box (Fiber_at (Saved old was [] ∷ left_overs links) (Saved 0 box []) [] true false) w (n ∷ rest)
            → Q (at_leaf set W marks form box (Lk m from to i callee s l wl self old was) links w (n ∷ rest)) → M u d (at_leaf set W marks form box (Lk m from to i callee s l wl self old was) links w (n ∷ rest)))
            → M u d (at_leaf set W marks form box k links w (n ∷ rest))
        next (Lk m from to i callee s l wl self old was) links d e few deep good goods ready again_get =
            let z = calls_again box w native.Get m from to i callee s l wl self old was links (n ∷ rest) good ready in
            again_get m from to i callee s l wl self old was links d e few deep good goods ready
            (z.2 ∙ ap (λ (args : List Value). wnative set W marks (goes_on m ((form m).up_at from) wl s (w_frames set W marks form links)) (fails_on m ((form m).up_at from) wl s (w_frames set W marks form links)) native.Get (args ++ value.Fiber ∷ []) (Fiber_at (Saved old was [] ∷ left_overs links) (Saved 0 box []) [] true false) w (n ∷ rest)) z.1.0) z.3

  -- a `yield` counts, rests once, and goes on
  pub yields_match : (w : World) (sides : List Link) (u : Thread) (c : ℕ) (m : MethodId) (from to : ℕ) (i : Instr) (callee : Method) (s l wl : List Value) (self : Value) (old : ℕ) (was : Value) (links : List Link) (stk : List Value) (r : Rec) (ps : List ℕ)
      → w.kept ≡ None → Rests native.Yield value.Null sides (counted w) → bares (Lk m from to i callee s l wl self old was ∷ links) ≡ sides → c ≤ calm + 3 → suc (count_of links) ≤ 512
      → Good set W marks form (Lk m from to i callee s l wl self old was) → Goods set W marks form links → AreReady set W marks form w.heap (Leaf native.Yield) value.Null (Lk m from to i callee s l wl self old was ∷ links)
      → u ≡ behind sides (counted w) None
      → wstep set W marks (WRun m ((form m).call_at from) wl stk (w_frames set W marks form links) (Fiber_at (Saved old was [] ∷ left_overs links) r [] false false) w ps)
      ≡ yields set W marks (goes_on m ((form m).up_at from) wl s (w_frames set W marks form links)) (fails_on m ((form m).up_at from) wl s (w_frames set W marks form links)) (Fiber_at (Saved old was [] ∷ left_overs links) r [] false false) w ps
      → Q (WRun m ((form m).call_at from) wl stk (w_frames set W marks form links) (Fiber_at (Saved old was [] ∷ left_overs links) r [] false false) w ps) → M u c (WRun m ((form m).call_at from) wl stk (w_frames set W marks form links) (Fiber_at (Saved old was [] ∷ left_overs links) r [] false false) w ps)
  yields_match w sides u c m from to i callee s l wl self old was links stk r ps kept q e few deep good goods ready eu ew here_ok =
      let k = Lk m from to i callee s l wl self old was in
      let w2 = counted w in
      let p = pause.pauses set W marks most Q runs members form facts rows.hands native.Yield value.Null None k links 0 w2 ps kept good goods ready (ready.0.3.4.2) tt deep (omega (arith, deep, enough))
      (rest_has native.Yield value.Null sides w2 ps k links q e good goods ready (rev_onto (k ∷ links) []) refl) in
      let a = p.few in
      forward.after set W marks most Q runs members form facts rows enough
      (path.joins set W marks most Q runs
      (forward.counts set W marks most Q runs members form facts rows enough c m ((form m).call_at from) wl stk (w_frames set W marks form links) (Fiber_at (Saved old was [] ∷ left_overs links) r [] false false) w ps
      m ((form m).up_at from) wl s (w_frames set W marks form links) (Fiber_at (Saved old was [] ∷ left_overs links) (Saved 0 value.Null []) [] false true) w2 ps (omega (arith, few, enough)) ew refl here_ok)
      p.way)
      (next p.top p.below p.count (p.same ∙ e) (omega (arith, a, deep)) p.good p.goods (same_ready w.heap (Leaf native.Yield) value.Null (p.top ∷ p.below) (k ∷ links) p.same ready))
    where
      next : (k : Link) (links : List Link) (d : ℕ) → bares (k ∷ links) ≡ sides → d ≤ 512 * (2 * longest + 3) → Good set W marks form k → Goods set W marks form links → AreReady set W marks form w.heap (Leaf native.Yield) value.Null (k ∷ links)
          → M u d (at_leaf set W marks form value.Null k links (counted w) ps)
      next (Lk m from to i callee s l wl self old was) links d e few good goods ready =
          let w2 = counted w in
          let z = calls_again value.Null w2 native.Yield m from to i callee s l wl self old was links ps good ready in
          let ret = forward.returned set W marks most Q runs members form facts rows enough m from to i callee s s l wl self old was links empty_record (suc d) w2 ps good goods (omega arith) (all_there W w.heap (below (plan_of set W marks form m) callee from) s ready.0.0) in
          let ez = z.2 ∙ ap (λ (args : List Value). wnative set W marks (goes_on m ((form m).up_at from) wl s (w_frames set W marks form links)) (fails_on m ((form m).up_at from) wl s (w_frames set W marks form links)) native.Yield (args ++ value.Fiber ∷ []) (Fiber_at (Saved old was [] ∷ left_overs links) (Saved 0 value.Null []) [] true false) w2 ps) z.1.0 in
          Goes_on (Fw m to s l wl self [] links old was w2 ps)
          (eu ∙ ap (λ (v : List Link). behind v w2 None) (sym e) ∙ ap (λ (fs : List Frame). Run m to l s self fs w2) (frames_bare links))
          (suc (suc (suc (suc d)))) (omega (arith, few))
          (path.joins set W marks most Q runs
          (idle z.3
          (subst (λ (y : Woven_state). To (suc d) (wstep set W marks (at_leaf set W marks form value.Null (Lk m from to i callee s l wl self old was) links w2 ps)) (suc d) y) ez stop))
          ret.0) ret.1
