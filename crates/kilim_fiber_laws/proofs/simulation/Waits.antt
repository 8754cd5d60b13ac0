-- A put that waits, for each number of pauses: its tree stands apart from the first on.
use Rattle.std.proofs.Common.{◌≡◌, ℕ, zero, suc, ◌+◌, ◌*◌, ◌≤◌, Bool, true, false, List, [], ◌∷◌, ◌++◌, Option, Some, None, refl, sym, ap, subst, ◌∙◌, arith}
use Rattle.std.specs.Prelude.{nat_le, if◌then◌else◌}
use Rattle.kilim_run_state.specs.declared.cause.EndCause.{EndCause}
use Rattle.kilim_run_state.specs.declared.cause.EndCause.TheVariants as cause
use Rattle.kilim_program.specs.declared.class.Method.{Method}
use Rattle.kilim_program.specs.declared.instr.Instr.{Instr}
use Rattle.kilim_program.specs.declared.names.BoxName.{BoxName}
use Rattle.kilim_program.specs.declared.names.MethodId.{MethodId}
use Rattle.kilim_run_state.specs.declared.value.Token.{Token}
use Rattle.kilim_run_state.specs.Shapes.{shape_of}
use Rattle.kilim_run_journal.specs.declared.entry.Act.{Act}
use Rattle.kilim_run_journal.specs.declared.entry.Act.TheVariants.{Put}
use Rattle.kilim_run_model.specs.declared.deed.Deed.{Deed}
use Rattle.kilim_program.specs.declared.value.Value.{Value}
use Rattle.kilim_program.specs.declared.value.Value.TheVariants as value
use Rattle.kilim_program.specs.Program.{Program}
use Rattle.kilim_run_state.specs.Machine.{Activation}
use Rattle.kilim_run_machine.specs.Natives.{Native, native_of}
use Rattle.kilim_run_machine.specs.Natives as native
use Rattle.kilim_run_model.specs.State.{Setting}
use Rattle.kilim_fiber_spec.specs.Acts.{World, PutWaits, Wants, acting, apart, ending, native_does, put_wait_by, put_waits, spending, counted}
use Rattle.kilim_fiber_spec.specs.Thread.{push, At, Frame, Thread, Run, Stop, raised_behind}
use Rattle.kilim_run_machine.specs.Natives.{FiberMember}
use Rattle.kilim_fiber_spec.specs.Fibers.{Fib, Fiber_at, Rec, Saved, empty_record, Woven_state, WRun, WStop, wstep, wnative, pausing, put_again, puts_again, rewound, waits, waits_again, waits_on}
use Rattle.kilim_fiber_spec.specs.Form.{Facts, Members, longest}
use Rattle.kilim_fiber_spec.specs.Runs.{stop, idle}
use Rattle.kilim_fiber_spec.specs.Serves.{Rows}
use Rattle.kilim_fiber_spec.specs.Links.{again, Link, Lk, u_frames, left_overs, rev_onto, bares, Leaf, Forms, code, w_frames, Good, Goods, AreReady, Fw, at_leaf}
use Rattle.kilim_type_sound.specs.Fits.{AreThere}
use Rattle.kilim_fiber_laws.proofs.simulation.Still.{StepIsKnown}
use Rattle.kilim_fiber_laws.proofs.simulation.Paths as path
use Rattle.kilim_fiber_laws.proofs.simulation.Natural.{Outcome, GoesOn, IsOver, IsRaised, fold, Counts, native_same}
use Rattle.kilim_fiber_laws.proofs.simulation.Unwinds.{count_of, push_low}
use Rattle.kilim_fiber_laws.proofs.simulation.Pauses as pause
use Rattle.kilim_fiber_laws.proofs.simulation.Leaves.{count_bare, frames_bare}
use Rattle.kilim_fiber_laws.proofs.simulation.Leaves as leaf
use Rattle.kilim_fiber_laws.proofs.simulation.Held.{NextHeld}
use Rattle.kilim_fiber_laws.proofs.simulation.Forward.{calm, Match, Goes_on}
use Rattle.kilim_fiber_laws.proofs.simulation.Forward as forward
use Rattle.kilim_fiber_laws.proofs.simulation.Catching as catching

module _ (set : Setting) (W : Program) (marks : List (List Bool)) (most : ℕ) (Q : Woven_state → Type 0)
    (runs : (m : MethodId) (p : ℕ) (l s : List Value) (b : List Activation) (f : Fib) (w : World) (ps : List ℕ) → StepIsKnown set W marks (WRun m p l s b f w ps) → AreThere w.heap s → Q (WRun m p l s b f w ps))
    (members : Members set.program W) (form : Forms set W marks) (facts : (m : MethodId) → Facts set.program W (code set W marks) (form m)) (rows : Rows set W marks form)
    (enough : calm + 8 + 512 * longest ≤ most) where
  abbrev M : Thread → ℕ → Woven_state → Type 0
  M = Match set W marks most Q runs members form facts rows enough

  abbrev To : ℕ → Woven_state → ℕ → Woven_state → Type 0
  To c x d y = path.To set W marks most Q runs c x d y

  abbrev Behind : List Link → World → Option Value → Thread
  Behind = leaf.behind set W marks most Q runs members form facts rows enough

  abbrev Fails : World → List Link → EndCause → Thread
  Fails = leaf.fails set W marks most Q runs members form facts rows enough

  -- a put that is made now, where it doesn't wait any more
  module _ (w : World) (time : nat_le set.limits.steps w.done ≡ false) where
    pub put_match : (args : List Value) (z : World) (u : Thread) (c : ℕ) (m : MethodId) (from to : ℕ) (i : Instr) (callee : Method) (s l wl : List Value) (self : Value) (old : ℕ) (was : Value) (links : List Link) (stk : List Value) (r : Rec) (re : Bool) (ps rest : List ℕ)
        → z.done ≡ w.done → c ≤ calm + 3 → Good set W marks form (Lk m from to i callee s l wl self old was) → Goods set W marks form links
        → u ≡ native_does set w Stop (Behind (Lk m from to i callee s l wl self old was ∷ links)) (Fails w (Lk m from to i callee s l wl self old was ∷ links)) native.PutWait args
        → wstep set W marks (WRun m ((form m).call_at from) wl stk (w_frames set W marks form links) (Fiber_at (Saved old was [] ∷ left_overs links) r [] re false) z ps)
        ≡ spending set w WStop (native_does set w WStop (λ (a : World) (v : Option Value). leaf.goes_on set W marks most Q runs members form facts rows enough m ((form m).up_at from) wl s (w_frames set W marks form links) (Fiber_at (Saved old was [] ∷ left_overs links) empty_record [] false false) a rest v) (leaf.fails_on set W marks most Q runs members form facts rows enough m ((form m).up_at from) wl s (w_frames set W marks form links) (Fiber_at (Saved old was [] ∷ left_overs links) r [] re false) w rest) native.PutWait args)
        → Q (WRun m ((form m).call_at from) wl stk (w_frames set W marks form links) (Fiber_at (Saved old was [] ∷ left_overs links) r [] re false) z ps) → NextHeld set u → M u c (WRun m ((form m).call_at from) wl stk (w_frames set W marks form links) (Fiber_at (Saved old was [] ∷ left_overs links) r [] re false) z ps)
    put_match args z u c m from to i callee s l wl self old was links stk r re ps rest same few good goods eu ew q held =
        let x = native_same set w Stop (Behind (Lk m from to i callee s l wl self old was ∷ links)) (Fails w (Lk m from to i callee s l wl self old was ∷ links)) native.PutWait args in
        let y = native_same set w WStop (λ (a : World) (v : Option Value). leaf.goes_on set W marks most Q runs members form facts rows enough m ((form m).up_at from) wl s (w_frames set W marks form links) (Fiber_at (Saved old was [] ∷ left_overs links) empty_record [] false false) a rest v) (leaf.fails_on set W marks most Q runs members form facts rows enough m ((form m).up_at from) wl s (w_frames set W marks form links) (Fiber_at (Saved old was [] ∷ left_overs links) r [] re false) w rest) native.PutWait args in
        by (native_does set w IsOver GoesOn IsRaised native.PutWait args) (eu ∙ x.0)
        (ew ∙ ap (λ (b : Bool). if b then ending set w WStop cause.Spent else native_does set w WStop (λ (a : World) (v : Option Value). leaf.goes_on set W marks most Q runs members form facts rows enough m ((form m).up_at from) wl s (w_frames set W marks form links) (Fiber_at (Saved old was [] ∷ left_overs links) empty_record [] false false) a rest v) (leaf.fails_on set W marks most Q runs members form facts rows enough m ((form m).up_at from) wl s (w_frames set W marks form links) (Fiber_at (Saved old was [] ∷ left_overs links) r [] re false) w rest) native.PutWait args) time ∙ y.0) x.1
      where
        by : (o : Outcome) → u ≡ fold Stop (Behind (Lk m from to i callee s l wl self old was ∷ links)) (Fails w (Lk m from to i callee s l wl self old was ∷ links)) o → wstep set W marks (WRun m ((form m).call_at from) wl stk (w_frames set W marks form links) (Fiber_at (Saved old was [] ∷ left_overs links) r [] re false) z ps) ≡ fold WStop (λ (a : World) (v : Option Value). leaf.goes_on set W marks most Q runs members form facts rows enough m ((form m).up_at from) wl s (w_frames set W marks form links) (Fiber_at (Saved old was [] ∷ left_overs links) empty_record [] false false) a rest v) (leaf.fails_on set W marks most Q runs members form facts rows enough m ((form m).up_at from) wl s (w_frames set W marks form links) (Fiber_at (Saved old was [] ∷ left_overs links) r [] re false) w rest) o → Counts w o → M u c (WRun m ((form m).call_at from) wl stk (w_frames set W marks form links) (Fiber_at (Saved old was [] ∷ left_overs links) r [] re false) z ps)
        by (GoesOn a v) eu ew n =
            let ret = forward.returned set W marks most Q runs members form facts rows enough m from to i callee s (push v s) l wl self old was links empty_record 0 a rest good goods (push_low v s) (held.stack m to l (push v s) self (u_frames links) a eu) in
            Goes_on (Fw m to (push v s) l wl self [] links old was a rest) eu 3 (omega arith)
            (path.joins set W marks most Q runs
            (forward.counts set W marks most Q runs members form facts rows enough c m ((form m).call_at from) wl stk (w_frames set W marks form links) (Fiber_at (Saved old was [] ∷ left_overs links) r [] re false) z ps
            m ((form m).up_at from) wl (push v s) (w_frames set W marks form links) (Fiber_at (Saved old was [] ∷ left_overs links) empty_record [] false false) a rest (omega (arith, few, enough)) ew (n ∙ ap (λ (k : ℕ). k + 1) (sym same)) q)
            ret.0) ret.1
        by (IsRaised why) eu ew n =
            let pauses = ((facts m).group from to i callee good.0 good.1).pausable in
            forward.both_end set W marks most Q runs members form facts rows enough u c m ((form m).call_at from) wl stk (w_frames set W marks form links) (Fiber_at (Saved old was [] ∷ left_overs links) r [] re false) z (counted w) ps why (omega (arith, few, enough))
            (eu ∙ catching.behind_over set W marks form facts rows.catches m pauses links goods to l s self w why) (ew ∙ catching.wbehind_over set W marks form facts rows.catches m pauses links goods ((form m).up_at from) wl s (Fiber_at (Saved old was [] ∷ left_overs links) r [] re false) w rest why) q
        by (IsOver o) eu ew n = forward.both_over set W marks most Q runs members form facts rows enough u c m ((form m).call_at from) wl stk (w_frames set W marks form links) (Fiber_at (Saved old was [] ∷ left_overs links) r [] re false) z ps o (omega (arith, few, enough)) eu ew q

  module _ (box : BoxName) (n : ℕ) (shape : List Token) (w : World) (sides : List Link) (has : shape_of set.program w.heap n ≡ Some shape) (kept : w.kept ≡ None) (time : nat_le set.limits.steps w.done ≡ false) where
    abbrev args : List Value
    args = value.Box box ∷ value.Ref n ∷ []

    -- while it waits
    abbrev wa : World
    wa = apart set n shape w

    module _ (go : Fib → World → List ℕ → Option Value → Woven_state) (raise : Fib → World → List ℕ → EndCause → Woven_state) (f : Fib) where
      -- it is tried so many times
      abbrev tries : ℕ → List ℕ → Woven_state
      tries (suc k) rest = go (pausing (value.Box box) f) wa (k ∷ rest) None
      tries zero rest = spending set w WStop (native_does set w WStop (λ a v. go (rewound f) a rest v) (raise f w rest) native.PutWait args)

      -- what stands apart is put as it is where it stands in the heap
      deed_same : (ps : List ℕ) (act : Act) (rest : List Deed) → put_again set W marks go raise box shape f wa w ps act rest ≡ put_wait_by set w WStop (λ a v. go (rewound f) a ps v) box shape n act rest
      deed_same ps (Put b k s) rest = refl
      deed_same ps act rest = refl

      deeds_same : (ps : List ℕ) → acting set w WStop (PutWaits box n shape) (λ deed rest. put_again set W marks go raise box shape f wa w ps deed.act rest) ≡ put_waits set w WStop (λ a v. go (rewound f) a ps v) box n (Some shape)
      deeds_same ps = by w.deeds
        where
          by : (ds : List Deed) → ◌≡◌ {A = Woven_state} (elim ds [ [] ↦ WStop (Wants (PutWaits box n shape) w) | deed ∷ rest ↦ put_again set W marks go raise box shape f wa w ps deed.act rest ])
              (elim ds [ [] ↦ WStop (Wants (PutWaits box n shape) w) | deed ∷ rest ↦ put_wait_by set w WStop (λ a v. go (rewound f) a ps v) box shape n deed.act rest ])
          by [] = refl
          by (d ∷ ds) = deed_same ps d.act ds

      pub again_same : (ps : List ℕ) → puts_again set W marks go raise box (record { root = n; shape = shape; heap = w.heap }) f wa w ps ≡ tries zero ps
      again_same ps = ap (λ (z : Woven_state). spending set w WStop z) (deeds_same ps ∙ ap (put_waits set w WStop (λ a v. go (rewound f) a ps v) box n) (sym has))

      -- the first time, and each time again
      pub first_tries : (k : ℕ) (rest : List ℕ) → waits set W marks go raise args f w (k ∷ rest) ≡ tries k rest
      first_tries (suc k) rest = ap (λ (o : Option (List Token)). waits_on set W marks go raise box n o f w k rest) has
      first_tries zero rest = refl

      pub again_tries : (k : ℕ) (rest : List ℕ) → waits_again set W marks go raise box (record { root = n; shape = shape; heap = w.heap }) w.aside f wa (k ∷ rest) ≡ tries k rest
      again_tries (suc k) rest = refl
      again_tries zero rest = again_same rest

    to_links : (m : MethodId) (from to : ℕ) (i : Instr) (callee : Method) (s l wl : List Value) (self : Value) (old : ℕ) (was : Value) (links : List Link) → bares (Lk m from to i callee s l wl self old was ∷ links) ≡ sides
        → native_does set w Stop (Behind sides) (Fails w sides) native.PutWait args ≡ native_does set w Stop (Behind (Lk m from to i callee s l wl self old was ∷ links)) (Fails w (Lk m from to i callee s l wl self old was ∷ links)) native.PutWait args
    to_links m from to i callee s l wl self old was links e =
        ap (λ (z : List Link). native_does set w Stop (Behind z) (Fails w z) native.PutWait args) (sym e)
        ∙ ap (λ (fs : List Frame). native_does set w Stop (λ (a : World) (v : Option Value). Run m to l (push v s) self fs a) (raised_behind set (At m to l s self ∷ fs) w) native.PutWait args) (frames_bare links)

    -- for each number of pauses
    pub waits_match : (k : ℕ) (rest : List ℕ) (z : World) (u : Thread) (c : ℕ) (m : MethodId) (from to : ℕ) (i : Instr) (callee : Method) (s l wl : List Value) (self : Value) (old : ℕ) (was : Value) (links : List Link) (stk : List Value) (r : Rec) (re : Bool) (ps : List ℕ)
        → z.done ≡ w.done → leaf.Rests set W marks most Q runs members form facts rows enough native.PutWait (value.Box box) sides wa → bares (Lk m from to i callee s l wl self old was ∷ links) ≡ sides → c ≤ calm + 3 → suc (count_of links) ≤ 512
        → Good set W marks form (Lk m from to i callee s l wl self old was) → Goods set W marks form links → AreReady set W marks form wa.heap (Leaf native.PutWait) (value.Box box) (Lk m from to i callee s l wl self old was ∷ links)
        → u ≡ native_does set w Stop (Behind sides) (Fails w sides) native.PutWait args
        → wstep set W marks (WRun m ((form m).call_at from) wl stk (w_frames set W marks form links) (Fiber_at (Saved old was [] ∷ left_overs links) r [] re false) z ps) ≡ tries (leaf.goes_on set W marks most Q runs members form facts rows enough m ((form m).up_at from) wl s (w_frames set W marks form links)) (leaf.fails_on set W marks most Q runs members form facts rows enough m ((form m).up_at from) wl s (w_frames set W marks form links)) (Fiber_at (Saved old was [] ∷ left_overs links) r [] re false) k rest
        → Q (WRun m ((form m).call_at from) wl stk (w_frames set W marks form links) (Fiber_at (Saved old was [] ∷ left_overs links) r [] re false) z ps) → NextHeld set u → M u c (WRun m ((form m).call_at from) wl stk (w_frames set W marks form links) (Fiber_at (Saved old was [] ∷ left_overs links) r [] re false) z ps)
    waits_match zero rest z u c m from to i callee s l wl self old was links stk r re ps same q e few deep good goods ready eu ew here_ok held =
        put_match w time args z u c m from to i callee s l wl self old was links stk r re ps rest same few good goods (eu ∙ to_links m from to i callee s l wl self old was links e) ew here_ok held
    waits_match (suc k) rest z u c m from to i callee s l wl self old was links stk r re ps same q e few deep good goods ready eu ew here_ok held =
        let top = Lk m from to i callee s l wl self old was in
        let p = pause.pauses set W marks most Q runs members form facts rows.hands native.PutWait (value.Box box) None top links (suc c) wa (k ∷ rest) kept good goods ready (ready.0.3.4.1) tt deep (omega (arith, few, deep, enough))
        (leaf.rest_has set W marks most Q runs members form facts rows enough native.PutWait (value.Box box) sides wa (k ∷ rest) top links q e good goods ready (rev_onto (top ∷ links) []) refl) in
        let a = p.few in
        let nb = count_bare p.below in
        let nl = count_bare links in
        let es = ap count_of p.same in
        forward.after set W marks most Q runs members form facts rows enough
        (path.joins set W marks most Q runs
        (idle here_ok
        (subst (λ (y : Woven_state). To (suc c) (wstep set W marks (WRun m ((form m).call_at from) wl stk (w_frames set W marks form links) (Fiber_at (Saved old was [] ∷ left_overs links) r [] re false) z ps)) (suc c) y) ew stop))
        p.way)
        (next p.top p.below p.count (p.same ∙ e) (omega (arith, a, deep)) (omega (arith, nb, nl, es, deep)) p.good p.goods (leaf.same_ready set W marks most Q runs members form facts rows enough wa.heap (Leaf native.PutWait) (value.Box box) (p.top ∷ p.below) (top ∷ links) p.same ready)
        (λ m2 from2 to2 i2 callee2 s2 l2 wl2 self2 old2 was2 links2 d e2 few2 deep2 good2 goods2 ready2 ew2 ok2.
        waits_match k rest wa u d m2 from2 to2 i2 callee2 s2 l2 wl2 self2 old2 was2 links2 (value.Fiber ∷ again callee2 (value.Box box) s2) (Saved 0 (value.Box box) []) true (k ∷ rest) refl q e2 few2 deep2 good2 goods2 ready2 eu ew2 ok2 held))
      where
        next : (x : Link) (links : List Link) (d : ℕ) → bares (x ∷ links) ≡ sides → d ≤ calm + 3 → suc (count_of links) ≤ 512 → Good set W marks form x → Goods set W marks form links → AreReady set W marks form wa.heap (Leaf native.PutWait) (value.Box box) (x ∷ links)
            → ((m : MethodId) (from to : ℕ) (i : Instr) (callee : Method) (s l wl : List Value) (self : Value) (old : ℕ) (was : Value) (links : List Link) (d : ℕ) → bares (Lk m from to i callee s l wl self old was ∷ links) ≡ sides → d ≤ calm + 3 → suc (count_of links) ≤ 512 → Good set W marks form (Lk m from to i callee s l wl self old was) → Goods set W marks form links
            → AreReady set W marks form wa.heap (Leaf native.PutWait) (value.Box box) (Lk m from to i callee s l wl self old was ∷ links) → wstep set W marks (at_leaf set W marks form (value.Box box) (Lk m from to i callee s l wl self old was) links wa (k ∷ rest)) ≡ tries (leaf.goes_on set W marks most Q runs members form facts rows enough m ((form m).up_at from) wl s (w_frames set W marks form links)) (leaf.fails_on set W marks most Q runs members form facts rows enough m ((form m).up_at from) wl s (w_frames set W marks form links)) (Fiber_at (Saved old was [] ∷ left_overs links) (Saved 0 (value.Box box) []) [] true false) k rest → Q (at_leaf set W marks form (value.Box box) (Lk m from to i callee s l wl self old was) links wa (k ∷ rest)) → M u d (at_leaf set W marks form (value.Box box) (Lk m from to i callee s l wl self old was) links wa (k ∷ rest)))
            → M u d (at_leaf set W marks form (value.Box box) x links wa (k ∷ rest))
        next (Lk m from to i callee s l wl self old was) links d e few deep good goods ready on =
            let y = leaf.calls_again set W marks most Q runs members form facts rows enough (value.Box box) wa native.PutWait m from to i callee s l wl self old was links (k ∷ rest) good ready in
            on m from to i callee s l wl self old was links d e few deep good goods ready
            (y.2 ∙ (ap (λ (xs : List Value). wnative set W marks (leaf.goes_on set W marks most Q runs members form facts rows enough m ((form m).up_at from) wl s (w_frames set W marks form links)) (leaf.fails_on set W marks most Q runs members form facts rows enough m ((form m).up_at from) wl s (w_frames set W marks form links)) native.PutWait (xs ++ value.Fiber ∷ []) (Fiber_at (Saved old was [] ∷ left_overs links) (Saved 0 (value.Box box) []) [] true false) wa (k ∷ rest)) y.1.0 ∙ again_tries (leaf.goes_on set W marks most Q runs members form facts rows enough m ((form m).up_at from) wl s (w_frames set W marks form links)) (leaf.fails_on set W marks most Q runs members form facts rows enough m ((form m).up_at from) wl s (w_frames set W marks form links)) (Fiber_at (Saved old was [] ∷ left_overs links) (Saved 0 (value.Box box) []) [] true false) k rest)) y.3
