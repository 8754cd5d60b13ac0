-- Running forward: what ends a step on both sides, calls that return, methods that begin.
use Rattle.std.proofs.Common.{◌≡◌, inl, ℕ, suc, ◌+◌, ◌*◌, ◌≤◌, Bool, true, false, pos, List, [], ◌∷◌, ◌++◌, length, Option, Some, None, refl, sym, ap, subst, ◌∙◌, arith}
use Rattle.std.proofs.lemmas.Option.{slice_get_within}
use Rattle.std.proofs.lemmas.Bool.{false≢true}
use Rattle.kilim_run_state.specs.declared.cause.EndCause.{EndCause}
use Rattle.kilim_program.specs.declared.class.Method.{Method}
use Rattle.kilim_program.specs.declared.instr.Instr.{Instr}
use Rattle.kilim_program.specs.declared.instr.Instr.TheVariants as instr
use Rattle.kilim_program.specs.declared.names.MethodId.{MethodId}
use Rattle.kilim_program.specs.declared.value.Value.{Value}
use Rattle.kilim_program.specs.declared.value.Value.TheVariants as value
use Rattle.kilim_program.specs.Program.{Program}
use Rattle.kilim_run_state.specs.Machine.{Activation}
use Rattle.kilim_program.specs.Names.{method_at}
use Rattle.kilim_run_machine.specs.Effect.{Goes}
use Rattle.kilim_run_state.specs.Machine.{slots_of}
use Rattle.kilim_run_machine.specs.Moves.{slots_in, entered}
use Rattle.kilim_program.specs.Same.{argument_slots}
use Rattle.kilim_run_model.specs.State.{Setting}
use Rattle.kilim_weave_spec.specs.Woven.{member, fiber_slot}
use Rattle.kilim_fiber_spec.specs.Acts.{World, Over, ending}
use Rattle.kilim_fiber_spec.specs.Thread.{Thread, Run, Stop, own_of}
use Rattle.kilim_run_machine.specs.Natives.{Up}
use Rattle.kilim_fiber_spec.specs.Fibers.{Fib, Fiber_at, Rec, Saved, Woven_state, WRun, WStop, wstep}
use Rattle.kilim_fiber_spec.specs.Form.{Facts, Starts, Members, longest, is_pausable}
use Rattle.kilim_fiber_spec.specs.Runs.{stop, idle, mark, done_in}
use Rattle.kilim_fiber_spec.specs.Serves.{Rows}
use Rattle.kilim_fiber_spec.specs.Links.{Link, Lk, PLink, u_stack, left_overs, Forms, code, w_frames, w_stack, Holds, Held, Good, Goods, Takes, Both, Fw, unwoven, woven, Fine, Fine_at}
use Rattle.kilim_type_sound.specs.Fits.{AreThere, IsThere}
use Rattle.kilim_fiber_laws.proofs.simulation.Still.{StepIsKnown}
use Rattle.kilim_fiber_laws.proofs.simulation.Added as add
use Rattle.kilim_fiber_laws.proofs.simulation.Paths as path
use Rattle.kilim_fiber_laws.proofs.simulation.Prologue as prologue
use Rattle.kilim_fiber_laws.proofs.simulation.Natural.{ending_is}

-- how many uncounted instructions stand at most before a forward state
abbrev pub calm : ℕ
calm = 512 * (2 * longest + 3) + 8

module _ (set : Setting) (W : Program) (marks : List (List Bool)) (most : ℕ) (Q : Woven_state → Type 0)
    (runs : (m : MethodId) (p : ℕ) (l s : List Value) (b : List Activation) (f : Fib) (w : World) (ps : List ℕ) → StepIsKnown set W marks (WRun m p l s b f w ps) → AreThere w.heap s → Q (WRun m p l s b f w ps))
    (members : Members set.program W) (form : Forms set W marks) (facts : (m : MethodId) → Facts set.program W (code set W marks) (form m)) (rows : Rows set W marks form)
    (enough : calm + 8 + 512 * longest ≤ most) where
  abbrev To : ℕ → Woven_state → ℕ → Woven_state → Type 0
  To c x d y = path.To set W marks most Q runs c x d y

  -- what comes of both
  pub data Match (u : Thread) (c : ℕ) (x : Woven_state) : Type 0 where
    Goes_on : (t : Both) → u ≡ unwoven t → (d : ℕ) → d ≤ calm → To c x d (woven set W marks form t) → Fine set W marks form t → Match u c x
    Overs : (o : Over) → u ≡ Stop o → (d : ℕ) → d ≤ most → To c x d (WStop o) → Match u c x

  pub after : {u : Thread} {c d : ℕ} {x y : Woven_state} → To c x d y → Match u d y → Match u c x
  after p (Goes_on t e n few r fine) = Goes_on t e n few (path.joins set W marks most Q runs p r) fine
  after p (Overs o e n few r) = Overs o e n few (path.joins set W marks most Q runs p r)

  -- the step is over, on both sides by the same cause
  pub both_end : (u : Thread) (c : ℕ) (m : MethodId) (p : ℕ) (l s : List Value) (b : List Activation) (f : Fib) (w v : World) (ps : List ℕ) (e : EndCause)
      → suc c ≤ most → u ≡ ending set v Stop e → wstep set W marks (WRun m p l s b f w ps) ≡ ending set v WStop e → Q (WRun m p l s b f w ps) → Match u c (WRun m p l s b f w ps)
  both_end u c m p l s b f w v ps e few eu ew q =
      Overs (ending set v (λ (o : Over). o) e) (eu ∙ ending_is set v Stop e) (suc c) few
      (idle q (subst (λ (z : Woven_state). To (suc c) (wstep set W marks (WRun m p l s b f w ps)) (suc c) z) (ew ∙ ending_is set v WStop e) stop))

  pub both_over : (u : Thread) (c : ℕ) (m : MethodId) (p : ℕ) (l s : List Value) (b : List Activation) (f : Fib) (w : World) (ps : List ℕ) (o : Over)
      → suc c ≤ most → u ≡ Stop o → wstep set W marks (WRun m p l s b f w ps) ≡ WStop o → Q (WRun m p l s b f w ps) → Match u c (WRun m p l s b f w ps)
  both_over u c m p l s b f w ps o few eu ew q =
      Overs o eu (suc c) few (idle q (subst (λ (z : Woven_state). To (suc c) (wstep set W marks (WRun m p l s b f w ps)) (suc c) z) ew stop))

  -- one counted instruction
  pub counts : (c : ℕ) (m : MethodId) (p : ℕ) (l s : List Value) (b : List Activation) (f : Fib) (w : World) (ps : List ℕ) (m2 : MethodId) (p2 : ℕ) (l2 s2 : List Value) (b2 : List Activation) (f2 : Fib) (w2 : World) (ps2 : List ℕ)
      → c ≤ most → wstep set W marks (WRun m p l s b f w ps) ≡ WRun m2 p2 l2 s2 b2 f2 w2 ps2 → w2.done ≡ w.done + 1 → Q (WRun m p l s b f w ps) → To c (WRun m p l s b f w ps) 0 (WRun m2 p2 l2 s2 b2 f2 w2 ps2)
  counts c m p l s b f w ps m2 p2 l2 s2 b2 f2 w2 ps2 few e d q =
      mark q few (inl (w.done, refl, ap done_in e ∙ ap Some d))
      (subst (λ (z : Woven_state). To 0 (wstep set W marks (WRun m p l s b f w ps)) 0 z) e stop)

  -- a forward state, by a counted instruction
  pub on : (u : Thread) (c : ℕ) (m : MethodId) (p : ℕ) (l s : List Value) (b : List Activation) (f : Fib) (w : World) (ps : List ℕ)
      (m2 : MethodId) (p2 : ℕ) (s2 l2 wl2 : List Value) (x2 : Value) (ov : List PLink) (links : List Link) (old : ℕ) (was : Value) (w2 : World) (ps2 : List ℕ)
      → c ≤ most → u ≡ Run m2 p2 l2 s2 x2 (u_stack ov links) w2
      → wstep set W marks (WRun m p l s b f w ps) ≡ WRun m2 ((form m2).at p2) wl2 s2 (w_stack set W marks form ov links) (Fiber_at (left_overs links) (Saved old was []) [] false false) w2 ps2
      → w2.done ≡ w.done + 1 → Fine_at set W marks form m2 p2 l2 wl2 x2 ov links → Q (WRun m p l s b f w ps) → Match u c (WRun m p l s b f w ps)
  on u c m p l s b f w ps m2 p2 s2 l2 wl2 x2 ov links old was w2 ps2 few eu ew d fine q =
      Goes_on (Fw m2 p2 s2 l2 wl2 x2 ov links old was w2 ps2) eu 0 (omega arith)
      (counts c m p l s b f w ps m2 ((form m2).at p2) wl2 s2 (w_stack set W marks form ov links) (Fiber_at (left_overs links) (Saved old was []) [] false false) w2 ps2 few ew d q) fine

  -- ---- behind a pausable call that doesn't pause

  pub held_true : (m : MethodId) (l wl : List Value) (x : Value) (b : Bool) → b ≡ true → Holds set W marks form m l wl x → Held set W marks form b m l wl x
  held_true m l wl x true e h = h
  held_true m l wl x false e h = absurd (false≢true e)

  pub held_false : (m : MethodId) (l wl : List Value) (x : Value) (b : Bool) → b ≡ false → length l ≤ length wl → (is_pausable set.program m ≡ false → wl ≡ l) → Held set W marks form b m l wl x
  held_false m l wl x true e h same = absurd (false≢true (sym e))
  held_false m l wl x false e h same = (h, same)

  pub held_holds : (m : MethodId) (l wl : List Value) (x : Value) (b : Bool) → b ≡ true → Held set W marks form b m l wl x → Holds set W marks form m l wl x
  held_holds m l wl x true e h = h
  held_holds m l wl x false e h = absurd (false≢true e)

  pub returned : (m : MethodId) (from to : ℕ) (i : Instr) (callee : Method) (s0 s l wl : List Value) (self : Value) (old : ℕ) (was : Value) (links : List Link) (r : Rec) (c : ℕ) (w : World) (ps : List ℕ)
      → Good set W marks form (Lk m from to i callee s0 l wl self old was) → Goods set W marks form links → length s ≤ suc (length s0) → AreThere w.heap s
      → To c (WRun m ((form m).up_at from) wl s (w_frames set W marks form links) (Fiber_at (Saved old was [] ∷ left_overs links) r [] false false) w ps)
      (suc (suc (suc c))) (WRun m ((form m).at to) wl s (w_frames set W marks form links) (Fiber_at (left_overs links) (Saved old was []) [] false false) w ps)
      × Fine_at set W marks form m to l wl self [] links
  returned m from to i callee s0 s l wl self old was links r c w ps good goods one_more th =
      let g = (facts m).group from to i callee good.0 good.1 in
      let low = good.4 in
      let high = (facts m).higher g.has_calls in
      let h = g.up in
      let b = w_frames set W marks form links in
      let lo = left_overs links in
      let f0 = Fiber_at (Saved old was [] ∷ lo) r [] false false in
      let f1 = Fiber_at lo (Saved old was []) [] false false in
      let LL = fiber_slot (form m).method in (
        path.joins set W marks most Q runs
            (path.one set W marks most Q runs c m ((form m).up_at from) wl s b f0 w ps (instr.Aload LL) h.0 false (Goes h.0 wl (value.Fiber ∷ s) w.heap) h.1 refl (add.aload W (own_of W m) h.0 wl s w.heap LL value.Fiber good.3.fiber add.fiber_is_reference)
            (path.goes_room set.program W m b w.heap h.0 wl (value.Fiber ∷ s) w.heap (omega (arith, low, high, one_more))) th (λ on. (on, refl, refl)) (λ on. tt))
            (path.joins set W marks most Q runs
            (path.calls set W marks most Q runs (suc c) m h.0 wl (value.Fiber ∷ s) s b f0 w ps (instr.Invokevirtual (member set.program 2)) h.2.0 (member set.program 2) (value.Fiber ∷ []) Up h.2.1
            (members.alone 2 Up refl refl (own_of W m) h.2.0 wl s w.heap) (members.named 2 Up refl) (omega (arith, low, high, one_more)) (tt, th))
            (path.one set W marks most Q runs (suc (suc c)) m h.2.0 wl (value.Int (pos 0) ∷ s) b f1 w ps (instr.Ifeq ((form m).at to)) h.2.2.0 false (Goes ((form m).at to) wl s w.heap) h.2.2.1 refl (add.if_zero W (own_of W m) h.2.2.0 wl s w.heap ((form m).at to))
            (path.goes_room set.program W m b w.heap ((form m).at to) wl s w.heap (omega (arith, low, high, one_more))) (tt, th) (λ on. (on, refl, refl)) (λ on. tt))),
        record { alike = λ k z. good.2 k (g.kept k z); held = held_true m l wl self (form m).has_calls g.has_calls good.3; stacked = goods },
      )

  -- ---- a pausable method begins

  pub begun : (c : MethodId) (args : List Value) (links : List Link) (old : ℕ) (was : Value) (y : Value) (w : World) (ps : List ℕ)
      → Takes set W marks form c args y → Goods set W marks form links → is_pausable set.program c ≡ true → IsThere w.heap y
      → (wl : List Value) × (d : ℕ) × (d ≤ longest)
      × To 0 (WRun c 0 (entered W c (args ++ value.Fiber ∷ [])).locals [] (w_frames set W marks form links) (Fiber_at (left_overs links) (Saved old was []) [] false false) w ps)
      d (WRun c ((form c).at 0) wl [] (w_frames set W marks form links) (Fiber_at (left_overs links) (Saved old was []) [] false false) w ps)
      × Fine_at set W marks form c 0 (entered set.program c args).locals wl y [] links
  begun c args links old was y w ps takes goods pauses self_there = by (form c).has_calls refl (facts c).starts
    where
      old_max : (o : Option Method) → ((a : Method) → o ≡ Some a → a ≡ (form c).method) → slots_in o ≤ (form c).method.max_locals
      old_max None h = omega arith
      old_max (Some a) h = let e = ap (λ (z : Method). z.max_locals) (h a refl) in omega (arith, e)

      by : (b : Bool) → (form c).has_calls ≡ b → Starts set.program W (code set W marks) (form c) b → (wl : List Value) × (d : ℕ) × (d ≤ longest)
          × To 0 (WRun c 0 (entered W c (args ++ value.Fiber ∷ [])).locals [] (w_frames set W marks form links) (Fiber_at (left_overs links) (Saved old was []) [] false false) w ps)
          d (WRun c ((form c).at 0) wl [] (w_frames set W marks form links) (Fiber_at (left_overs links) (Saved old was []) [] false false) w ps)
          × Fine_at set W marks form c 0 (entered set.program c args).locals wl y [] links
      by true e starts =
          let st = prologue.starts set W marks most Q runs members form facts c y (entered W c (args ++ value.Fiber ∷ [])).locals 0 (w_frames set W marks form links) (left_overs links) old was [] [] false false w ps e
          (prologue.entered_fiber W c args (argument_slots (form c).method) takes.slots)
          (λ z. let v = takes.self_first z in prologue.entered_argument W c args 0 (slice_get_within (slots_of args) 0 y v) ∙ v)
          takes.is_reference (prologue.entered_length W c (args ++ value.Fiber ∷ [])) self_there in
          let a1 = st.few in
          let a2 = (facts c).within st.switch st.last _ st.is_switch in
          let s1 = takes.slots in
          let m1 = prologue.entered_is set.program c args in
          let m2 = old_max (method_at set.program c) (form c).there in
          let m3 = prologue.larger_left (form c).method.max_locals (suc (argument_slots (form c).method)) in
          let m4 = prologue.larger_right (form c).method.max_locals (suc (argument_slots (form c).method)) in (
            st.locals,
            st.count,
            omega (arith, a1, a2),
            subst (λ (q : ℕ). To 0 (WRun c 0 (entered W c (args ++ value.Fiber ∷ [])).locals [] (w_frames set W marks form links) (Fiber_at (left_overs links) (Saved old was []) [] false false) w ps) st.count (WRun c q st.locals [] (w_frames set W marks form links) (Fiber_at (left_overs links) (Saved old was []) [] false false) w ps))
                (prologue.by_zero set W marks most Q runs members form facts c) st.way,
            record {
              alike = λ k z. let v = (facts c).arguments k z in
                  prologue.entered_plain set.program c args k (omega (arith, v, s1)) ∙ sym (prologue.entered_argument W c args k (omega (arith, v, s1))) ∙ sym (st.sets.others k (omega (arith, v, m4)));
              held = held_true c (entered set.program c args).locals st.locals y (form c).has_calls e
                  (record { fiber = st.sets.fiber; self_there = st.sets.self; self_none = takes.self_none; is_reference = takes.is_reference; within = omega (arith, m1, m2, m3, m4, s1) });
              stacked = goods;
            },
          )
      by false e starts =
          let s1 = takes.slots in
          let m1 = prologue.entered_is set.program c args in
          let m2 = prologue.entered_is W c (args ++ value.Fiber ∷ []) in
          let m3 = prologue.more_slots args in
          let m4 = (facts c).same_room in (
            (entered W c (args ++ value.Fiber ∷ [])).locals,
            0,
            omega arith,
            subst (λ (q : ℕ). To 0 (WRun c 0 (entered W c (args ++ value.Fiber ∷ [])).locals [] (w_frames set W marks form links) (Fiber_at (left_overs links) (Saved old was []) [] false false) w ps) 0 (WRun c q (entered W c (args ++ value.Fiber ∷ [])).locals [] (w_frames set W marks form links) (Fiber_at (left_overs links) (Saved old was []) [] false false) w ps))
                (sym starts) stop,
            record {
              alike = λ k z. let v = (facts c).arguments k z in
                  prologue.entered_plain set.program c args k (omega (arith, v, s1)) ∙ sym (prologue.entered_argument W c args k (omega (arith, v, s1)));
              held = held_false c (entered set.program c args).locals (entered W c (args ++ value.Fiber ∷ [])).locals y (form c).has_calls e (omega (arith, m1, m2, m3, m4)) (λ plain. absurd (false≢true (sym plain ∙ pauses)));
              stacked = goods;
            },
          )
