-- An old instruction that is no pausable call: one case distinction over effects.
use Rattle.std.proofs.Common.{◌≡◌, ◌≢◌, ℕ, suc, ◌+◌, ◌*◌, ◌<◌, ◌≤◌, Bool, true, false, List, [], ◌∷◌, ◌++◌, length, Option, Some, None, refl, sym, ap, subst, ◌∙◌, arith}
use Rattle.std.specs.Prelude.{slice_get, nat_lt, if◌then◌else◌, replicate, ◌-◌}
use Rattle.std.proofs.lemmas.Bool.{false≢true}
use Rattle.std.specs.FinMap.{insert}
use Rattle.kilim_run_state.specs.declared.cause.EndCause.{EndCause}
use Rattle.kilim_run_state.specs.declared.cause.EndCause.TheVariants as cause
use Rattle.kilim_program.specs.declared.class.Method.{Method}
use Rattle.kilim_program.specs.declared.names.ClassId.{ClassId}
use Rattle.kilim_program.specs.declared.names.MethodId.{MethodId}
use Rattle.kilim_program.specs.declared.value.Value.{Value}
use Rattle.kilim_program.specs.declared.value.Value.TheVariants as value
use Rattle.kilim_program.specs.Program.{Program}
use Rattle.kilim_run_state.specs.Machine.{Objects, Activation}
use Rattle.kilim_program.specs.Names.{method_at}
use Rattle.kilim_program.specs.Members.{execute_of}
use Rattle.kilim_run_machine.specs.Natives.{Native, native_of}
use Rattle.kilim_run_machine.specs.Natives as native
use Rattle.kilim_run_machine.specs.Effect.{Effect, Goes, Makes, Opens, Calls, Asks, Returns, Raises, Throws, Ends, Stuck}
use Rattle.kilim_run_state.specs.Machine.{slots_of}
use Rattle.kilim_run_machine.specs.Moves.{entered, frame_limit}
use Rattle.kilim_run_model.specs.State.{Setting}
use Rattle.kilim_fiber_spec.specs.Acts.{World, Lost, counted, with_heap, ending, native_does, asks, opens_box}
use Rattle.kilim_run_machine.specs.Raising.{thrown}
use Rattle.kilim_fiber_spec.specs.Thread.{push, At, Thread, Run, Stop, self_of, effect_does, calls, returns, finishes, begins, begins_in, left_at, raised_behind}
use Rattle.kilim_run_machine.specs.Natives.{FiberMember}
use Rattle.kilim_fiber_spec.specs.Fibers.{Fib, Fiber_at, Saved, member_of, Woven_state, WRun, WStop, wstep, weffect, wcalls, wreturns, wfinishes, wbegins, wbegins_in, wasks, wnatives, wnative, wraised_behind, frame}
use Rattle.kilim_fiber_spec.specs.Form.{Facts, Starts, Members, longest, is_pausable}
use Rattle.kilim_fiber_spec.specs.Rows.{elsewhere}
use Rattle.kilim_fiber_spec.specs.Serves.{Rows, Twins, is_pausing_native}
use Rattle.kilim_fiber_spec.specs.Links.{Link, Lk, PLink, Pk, u_frames, u_stack, left_overs, Forms, code, w_frames, w_stack, Takes, Fw, Fine_at}
use Rattle.kilim_type_sound.specs.Fits.{AreThere}
use Rattle.kilim_fiber_laws.proofs.simulation.Still.{StepIsKnown}
use Rattle.kilim_fiber_laws.proofs.simulation.Paths as path
use Rattle.kilim_fiber_laws.proofs.simulation.Natural.{Outcome, GoesOn, IsOver, IsRaised, fold, Counts, native_same, opens_same}
use Rattle.kilim_fiber_laws.proofs.simulation.Forward.{calm, Match, Goes_on}
use Rattle.kilim_fiber_laws.proofs.simulation.Forward as forward
use Rattle.kilim_fiber_laws.proofs.simulation.Catching.{GoesAlike, EndsAlike, CaughtAlike}
use Rattle.kilim_fiber_laws.proofs.simulation.Catching as catching
use Rattle.kilim_fiber_laws.proofs.simulation.Unwinds.{push_low}
use Rattle.kilim_fiber_laws.proofs.simulation.Held.{NextHeld}

pub stack_length : (set : Setting) (W : Program) (marks : List (List Bool)) (form : Forms set W marks) (ov : List PLink) (links : List Link) → length (u_stack ov links) ≡ length (w_stack set W marks form ov links)
stack_length set W marks form [] [] = refl
stack_length set W marks form [] (Lk m from to i callee s l wl self old was ∷ ks) = ap suc (stack_length set W marks form [] ks)
stack_length set W marks form (Pk m to s l wl x ∷ ov) ks = ap suc (stack_length set W marks form ov ks)

module _ (set : Setting) (W : Program) (marks : List (List Bool)) (most : ℕ) (Q : Woven_state → Type 0)
    (runs : (m : MethodId) (p : ℕ) (l s : List Value) (b : List Activation) (f : Fib) (w : World) (ps : List ℕ) → StepIsKnown set W marks (WRun m p l s b f w ps) → AreThere w.heap s → Q (WRun m p l s b f w ps))
    (members : Members set.program W) (form : Forms set W marks) (facts : (m : MethodId) → Facts set.program W (code set W marks) (form m)) (rows : Rows set W marks form)
    (enough : calm + 8 + 512 * longest ≤ most) where
  abbrev M : Thread → ℕ → Woven_state → Type 0
  M = Match set W marks most Q runs members form facts rows enough

  abbrev To : ℕ → Woven_state → ℕ → Woven_state → Type 0
  To c x d y = path.To set W marks most Q runs c x d y

  -- a native that doesn't pause is done as in the unwoven program
  plain_native : (go : Fib → World → List ℕ → Option Value → Woven_state) (raise : Fib → World → List ℕ → EndCause → Woven_state) (n : Native) (args : List Value) (f : Fib) (w : World) (ps : List ℕ) → is_pausing_native n ≡ false
      → wnative set W marks go raise n args f w ps ≡ native_does set w WStop (λ (a : World) (v : Option Value). go f a ps v) (raise f w ps) n args
  plain_native go raise native.Get args f w ps h = absurd (false≢true (sym h))
  plain_native go raise native.Yield args f w ps h = absurd (false≢true (sym h))
  plain_native go raise native.PutWait args f w ps h = absurd (false≢true (sym h))
  plain_native go raise native.Execute args f w ps h = absurd (false≢true (sym h))
  plain_native go raise n args f w ps h = refl

  module _ (c : ℕ) (few : c ≤ calm) (m : MethodId) (p : ℕ) (l s wl : List Value) (x : Value) (ov : List PLink) (links : List Link) (old : ℕ) (was : Value) (w : World) (ps : List ℕ) (fine : Fine_at set W marks form m p l wl x ov links)
      (here_ok : Q (WRun m ((form m).at p) wl s (w_stack set W marks form ov links) (Fiber_at (left_overs links) (Saved old was []) [] false false) w ps)) where
    abbrev b : List Activation
    b = w_stack set W marks form ov links

    abbrev f : Fib
    f = Fiber_at (left_overs links) (Saved old was []) [] false false

    abbrev here : Woven_state
    here = WRun m ((form m).at p) wl s b f w ps

    room : c ≤ most
    room = omega (arith, few, enough)

    room1 : suc c ≤ most
    room1 = omega (arith, few, enough)

    ends : (u : Thread) (v : World) (e : EndCause) → u ≡ ending set v Stop e → wstep set W marks here ≡ ending set v WStop e → M u c here
    ends u v e eu ew = forward.both_end set W marks most Q runs members form facts rows enough u c m ((form m).at p) wl s b f w v ps e room1 eu ew here_ok

    on : (u : Thread) (m2 : MethodId) (p2 : ℕ) (s2 l2 wl2 : List Value) (x2 : Value) (ov2 : List PLink) (old2 : ℕ) (was2 : Value) (w2 : World) → u ≡ Run m2 p2 l2 s2 x2 (u_stack ov2 links) w2
        → wstep set W marks here ≡ WRun m2 ((form m2).at p2) wl2 s2 (w_stack set W marks form ov2 links) f w2 ps
        → w2.done ≡ w.done + 1 → Fine_at set W marks form m2 p2 l2 wl2 x2 ov2 links → M u c here
    on u m2 p2 s2 l2 wl2 x2 ov2 old2 was2 w2 eu ew d fine2 =
        forward.on set W marks most Q runs members form facts rows enough u c m ((form m).at p) wl s b f w ps m2 p2 s2 l2 wl2 x2 ov2 links old was w2 ps room eu ew d fine2 here_ok

    -- what is raised or thrown
    arrives : (u t : Thread) (v : World) (why : EndCause) (y : Woven_state) → v.done ≡ w.done + 1 → u ≡ t → wstep set W marks here ≡ y → GoesAlike set W marks form facts rows.catches f ps v why links t y → M u c here
    arrives u t v why y d eu ew (EndsAlike e1 e2) = ends u v why (eu ∙ e1) (ew ∙ e2)
    arrives u t v why y d eu ew (CaughtAlike m2 q2 s2 l2 wl2 x2 ov2 after e1 e2 same fine2) = on u m2 q2 s2 l2 wl2 x2 ov2 old was after (eu ∙ e1) (ew ∙ e2) (same ∙ d) fine2

    -- an outcome of a native, a new mailbox
    outcome : (v : World) → v.done ≡ w.done → (u : Thread) (q : ℕ) (s2 l2 wl2 : List Value) (o : Outcome)
        → u ≡ fold Stop (λ (a : World) (v : Option Value). Run m q l2 (push v s2) x (u_stack ov links) a) (raised_behind set (At m q l2 s2 x ∷ u_stack ov links) v) o
        → wstep set W marks here ≡ fold WStop (λ (a : World) (v : Option Value). WRun m ((form m).at q) wl2 (push v s2) b f a ps) (wraised_behind set W marks (frame m ((form m).at q) wl2 s2 ∷ b) f v ps) o
        → Counts w o → Fine_at set W marks form m q l2 wl2 x ov links → M u c here
    outcome v same u q s2 l2 wl2 (GoesOn a y) eu ew n fine2 = on u m q (push y s2) l2 wl2 x ov old was a eu ew n fine2
    outcome v same u q s2 l2 wl2 (IsOver o) eu ew n fine2 = forward.both_over set W marks most Q runs members form facts rows enough u c m ((form m).at p) wl s b f w ps o room1 eu ew here_ok
    outcome v same u q s2 l2 wl2 (IsRaised why) eu ew n fine2 =
        arrives u (raised_behind set (At m q l2 s2 x ∷ u_stack ov links) v why) (counted v) why (wraised_behind set W marks (frame m ((form m).at q) wl2 s2 ∷ b) f v ps why) (ap (λ (k : ℕ). k + 1) same) eu ew
        (catching.behind_raised set W marks form facts rows.catches f ps v why m q l2 wl2 s2 x ov links fine2)

    natives : (u : Thread) (o n2 : Option Native) (mem : Option FiberMember) (args : List Value) (q : ℕ) (s2 l2 wl2 : List Value) (heap : Objects)
        → u ≢ Stop Lost → mem ≡ None → n2 ≡ o → ((n : Native) → o ≡ Some n → is_pausing_native n ≡ false)
        → u ≡ asks set (with_heap w heap) Stop (λ (a : World) (v : Option Value). Run m q l2 (push v s2) x (u_stack ov links) a) (raised_behind set (At m q l2 s2 x ∷ u_stack ov links) (with_heap w heap)) o args
        → wstep set W marks here ≡ wasks set W marks (λ (f2 : Fib) (a : World) (rest : List ℕ) (v : Option Value). WRun m ((form m).at q) wl2 (push v s2) b f2 a rest) (wraised_behind set W marks (frame m ((form m).at q) wl2 s2 ∷ b)) mem n2 args f (with_heap w heap) ps
        → Fine_at set W marks form m q l2 wl2 x ov links → M u c here
    natives u None n2 mem args q s2 l2 wl2 heap ok em en np eu ew fine2 = absurd (ok eu)
    natives u (Some n) n2 mem args q s2 l2 wl2 heap ok em en np eu ew fine2 =
        let go = λ (f2 : Fib) (a : World) (rest : List ℕ) (v : Option Value). WRun m ((form m).at q) wl2 (push v s2) b f2 a rest in
        let z = native_same set (with_heap w heap) Stop (λ (a : World) (v : Option Value). Run m q l2 (push v s2) x (u_stack ov links) a) (raised_behind set (At m q l2 s2 x ∷ u_stack ov links) (with_heap w heap)) n args in
        let y = native_same set (with_heap w heap) WStop (λ (a : World) (v : Option Value). WRun m ((form m).at q) wl2 (push v s2) b f a ps) (wraised_behind set W marks (frame m ((form m).at q) wl2 s2 ∷ b) f (with_heap w heap) ps) n args in
        outcome (with_heap w heap) refl u q s2 l2 wl2 (native_does set (with_heap w heap) IsOver GoesOn IsRaised n args) (eu ∙ z.0)
        (ew ∙ ap (λ (k : Option FiberMember). wasks set W marks (λ (f2 : Fib) (a : World) (rest : List ℕ) (v : Option Value). WRun m ((form m).at q) wl2 (push v s2) b f2 a rest) (wraised_behind set W marks (frame m ((form m).at q) wl2 s2 ∷ b)) k n2 args f (with_heap w heap) ps) em
        ∙ ap (λ (k : Option Native). wnatives set W marks (λ (f2 : Fib) (a : World) (rest : List ℕ) (v : Option Value). WRun m ((form m).at q) wl2 (push v s2) b f2 a rest) (wraised_behind set W marks (frame m ((form m).at q) wl2 s2 ∷ b)) k args f (with_heap w heap) ps) en
        ∙ plain_native (λ (f2 : Fib) (a : World) (rest : List ℕ) (v : Option Value). WRun m ((form m).at q) wl2 (push v s2) b f2 a rest) (wraised_behind set W marks (frame m ((form m).at q) wl2 s2 ∷ b)) n args f (with_heap w heap) ps (np n refl) ∙ y.0)
        z.1 fine2

    -- a call of a method that isn't pausable
    plain_calls : (u : Thread) (callee : MethodId) (args : List Value) (q : ℕ) (s2 l2 wl2 : List Value) (heap : Objects)
        → is_pausable set.program callee ≡ false → u ≡ calls set callee args (At m q l2 s2 x ∷ u_stack ov links) (with_heap w heap)
        → wstep set W marks here ≡ wcalls set W marks true callee args (frame m ((form m).at q) wl2 s2 ∷ b) f (with_heap w heap) ps
        → Fine_at set W marks form m q l2 wl2 x ov links → M u c here
    plain_calls u callee args q s2 l2 wl2 heap np eu ew fine2 = by (nat_lt (suc (length b)) frame_limit) eu2 ew
      where
        self : Value
        self = self_of set.program callee args

        n : length (At m q l2 s2 x ∷ u_stack ov links) ≡ suc (length b)
        n = ap suc (stack_length set W marks form ov links)

        eu2 : u ≡ (if nat_lt (suc (length b)) frame_limit then Run callee 0 (entered set.program callee args).locals [] (self_of set.program callee args) (At m q l2 s2 x ∷ u_stack ov links) (counted (with_heap w heap)) else ending set (with_heap w heap) Stop cause.Depth)
        eu2 = eu ∙ ap (λ (k : ℕ). if nat_lt k frame_limit then Run callee 0 (entered set.program callee args).locals [] (self_of set.program callee args) (At m q l2 s2 x ∷ u_stack ov links) (counted (with_heap w heap)) else ending set (with_heap w heap) Stop cause.Depth) n

        at0 : (a : Bool) → (form callee).has_calls ≡ a → Starts set.program W (code set W marks) (form callee) a → ((form callee).at 0 ≡ 0) × (a ≡ false)
        at0 true e st = absurd (false≢true (sym np ∙ (facts callee).calls_pausable e))
        at0 false e st = (st, refl)

        quiet : ((form callee).at 0 ≡ 0) × ((form callee).has_calls ≡ false)
        quiet = at0 (form callee).has_calls refl (facts callee).starts

        same_locals : (entered W callee args).locals ≡ (entered set.program callee args).locals
        same_locals = ap (λ (k : ℕ). slots_of args ++ replicate (k - length (slots_of args)) value.Null) (rows.same_slots callee np)

        by : (a : Bool) → u ≡ (if a then Run callee 0 (entered set.program callee args).locals [] (self_of set.program callee args) (At m q l2 s2 x ∷ u_stack ov links) (counted (with_heap w heap)) else ending set (with_heap w heap) Stop cause.Depth)
            → wstep set W marks here ≡ (if a then WRun callee 0 (entered W callee args).locals [] (frame m ((form m).at q) wl2 s2 ∷ b) f (counted (with_heap w heap)) ps else ending set (with_heap w heap) WStop cause.Depth) → M u c here
        by false eu ew = ends u (with_heap w heap) cause.Depth eu ew
        by true eu ew =
            on u callee 0 [] (entered set.program callee args).locals (entered W callee args).locals (self_of set.program callee args) (Pk m q s2 l2 wl2 x ∷ ov) old was (counted (with_heap w heap)) eu
            (ew ∙ ap (λ (k : ℕ). WRun callee k (entered W callee args).locals [] (frame m ((form m).at q) wl2 s2 ∷ b) f (counted (with_heap w heap)) ps) (sym quiet.0)) refl
            (record {
              alike = λ k z. ap (λ (ls : List Value). slice_get ls k) (sym same_locals);
              held = forward.held_false set W marks most Q runs members form facts rows enough callee (entered set.program callee args).locals (entered W callee args).locals (self_of set.program callee args) (form callee).has_calls quiet.1 (subst (λ (ls : List Value). length (entered set.program callee args).locals ≤ length ls) (sym same_locals) (omega arith)) (λ plain. same_locals);
              stacked = (np, fine2.alike, fine2.held, fine2.stacked);
            })

  -- ---- the end of a call

  -- the constructor of task 0 is done: `execute` begins
  task_begins : (begin_takes : (k : MethodId) (n : ℕ) → execute_of set.program set.main ≡ Some k → Takes set W marks form k (value.Ref n ∷ []) (value.Ref n))
      → (c : ℕ) → c ≤ calm → (m : MethodId) (q : ℕ) (wl s : List Value) (old : ℕ) (was : Value) (w v : World) (ps : List ℕ) (n : ℕ) (u : Thread) (k : Option MethodId) → execute_of set.program set.main ≡ k → u ≢ Stop Lost → v.done ≡ w.done
      → u ≡ begins set n v (record (counted v) { kept = None }) k
      → wstep set W marks (WRun m q wl s [] (Fiber_at [] (Saved old was []) [] false false) w ps) ≡ wbegins set W marks n v (record (counted v) { kept = None }) (Fiber_at [] (Saved old was []) [] false false) ps (execute_of W set.main)
      → Q (WRun m q wl s [] (Fiber_at [] (Saved old was []) [] false false) w ps) → NextHeld set u → M u c (WRun m q wl s [] (Fiber_at [] (Saved old was []) [] false false) w ps)
  task_begins begin_takes c few m q wl s old was w v ps n u None e ok d eu ew here_ok held = absurd (ok eu)
  task_begins begin_takes c few m q wl s old was w v ps n u (Some k) e ok d eu ew here_ok held = by (method_at set.program k) refl eu
    where
      f : Fib
      f = Fiber_at [] (Saved old was []) [] false false

      by : (o : Option Method) → method_at set.program k ≡ o → u ≡ begins_in set k n v (record (counted v) { kept = None }) o → M u c (WRun m q wl s [] (Fiber_at [] (Saved old was []) [] false false) w ps)
      by None h eu = absurd (ok eu)
      by (Some a) h eu =
          let z = rows.begins_alike k a e h in
          by_kind a.built_in eu
          (ew ∙ ap (λ (o : Option MethodId). wbegins set W marks n v (record (counted v) { kept = None }) (Fiber_at [] (Saved old was []) [] false false) ps o) (rows.begins ∙ e)
          ∙ ap (λ (o : Option Method). wbegins_in set W marks k n v (record (counted v) { kept = None }) (Fiber_at [] (Saved old was []) [] false false) ps o) z.1
          ∙ ap (λ (t : Bool). if t then ending set v WStop cause.Done else WRun k 0 (entered W k (value.Ref n ∷ value.Fiber ∷ [])).locals [] [] (Fiber_at [] (Saved old was []) [] false false) (record (counted v) { kept = None }) ps) z.2)
        where
          pauses : is_pausable set.program k ≡ true
          pauses = ap (λ (o : Option Method). elim o [ None ↦ false | Some z ↦ z.pausable ]) h ∙ (rows.begins_alike k a e h).3

          by_kind : (t : Bool) → u ≡ (if t then ending set v Stop cause.Done else Run k 0 (entered set.program k (value.Ref n ∷ [])).locals [] (value.Ref n) [] (record (counted v) { kept = None }))
              → wstep set W marks (WRun m q wl s [] (Fiber_at [] (Saved old was []) [] false false) w ps) ≡ (if t then ending set v WStop cause.Done else WRun k 0 (entered W k (value.Ref n ∷ value.Fiber ∷ [])).locals [] [] (Fiber_at [] (Saved old was []) [] false false) (record (counted v) { kept = None }) ps)
              → M u c (WRun m q wl s [] (Fiber_at [] (Saved old was []) [] false false) w ps)
          by_kind true eu ew = forward.both_end set W marks most Q runs members form facts rows enough u c m q wl s [] (Fiber_at [] (Saved old was []) [] false false) w v ps cause.Done (omega (arith, few, enough)) eu ew here_ok
          by_kind false eu ew =
              let z = forward.begun set W marks most Q runs members form facts rows enough k (value.Ref n ∷ []) [] old was (value.Ref n) (record (counted v) { kept = None }) ps (begin_takes k n e) tt pauses (held.self k 0 (entered set.program k (value.Ref n ∷ [])).locals [] (value.Ref n) [] (record (counted v) { kept = None }) eu pauses) in
              let a = z.2 in
              Goes_on (Fw k 0 [] (entered set.program k (value.Ref n ∷ [])).locals z.0 (value.Ref n) [] [] old was (record (counted v) { kept = None }) ps) eu z.1 (omega (arith, a))
              (path.joins set W marks most Q runs
              (forward.counts set W marks most Q runs members form facts rows enough c m q wl s [] (Fiber_at [] (Saved old was []) [] false false) w ps k 0 (entered W k (value.Ref n ∷ value.Fiber ∷ [])).locals [] [] (Fiber_at [] (Saved old was []) [] false false) (record (counted v) { kept = None }) ps (omega (arith, few, enough)) ew (ap (λ (i : ℕ). i + 1) d) here_ok)
              z.3) z.4

  pub plain_returns : (begin_takes : (k : MethodId) (n : ℕ) → execute_of set.program set.main ≡ Some k → Takes set W marks form k (value.Ref n ∷ []) (value.Ref n))
      → (c : ℕ) → c ≤ calm → (m : MethodId) (p : ℕ) (l s wl : List Value) (x : Value) (ov : List PLink) (links : List Link) (old : ℕ) (was : Value) (w : World) (ps : List ℕ) (u : Thread) (v : Option Value) (heap : Objects)
      → Fine_at set W marks form m p l wl x ov links → u ≢ Stop Lost → u ≡ returns set v (u_stack ov links) (with_heap w heap)
      → wstep set W marks (WRun m ((form m).at p) wl s (w_stack set W marks form ov links) (Fiber_at (left_overs links) (Saved old was []) [] false false) w ps)
      ≡ wreturns set W marks true v (w_stack set W marks form ov links) (Fiber_at (left_overs links) (Saved old was []) [] false false) (with_heap w heap) ps
      → Q (WRun m ((form m).at p) wl s (w_stack set W marks form ov links) (Fiber_at (left_overs links) (Saved old was []) [] false false) w ps) → NextHeld set u → M u c (WRun m ((form m).at p) wl s (w_stack set W marks form ov links) (Fiber_at (left_overs links) (Saved old was []) [] false false) w ps)
  plain_returns begin_takes c few m p l s wl x (Pk m2 to2 s2 l2 wl2 x2 ∷ ov) links old was w ps u v heap fine ok eu ew here_ok held =
      let st = fine.stacked in
      forward.on set W marks most Q runs members form facts rows enough u c m ((form m).at p) wl s _ _ w ps m2 to2 (push v s2) l2 wl2 x2 ov links old was (counted (with_heap w heap)) ps (omega (arith, few, enough)) eu ew refl
      (record { alike = st.1; held = st.2; stacked = st.3 }) here_ok
  plain_returns begin_takes c few m p l s wl x [] (Lk m2 from2 to2 i2 callee2 s2 l2 wl2 x2 old2 was2 ∷ links) old was w ps u v heap fine ok eu ew here_ok held =
      let gs = fine.stacked in
      let r = forward.returned set W marks most Q runs members form facts rows enough m2 from2 to2 i2 callee2 s2 (push v s2) l2 wl2 x2 old2 was2 links (Saved old was []) 0 (counted (with_heap w heap)) ps gs.0 gs.1 (push_low v s2) (held.stack m2 to2 l2 (push v s2) x2 (u_frames links) (counted (with_heap w heap)) eu) in
      Goes_on (Fw m2 to2 (push v s2) l2 wl2 x2 [] links old2 was2 (counted (with_heap w heap)) ps) eu 3 (omega arith)
      (path.joins set W marks most Q runs
      (forward.counts set W marks most Q runs members form facts rows enough c m ((form m).at p) wl s _ _ w ps m2 ((form m2).up_at from2) wl2 (push v s2) (w_frames set W marks form links) (Fiber_at (Saved old2 was2 [] ∷ left_overs links) (Saved old was []) [] false false) (counted (with_heap w heap)) ps (omega (arith, few, enough)) ew refl here_ok)
      r.0) r.1
  plain_returns begin_takes c few m p l s wl x [] [] old was w ps u v heap fine ok eu ew here_ok held = by w.kept eu ew
    where
      by : (k : Option ℕ) → u ≡ finishes set (with_heap w heap) k → wstep set W marks (WRun m ((form m).at p) wl s [] (Fiber_at [] (Saved old was []) [] false false) w ps) ≡ wfinishes set W marks (Fiber_at [] (Saved old was []) [] false false) (with_heap w heap) ps k
          → M u c (WRun m ((form m).at p) wl s [] (Fiber_at [] (Saved old was []) [] false false) w ps)
      by None eu ew = forward.both_end set W marks most Q runs members form facts rows enough u c m ((form m).at p) wl s [] _ w (with_heap w heap) ps cause.Done (omega (arith, few, enough)) eu ew here_ok
      by (Some n) eu ew = task_begins begin_takes c few m ((form m).at p) wl s old was w (with_heap w heap) ps n u (execute_of set.program set.main) refl ok refl eu ew here_ok held

  -- ---- one case distinction over effects

  pub effects : (begin_takes : (k : MethodId) (n : ℕ) → execute_of set.program set.main ≡ Some k → Takes set W marks form k (value.Ref n ∷ []) (value.Ref n))
      → (c : ℕ) → (few : c ≤ calm) → (m : MethodId) (p : ℕ) (l s wl : List Value) (x : Value) (ov : List PLink) (links : List Link) (old : ℕ) (was : Value) (w : World) (ps : List ℕ) (u : Thread) (e d : Effect)
      → (fine : Fine_at set W marks form m p l wl x ov links) → Twins set W marks form m l wl x e d → (own : Method) → method_at set.program m ≡ Some own → ((n : ℕ) (k : ClassId) (why : EndCause) → e ≡ Throws n k why → k.0 < length set.program.classes)
      → u ≢ Stop Lost → u ≡ effect_does set e (frame m p l s) x (u_stack ov links) w
      → (here_ok : Q (WRun m ((form m).at p) wl s (w_stack set W marks form ov links) (Fiber_at (left_overs links) (Saved old was []) [] false false) w ps)) → NextHeld set u
      → wstep set W marks (here c few m p l s wl x ov links old was w ps fine here_ok) ≡ weffect set W marks true d (frame m ((form m).at p) wl s) (w_stack set W marks form ov links) (Fiber_at (left_overs links) (Saved old was []) [] false false) w ps
      → M u c (here c few m p l s wl x ov links old was w ps fine here_ok)
  effects begin_takes c few m p l s wl x ov links old was w ps u e d fine tw own there throws ok eu here_ok held ew = by e tw throws eu (ew ∙ ap (λ (z : Effect). weffect set W marks true z (frame m ((form m).at p) wl s) (w_stack set W marks form ov links) (Fiber_at (left_overs links) (Saved old was []) [] false false) w ps) tw.same)
    where
      by : (e : Effect) → (tw : Twins set W marks form m l wl x e d) → ((n : ℕ) (k : ClassId) (why : EndCause) → e ≡ Throws n k why → k.0 < length set.program.classes) → u ≡ effect_does set e (frame m p l s) x (u_stack ov links) w
          → wstep set W marks (here c few m p l s wl x ov links old was w ps fine here_ok) ≡ weffect set W marks true (elsewhere (form m).at tw.locals e) (frame m ((form m).at p) wl s) (w_stack set W marks form ov links) (Fiber_at (left_overs links) (Saved old was []) [] false false) w ps
          → M u c (here c few m p l s wl x ov links old was w ps fine here_ok)
      by (Goes q l2 s2 heap) tw throws eu ew =
          on c few m p l s wl x ov links old was w ps fine here_ok u m q s2 l2 tw.locals x ov old was (counted (with_heap w heap)) eu ew refl (record { alike = tw.alike q l2 refl; held = tw.held q l2 refl; stacked = fine.stacked })
      by (Makes object q l2 s2 heap) tw throws eu ew =
          on c few m p l s wl x ov links old was w ps fine here_ok u m q (value.Ref w.next ∷ s2) l2 tw.locals x ov old was (record (counted (with_heap w heap)) { heap = insert heap w.next object; next = w.next + 1 }) eu ew refl (record { alike = tw.alike q l2 refl; held = tw.held q l2 refl; stacked = fine.stacked })
      by (Opens q l2 s2 heap) tw throws eu ew =
          let w2 = with_heap w heap in
          let z = opens_same set w2 Stop (λ (a : World) (v : Option Value). Run m q l2 (push v s2) x (u_stack ov links) a) (raised_behind set (At m q l2 s2 x ∷ u_stack ov links) w2) (counted w2) refl in
          let y = opens_same set w2 WStop (λ (a : World) (v : Option Value). WRun m ((form m).at q) tw.locals (push v s2) (w_stack set W marks form ov links) (Fiber_at (left_overs links) (Saved old was []) [] false false) a ps) (wraised_behind set W marks (frame m ((form m).at q) tw.locals s2 ∷ w_stack set W marks form ov links) (Fiber_at (left_overs links) (Saved old was []) [] false false) w2 ps) (counted w2) refl in
          outcome c few m p l s wl x ov links old was w ps fine here_ok w2 refl u q s2 l2 tw.locals (opens_box set w2 IsOver GoesOn (counted w2)) (eu ∙ z.0) (ew ∙ y.0) z.1 (record { alike = tw.alike q l2 refl; held = tw.held q l2 refl; stacked = fine.stacked })
      by (Calls k args q l2 s2 heap) tw throws eu ew =
          plain_calls c few m p l s wl x ov links old was w ps fine here_ok u k args q s2 l2 tw.locals heap (tw.calls k args q l2 s2 heap refl) eu ew (record { alike = tw.alike q l2 refl; held = tw.held q l2 refl; stacked = fine.stacked })
      by (Asks k args q l2 s2 heap) tw throws eu ew =
          let n = tw.natives k args q l2 s2 heap refl in
          natives c few m p l s wl x ov links old was w ps fine here_ok u (native_of set.program k) (native_of W k) (member_of W k) args q s2 l2 tw.locals heap ok n.0 (rows.same_natives k n.0) n.1 eu ew (record { alike = tw.alike q l2 refl; held = tw.held q l2 refl; stacked = fine.stacked })
      by (Returns v heap) tw throws eu ew = plain_returns begin_takes c few m p l s wl x ov links old was w ps u v heap fine ok eu ew here_ok held
      by (Throws n k why) tw throws eu ew =
          arrives c few m p l s wl x ov links old was w ps fine here_ok u _ (counted w) why _ refl eu ew
          (catching.thrown_alike set W marks form facts rows.catches (Fiber_at (left_overs links) (Saved old was []) [] false false) ps (counted w) why links (value.Ref n) (counted w) refl
          (left_at set.program k (value.Ref n) (frame m p l s) x (u_stack ov links)) (thrown W k (value.Ref n) (frame m ((form m).at p) wl s) (w_stack set W marks form ov links))
          (catching.thrown_left set W marks form facts rows.catches k (rows.catches.lines k (throws n k why refl)) (value.Ref n) m p l wl s x ov links fine))
      by (Raises why) tw throws eu ew =
          arrives c few m p l s wl x ov links old was w ps fine here_ok u _ (counted w) why _ refl eu ew
          (catching.at_raised set W marks form facts rows.catches (Fiber_at (left_overs links) (Saved old was []) [] false false) ps w why m own there p l wl s x ov links fine)
      by (Ends cause) tw throws eu ew = ends c few m p l s wl x ov links old was w ps fine here_ok u w cause eu ew
      by Stuck tw throws eu ew = absurd (ok eu)
