-- One step of the thread, whatever it is; and all of its steps.
use Rattle.std.proofs.Common.{◌≡◌, inl, inr, ℕ, zero, suc, ◌+◌, ◌*◌, ◌≤◌, Bool, true, false, List, [], ◌∷◌, Option, Some, None, refl, sym, ap, subst, ◌∙◌, arith}
use Rattle.std.specs.Prelude.{nat_le, if◌then◌else◌}
use Rattle.std.proofs.lemmas.Bool.{false≢true}
use Rattle.kilim_run_state.specs.declared.cause.EndCause.TheVariants as cause
use Rattle.kilim_program.specs.declared.class.Method.{Method}
use Rattle.kilim_program.specs.declared.instr.Instr.{Instr}
use Rattle.kilim_program.specs.declared.names.MethodId.{MethodId}
use Rattle.kilim_program.specs.declared.value.Value.{Value}
use Rattle.kilim_program.specs.Names.{method_at}
use Rattle.kilim_program.specs.Program.{Program}
use Rattle.kilim_run_machine.specs.Effect.{Effect, Goes, Makes, Opens, Calls, Asks, Returns, Raises, Throws, Ends, Stuck}
use Rattle.kilim_run_state.specs.Machine.{Activation, Objects}
use Rattle.kilim_run_machine.specs.Natives.{FiberMember, Native}
use Rattle.kilim_run_machine.specs.Does.{does}
use Rattle.kilim_run_rows.specs.Outcome.{is_stuck}
use Rattle.kilim_run_model.specs.State.{Setting}
use Rattle.kilim_weave_spec.specs.Woven.{pausable_callee, moved_instr}
use Rattle.kilim_fiber_spec.specs.Acts.{World, Over, ending, spending}
use Rattle.kilim_fiber_spec.specs.Thread.{fetch, code_in, Thread, Run, Stop, step, found_does, effect_does, own_of}
use Rattle.kilim_fiber_spec.specs.Fibers.{Fib, Fiber_at, Saved, Woven_state, WRun, Resting, WStop, wstep, weffect, member_of, frame}
use Rattle.kilim_fiber_spec.specs.Rows.{elsewhere}
use Rattle.kilim_fiber_spec.specs.Form.{Facts, Stays, Members, longest}
use Rattle.kilim_fiber_spec.specs.Runs.{stop}
use Rattle.kilim_fiber_spec.specs.Serves.{Rows, Known, StandsFor, Now, Twins}
use Rattle.kilim_fiber_spec.specs.Links.{Link, Lk, PLink, Pk, u_frames, u_stack, left_overs, Forms, code, w_stack, Both, Fw, unwoven, woven, Fine, Fine_at}
use Rattle.kilim_fiber_laws.proofs.simulation.Held.{NextHeld}
use Rattle.kilim_fiber_laws.proofs.simulation.Paths as path
use Rattle.kilim_fiber_spec.specs.Thread.{steps, own_of}
use Rattle.kilim_fiber_spec.specs.Rooms.{GivesWhole, HasRoom, bare_frames}
use Rattle.kilim_run_model.specs.Kept.{given}
use Rattle.kilim_type_sound.specs.Fits.{AreThere}
use Rattle.kilim_fiber_laws.proofs.simulation.Still.{StepIsKnown}
use Rattle.kilim_fiber_spec.specs.fiber_kin.Served.{gives_value}
use Rattle.kilim_run_interp.specs.Step.{CallerFits}
use Rattle.kilim_fiber_laws.proofs.simulation.Forward.{calm, Match, Goes_on, Overs}
use Rattle.kilim_fiber_laws.proofs.simulation.Forward as forward
use Rattle.kilim_fiber_laws.proofs.simulation.PlainStep as plain
use Rattle.kilim_fiber_laws.proofs.simulation.CallStep as call

module _ (set : Setting) (W : Program) (marks : List (List Bool)) (most : ℕ) (Q : Woven_state → Type 0)
    (runs : (m : MethodId) (p : ℕ) (l s : List Value) (b : List Activation) (f : Fib) (w : World) (ps : List ℕ) → StepIsKnown set W marks (WRun m p l s b f w ps) → AreThere w.heap s → Q (WRun m p l s b f w ps))
    (members : Members set.program W) (form : Forms set W marks) (facts : (m : MethodId) → Facts set.program W (code set W marks) (form m)) (rows : Rows set W marks form)
    (enough : calm + 8 + 512 * longest ≤ most) (Typed : Thread → Type 0) (known : Known set W marks form Typed) where
  abbrev M : Thread → ℕ → Woven_state → Type 0
  M = Match set W marks most Q runs members form facts rows enough

  abbrev To : ℕ → Woven_state → ℕ → Woven_state → Type 0
  To c x d y = path.To set W marks most Q runs c x d y

  -- the frames of W have room where those of the old program have
  callers : (ov : List PLink) (links : List Link) → CallerFits set.program (bare_frames (u_stack ov links)) → CallerFits W (w_stack set W marks form ov links)
  callers [] [] r = tt
  callers [] (Lk m from to i callee s l wl x old was ∷ ks) r = let h = (facts m).as_high in omega (arith, r, h)
  callers (Pk m to s l wl x ∷ ov) ks r = let h = (facts m).as_high in omega (arith, r, h)

  -- the method in which an instruction stands
  there_of : (m : MethodId) (p : ℕ) (found : Instr × ℕ) → fetch set.program m p ≡ Some found → (a : Method) × (method_at set.program m ≡ Some a)
  there_of m p found = by (method_at set.program m) refl
    where
      none : None ≡ Some found → ⊥
      none e = cc

      by : (o : Option Method) → method_at set.program m ≡ o → code_in o p ≡ Some found → (a : Method) × (method_at set.program m ≡ Some a)
      by None e h = absurd (none h)
      by (Some a) e h = (a, e)

  no_member : (k : FiberMember) → None ≡ Some k → ⊥
  no_member k e = cc

  moved_room : (m : MethodId) (at : ℕ → ℕ) (wl : List Value) (ov : List PLink) (links : List Link) (now : Objects) (e : Effect) → ((c : MethodId) (args : List Value) (q : ℕ) (l2 s2 : List Value) (heap : Objects) → e ≡ Asks c args q l2 s2 heap → member_of W c ≡ None)
      → HasRoom set.program e m (bare_frames (u_stack ov links)) → GivesWhole set.program set.program now e → path.Roomy set.program W m (w_stack set W marks form ov links) now (elsewhere at wl e)
  moved_room m at wl ov links now (Goes q l s heap) n r w = let a = r.fits in let h = (facts m).as_high in (record { unstuck = refl; fits = omega (arith, a, h); result = tt }, tt, tt)
  moved_room m at wl ov links now (Makes object q l s heap) n r w = let a = r.fits in let h = (facts m).as_high in (record { unstuck = refl; fits = omega (arith, a, h); result = tt }, tt, tt)
  moved_room m at wl ov links now (Opens q l s heap) n r w = let a = r.fits in let h = (facts m).as_high in (record { unstuck = refl; fits = omega (arith, a, h); result = tt }, tt, tt)
  moved_room m at wl ov links now (Calls c args q l s heap) n r w = let a = r.fits in let h = (facts m).as_high in (record { unstuck = refl; fits = omega (arith, a, h); result = tt }, tt, tt)
  moved_room m at wl ov links now (Asks c args q l s heap) n r w =
      let a = r.fits in let h = (facts m).as_high in
      let none = n c args q l s heap refl in (
        record { unstuck = refl; fits = omega (arith, a, h); result = λ gives. let k = r.result (subst (λ (o : Option Native). gives_value o ≡ true) (rows.same_natives c none) gives) in omega (arith, k, h) },
        λ k is. absurd (no_member k (sym none ∙ is)),
        λ root k g. w root k (subst (λ (o : Option Native). given o args ≡ Some (root, k)) (rows.same_natives c none) g),
      )
  moved_room m at wl ov links now (Returns None heap) n r w = (record { unstuck = refl; fits = tt; result = tt }, tt, tt)
  moved_room m at wl ov links now (Returns (Some v) heap) n r w = (record { unstuck = refl; fits = callers ov links r.fits; result = tt }, tt, tt)
  moved_room m at wl ov links now (Raises why) n r w = (record { unstuck = refl; fits = omega arith; result = tt }, tt, tt)
  moved_room m at wl ov links now (Throws object class why) n r w = (record { unstuck = refl; fits = omega arith; result = tt }, tt, tt)
  moved_room m at wl ov links now (Ends why) n r w = (record { unstuck = refl; fits = omega arith; result = tt }, tt, tt)
  moved_room m at wl ov links now Stuck n r w = (record { unstuck = r.unstuck; fits = omega arith; result = tt }, tt, tt)

  plain_match : (c : ℕ) → c ≤ calm → (m : MethodId) (p to : ℕ) (i : Instr) (l s wl : List Value) (x : Value) (ov : List PLink) (links : List Link) (old : ℕ) (was : Value) (w : World) (ps : List ℕ)
      → fetch set.program m p ≡ Some (i, to) → pausable_callee set.program i ≡ None → Fine_at set W marks form m p l wl x ov links → Typed (Run m p l s x (u_stack ov links) w)
      → M (step set (Run m p l s x (u_stack ov links) w)) c (WRun m ((form m).at p) wl s (w_stack set W marks form ov links) (Fiber_at (left_overs links) (Saved old was []) [] false false) w ps)
  plain_match c few m p to i l s wl x ov links old was w ps hf hn fine typed = by (nat_le set.limits.steps w.done) refl
    where
      b : List Activation
      b = w_stack set W marks form ov links

      f : Fib
      f = Fiber_at (left_overs links) (Saved old was []) [] false false

      here : Woven_state
      here = WRun m ((form m).at p) wl s (w_stack set W marks form ov links) (Fiber_at (left_overs links) (Saved old was []) [] false false) w ps

      st : Stays set.program W (code set W marks) (form m) p to i
      st = (facts m).stays p to i hf hn

      es : step set (Run m p l s x (u_stack ov links) w) ≡ spending set w Stop (effect_does set (does set.program (own_of set.program m) i to l s w.heap) (frame m p l s) x (u_stack ov links) w)
      es = ap (λ (o : Option (Instr × ℕ)). spending set w Stop (found_does set o (frame m p l s) x (u_stack ov links) w)) hf

      ex : wstep set W marks (WRun m ((form m).at p) wl s (w_stack set W marks form ov links) (Fiber_at (left_overs links) (Saved old was []) [] false false) w ps)
          ≡ spending set w WStop (weffect set W marks true (does W (own_of W m) (moved_instr (form m).at i) ((facts m).stays p to i hf hn).next wl s w.heap) (frame m ((form m).at p) wl s) (w_stack set W marks form ov links) (Fiber_at (left_overs links) (Saved old was []) [] false false) w ps)
      ex = path.found set W marks most Q runs m ((form m).at p) wl s (w_stack set W marks form ov links) (Fiber_at (left_overs links) (Saved old was []) [] false false) w ps (moved_instr (form m).at i) st.next true true (does W (own_of W m) (moved_instr (form m).at i) st.next wl s w.heap) st.is refl refl

      roomy : HasRoom set.program (does set.program (own_of set.program m) i to l s w.heap) m (bare_frames (u_stack ov links))
      roomy = known.room m p to i l s x (u_stack ov links) w typed hf

      twins : Twins set W marks form m l wl x (does set.program (own_of set.program m) i to l s w.heap) (does W (own_of W m) (moved_instr (form m).at i) st.next wl s w.heap)
      twins =
          rows.twins m p to st.next i l wl s x w.heap hf hn st.goes (known.old_heap m p l s x (u_stack ov links) w typed) (known.clean m p to i l s x (u_stack ov links) w typed hf) fine.alike fine.held
          (λ z. false≢true (sym roomy.unstuck ∙ ap is_stuck z))

      here_ok : Q here
      here_ok =
          runs m ((form m).at p) wl s b f w ps
          (path.next_room set W marks m ((form m).at p) wl s b f w ps (moved_instr (form m).at i) st.next true (does W (own_of W m) (moved_instr (form m).at i) st.next wl s w.heap) st.is refl
          (subst (λ (e : Effect). path.Roomy set.program W m b w.heap e) (sym twins.same)
          (moved_room m (form m).at twins.locals ov links w.heap (does set.program (own_of set.program m) i to l s w.heap) (λ k args q l2 s2 heap e. (twins.natives k args q l2 s2 heap e).0) roomy (known.gives m p to i l s x (u_stack ov links) w typed hf))) (λ on. absurd (false≢true on)) (λ on. absurd (false≢true on)))
          (known.stack_there m p l s x (u_stack ov links) w typed)

      next_held : NextHeld set (step set (Run m p l s x (u_stack ov links) w))
      next_held = record {
        stack = λ m2 p2 l2 s2 x2 b2 w2 e. known.stack_there m2 p2 l2 s2 x2 b2 w2 (subst Typed e (known.keeps (Run m p l s x (u_stack ov links) w) typed));
        self = λ m2 p2 l2 s2 x2 b2 w2 e. known.self_there m2 p2 l2 s2 x2 b2 w2 (subst Typed e (known.keeps (Run m p l s x (u_stack ov links) w) typed));
      }

      by : (t : Bool) → nat_le set.limits.steps w.done ≡ t → M (step set (Run m p l s x (u_stack ov links) w)) c (WRun m ((form m).at p) wl s (w_stack set W marks form ov links) (Fiber_at (left_overs links) (Saved old was []) [] false false) w ps)
      by true h =
          forward.both_end set W marks most Q runs members form facts rows enough (step set (Run m p l s x (u_stack ov links) w)) c m ((form m).at p) wl s b f w w ps cause.Spent (omega (arith, few, enough))
          (es ∙ ap (λ (t : Bool). if t then ending set w Stop cause.Spent else effect_does set (does set.program (own_of set.program m) i to l s w.heap) (frame m p l s) x (u_stack ov links) w) h)
          (ex ∙ ap (λ (t : Bool). if t then ending set w WStop cause.Spent else weffect set W marks true (does W (own_of W m) (moved_instr (form m).at i) st.next wl s w.heap) (frame m ((form m).at p) wl s) b f w ps) h) here_ok
      by false h =
          let eu = es ∙ ap (λ (t : Bool). if t then ending set w Stop cause.Spent else effect_does set (does set.program (own_of set.program m) i to l s w.heap) (frame m p l s) x (u_stack ov links) w) h in
          let ew = ex ∙ ap (λ (t : Bool). if t then ending set w WStop cause.Spent else weffect set W marks true (does W (own_of W m) (moved_instr (form m).at i) st.next wl s w.heap) (frame m ((form m).at p) wl s) b f w ps) h in
          let ok = known.unstuck (Run m p l s x (u_stack ov links) w) typed in
          let own = there_of m p (i, to) hf in
          plain.effects set W marks most Q runs members form facts rows enough known.begins c few m p l s wl x ov links old was w ps (step set (Run m p l s x (u_stack ov links) w)) (does set.program (own_of set.program m) i to l s w.heap) (does W (own_of W m) (moved_instr (form m).at i) st.next wl s w.heap) fine twins
          own.0 own.1 (λ n k why e. known.throws m p to i l s x (u_stack ov links) w n k why typed hf e) ok eu here_ok next_held ew

  pub matched : (t : Both) (c : ℕ) → c ≤ calm → Fine set W marks form t → Typed (unwoven t) → ((g : Fib) (v : World) (rest : List ℕ) → Now set W marks form (unwoven t) (Resting g v rest) → Q (Resting g v rest)) → M (step set (unwoven t)) c (woven set W marks form t)
  matched (Fw m p s l wl x ov links old was w ps) c few fine typed q_ok =
      let th = known.there m p l s x (u_stack ov links) w typed in
      by th.0 th.1 th.2 (pausable_callee set.program th.0) refl
    where
      by : (i : Instr) (to : ℕ) → fetch set.program m p ≡ Some (i, to) → (o : Option Method) → pausable_callee set.program i ≡ o → M (step set (Run m p l s x (u_stack ov links) w)) c (WRun m ((form m).at p) wl s (w_stack set W marks form ov links) (Fiber_at (left_overs links) (Saved old was []) [] false false) w ps)
      by i to hf None hp = plain_match c few m p to i l s wl x ov links old was w ps hf hp fine typed
      by i to hf (Some callee) hp = none_above ov fine typed q_ok
        where
          none_above : (ov : List PLink) (fine : Fine_at set W marks form m p l wl x ov links) → Typed (Run m p l s x (u_stack ov links) w) → ((g : Fib) (v : World) (rest : List ℕ) → Now set W marks form (Run m p l s x (u_stack ov links) w) (Resting g v rest) → Q (Resting g v rest))
              → M (step set (Run m p l s x (u_stack ov links) w)) c (WRun m ((form m).at p) wl s (w_stack set W marks form ov links) (Fiber_at (left_overs links) (Saved old was []) [] false false) w ps)
          none_above [] fine typed q_ok = call.call_match set W marks most Q runs members form facts rows enough Typed known c few m p to i callee l s wl x links old was w ps hf hp fine (known.low m p l s x (u_frames links) w typed) (known.stack_there m p l s x (u_frames links) w typed) typed q_ok
          none_above (Pk m2 to2 s2 l2 wl2 x2 ∷ ov) fine typed q_ok =
              let g = (facts m).group p to i callee hf hp in
              absurd (false≢true (sym fine.stacked.0 ∙ g.pausable))

  -- so many steps
  pub follows : (n : ℕ) (t : Both) (c : ℕ) → c ≤ calm → Fine set W marks form t → Typed (unwoven t) → ((j : ℕ) (g : Fib) (v : World) (rest : List ℕ) → StandsFor set W marks form (steps set j (unwoven t)) (Resting g v rest) → Q (Resting g v rest)) → M (steps set n (unwoven t)) c (woven set W marks form t)
  follows zero t c few fine typed q_ok = Goes_on t refl c few stop fine
  follows (suc n) t c few fine typed q_ok =
      go (step set (unwoven t)) refl (known.keeps (unwoven t) typed) (λ j g v rest h. q_ok (suc j) g v rest h)
      (matched t c few fine typed (λ g v rest. now g v rest)) (λ t2 d few2 fine2 typed2 q2. follows n t2 d few2 fine2 typed2 q2)
    where
      now : (g : Fib) (v : World) (rest : List ℕ) → Now set W marks form (unwoven t) (Resting g v rest) → Q (Resting g v rest)
      now g v rest (inl h) = q_ok 0 g v rest h
      now g v rest (inr h) = q_ok 1 g v rest h

      stays_over : (n : ℕ) (o : Over) → steps set n (Stop o) ≡ Stop o
      stays_over zero o = refl
      stays_over (suc n) o = stays_over n o

      go : (u : Thread) → step set (unwoven t) ≡ u → Typed u → ((j : ℕ) (g : Fib) (v : World) (rest : List ℕ) → StandsFor set W marks form (steps set j u) (Resting g v rest) → Q (Resting g v rest)) → M u c (woven set W marks form t)
          → ((t2 : Both) (d : ℕ) → d ≤ calm → Fine set W marks form t2 → Typed (unwoven t2) → ((j : ℕ) (g : Fib) (v : World) (rest : List ℕ) → StandsFor set W marks form (steps set j (unwoven t2)) (Resting g v rest) → Q (Resting g v rest)) → M (steps set n (unwoven t2)) d (woven set W marks form t2))
          → M (steps set n u) c (woven set W marks form t)
      go u e ty q (Goes_on t2 eu d few2 way fine2) rec =
          subst (λ (v : Thread). M (steps set n v) c (woven set W marks form t)) (sym eu)
          (forward.after set W marks most Q runs members form facts rows enough way
          (rec t2 d few2 fine2 (subst Typed eu ty) (λ j g v rest h. q j g v rest (subst (λ (y : Thread). StandsFor set W marks form (steps set j y) (Resting g v rest)) (sym eu) h))))
      go u e ty q (Overs o eu d few2 way) rec = Overs o (ap (steps set n) eu ∙ stays_over n o) d few2 way
