-- A pausable call; and one step of the thread, whatever it is.
use Rattle.std.proofs.Common.{◌≡◌, ◌≢◌, inl, inr, ℕ, suc, ◌+◌, ◌*◌, ◌≤◌, Bool, true, false, List, [], ◌∷◌, ◌++◌, length, Option, Some, None, refl, sym, ap, subst, ◌∙◌, arith, zero}
use Rattle.std.specs.Prelude.{nat_le, nat_lt, if◌then◌else◌}
use Rattle.std.proofs.lemmas.Bool.{false≢true}
use Rattle.kilim_run_state.specs.declared.cause.EndCause.TheVariants as cause
use Rattle.kilim_program.specs.declared.class.Method.{Method}
use Rattle.kilim_program.specs.declared.instr.Instr.{Instr}
use Rattle.kilim_program.specs.declared.instr.Instr.TheVariants as instr
use Rattle.kilim_program.specs.declared.names.MethodId.{MethodId}
use Rattle.kilim_program.specs.declared.value.Value.{Value}
use Rattle.kilim_program.specs.declared.value.Value.TheVariants as value
use Rattle.kilim_program.specs.Program.{Program}
use Rattle.kilim_run_state.specs.Machine.{Activation}
use Rattle.kilim_run_machine.specs.Natives.{Native, native_of}
use Rattle.kilim_run_machine.specs.Natives as native
use Rattle.kilim_run_machine.specs.Effect.{Effect, Goes, Asks}
use Rattle.kilim_run_machine.specs.Does.{does}
use Rattle.kilim_run_machine.specs.Moves.{entered, frame_limit}
use Rattle.kilim_run_model.specs.State.{Setting}
use Rattle.kilim_weave_spec.specs.Woven.{member, fiber_slot, pausable_callee}
use Rattle.kilim_fiber_spec.specs.Acts.{World, Lost, counted, ending, spending, native_does, asks, apart, together, put_waits}
use Rattle.kilim_run_machine.specs.Raising.{index_at, raised_class}
use Rattle.kilim_fiber_spec.specs.Thread.{fetch, push, Frame, At, Thread, Run, Stop, step, self_of, found_does, effect_does, calls, own_of, raised_behind}
use Rattle.kilim_run_machine.specs.Natives.{Down, FiberMember}
use Rattle.kilim_fiber_spec.specs.Fibers.{Fib, Fiber_at, Saved, empty_record, member_of, without_fiber, before, Woven_state, WRun, Resting, WStop, wstep, weffect, wcalls, wasks, wnatives, wnative, handed_does, gets, getting, yielding, frame, putting, puts_now, waits, waits_on, wraised_behind}
use Rattle.kilim_fiber_spec.specs.Form.{Facts, Group, Members, is_pausable, longest}
use Rattle.kilim_fiber_spec.specs.Rows.{handed}
use Rattle.kilim_fiber_spec.specs.Serves.{Rows, Known, Shape, IsCall, IsNative, IsRaise, IsEnd, IsStuck, is_pausing_native, IsThread, Now, leaf_receiver, resting_heap}
use Rattle.kilim_fiber_spec.specs.Links.{Link, Lk, u_frames, left_overs, bares, Leaf, Forms, code, w_frames, Holds, AllStand, Good, Goods, Takes, AreReady, Fw, Fine_at, record_of, first_record, next_records}
use Rattle.kilim_fiber_spec.specs.Rooms.{HasRoom, bare_frames, GivesWhole}
use Rattle.kilim_type_sound.specs.Fits.{AreThere}
use Rattle.kilim_fiber_laws.proofs.simulation.Still.{StepIsKnown}
use Rattle.kilim_run_interp.specs.Step.{stack_limit}
use Rattle.kilim_fiber_laws.proofs.simulation.Added as add
use Rattle.kilim_fiber_laws.proofs.simulation.Paths as path
use Rattle.kilim_fiber_laws.proofs.simulation.Natural.{Outcome, GoesOn, IsOver, IsRaised, fold, Counts, native_same}
use Rattle.kilim_fiber_laws.proofs.simulation.Unwinds.{count_of, push_low}
use Rattle.kilim_fiber_laws.proofs.simulation.Forward.{calm, Match, Goes_on}
use Rattle.kilim_fiber_laws.proofs.simulation.Forward as forward
use Rattle.kilim_fiber_laws.proofs.simulation.Catching as catching
use Rattle.kilim_fiber_laws.proofs.simulation.PlainStep.{stack_length}
use Rattle.kilim_fiber_laws.proofs.simulation.Leaves.{frames_bare}
use Rattle.kilim_fiber_laws.proofs.simulation.Leaves as leaf
use Rattle.kilim_fiber_laws.proofs.simulation.Waits as wait
use Rattle.kilim_program.specs.declared.names.BoxName.{BoxName}
use Rattle.kilim_run_state.specs.declared.value.Token.{Token}
use Rattle.kilim_run_state.specs.Shapes.{shape_of}
use Rattle.kilim_run_state.specs.Trees.{Root}
use Rattle.kilim_run_model.specs.Kept.{given}
use Rattle.kilim_fiber_laws.proofs.simulation.Held.{NextHeld}

pub without_last : (args : List Value) → without_fiber (args ++ value.Fiber ∷ []) ≡ Some args
without_last [] = refl
without_last (v ∷ []) = refl
without_last (v ∷ w ∷ vs) = ap (before v) (without_last (w ∷ vs))

module _ (set : Setting) (W : Program) (marks : List (List Bool)) (most : ℕ) (Q : Woven_state → Type 0)
    (runs : (m : MethodId) (p : ℕ) (l s : List Value) (b : List Activation) (f : Fib) (w : World) (ps : List ℕ) → StepIsKnown set W marks (WRun m p l s b f w ps) → AreThere w.heap s → Q (WRun m p l s b f w ps))
    (members : Members set.program W) (form : Forms set W marks) (facts : (m : MethodId) → Facts set.program W (code set W marks) (form m)) (rows : Rows set W marks form)
    (enough : calm + 8 + 512 * longest ≤ most) (Typed : Thread → Type 0) (known : Known set W marks form Typed) where
  abbrev M : Thread → ℕ → Woven_state → Type 0
  M = Match set W marks most Q runs members form facts rows enough

  abbrev To : ℕ → Woven_state → ℕ → Woven_state → Type 0
  To c x d y = path.To set W marks most Q runs c x d y

  -- the frames at a pause, by their unwoven side
  abbrev IsSide : Native → Value → List Link → Thread → World → Type 0
  IsSide n box [] t w = ⊥
  IsSide n box (k ∷ ks) t w = IsThread set W marks form n box k ks t w

  to_side : (n : Native) (box : Value) (k : Link) (links : List Link) (t : Thread) (w : World) → IsThread set W marks form n box k links t w → IsSide n box (bares (k ∷ links)) t w
  to_side native.Get box (Lk m from to i callee s l wl x old was) links t w h = (h.0, h.1, h.2, h.3, h.4 ∙ ap (λ (fs : List Frame). Run m from l h.1 x fs w) (sym (frames_bare links)))
  to_side native.PutWait box (Lk m from to i callee s l wl x old was) links t w h = (h.0, h.1, h.2, h.3, h.4, h.5, h.6, h.7 ∙ ap (λ (fs : List Frame). Run m from l h.4 x fs (together h.0.heap h.1 w)) (sym (frames_bare links)))
  to_side n box (Lk m from to i callee s l wl x old was) links t w h = h ∙ ap (λ (fs : List Frame). Run m to l s x fs w) (sym (frames_bare links))

  from_side : (n : Native) (box : Value) (k : Link) (links : List Link) (t : Thread) (w : World) → IsSide n box (bares (k ∷ links)) t w → IsThread set W marks form n box k links t w
  from_side native.Get box (Lk m from to i callee s l wl x old was) links t w h = (h.0, h.1, h.2, h.3, h.4 ∙ ap (λ (fs : List Frame). Run m from l h.1 x fs w) (frames_bare links))
  from_side native.PutWait box (Lk m from to i callee s l wl x old was) links t w h = (h.0, h.1, h.2, h.3, h.4, h.5, h.6, h.7 ∙ ap (λ (fs : List Frame). Run m from l h.4 x fs (together h.0.heap h.1 w)) (frames_bare links))
  from_side n box (Lk m from to i callee s l wl x old was) links t w h = h ∙ ap (λ (fs : List Frame). Run m to l s x fs w) (frames_bare links)

  frame_count : (links : List Link) → length (u_frames links) ≡ count_of links
  frame_count [] = refl
  frame_count (Lk m from to i callee s l wl x old was ∷ ks) = ap suc (frame_count ks)

  all_stand : (links : List Link) → Goods set W marks form links → AllStand set W marks form links
  all_stand [] g = tt
  all_stand (Lk m from to i callee s l wl x old was ∷ ks) g = ((g.0.0, g.0.1), all_stand ks g.1)

  module _ (c : ℕ) (few : c ≤ calm) (m : MethodId) (p to : ℕ) (i : Instr) (callee : Method) (l s wl : List Value) (x : Value) (links : List Link) (old : ℕ) (was : Value) (w : World) (ps : List ℕ)
      (hf : fetch set.program m p ≡ Some (i, to)) (hp : pausable_callee set.program i ≡ Some callee) (fine : Fine_at set W marks form m p l wl x [] links) (low : length s ≤ stack_limit set.program m) (th : AreThere w.heap s) where
    abbrev b : List Activation
    b = w_frames set W marks form links

    abbrev f1 : Fib
    f1 = Fiber_at (Saved old was [] ∷ left_overs links) empty_record [] false false

    abbrev up : ℕ
    up = (form m).up_at p

    -- right before the call, with the fiber on the stack
    abbrev call_state : Woven_state
    call_state = WRun m ((form m).call_at p) wl (value.Fiber ∷ s) b f1 w ps

    -- the link that the call makes, with the stack that it leaves
    abbrev link : List Value → Link
    link s2 = Lk m p to i callee s2 l wl x old was

    grp : Group set.program W (code set W marks) (form m) p to i callee
    grp = (facts m).group p to i callee hf hp

    holds : Holds set W marks form m l wl x
    holds = forward.held_holds set W marks most Q runs members form facts rows enough m l wl x (form m).has_calls grp.has_calls fine.held

    good : (s2 : List Value) → length s2 ≤ stack_limit set.program m → Good set W marks form (link s2)
    good s2 few2 = (hf, hp, λ k z. fine.alike k (grp.saves k z), holds, few2)

    high : stack_limit set.program m + 4 ≤ stack_limit W m
    high = (facts m).higher grp.has_calls

    -- those that pause give away what they give without the fiber
    same_given : (o : Option Native) (args : List Value) (r : Root) (n : ℕ) → ((k : Native) → o ≡ Some k → is_pausing_native k ≡ true) → given o (args ++ value.Fiber ∷ []) ≡ Some (r, n) → given o args ≡ Some (r, n)
    same_given (Some native.PutWait) (value.Box box ∷ value.Ref k ∷ []) r n pn g = g
    same_given (Some native.PutWait) (value.Box box ∷ value.Ref k ∷ y ∷ ys) r n pn g = absurd (path.none_given (r, n) (sym (too_many y ys) ∙ g))
      where
        too_many : (y : Value) (ys : List Value) → given (Some native.PutWait) (value.Box box ∷ value.Ref k ∷ y ∷ (ys ++ value.Fiber ∷ [])) ≡ None
        too_many value.Fiber [] = refl
        too_many value.Fiber (z ∷ zs) = refl
        too_many y ys = refl
    same_given (Some native.PutWait) args r n pn g = absurd (path.none_given (r, n) g)
    same_given (Some native.Start) args r n pn g = absurd (false≢true (pn native.Start refl))
    same_given (Some native.Put) args r n pn g = absurd (false≢true (pn native.Put refl))
    same_given o args r n pn g = absurd (path.none_given (r, n) g)

    -- the call has room with the fiber as it has without
    handed_room : (e : Effect) → Shape to l w.heap e → ((k : MethodId) (args s2 : List Value) → e ≡ Asks k args to l s2 w.heap → (member_of W k ≡ None) × ((n : Native) → native_of set.program k ≡ Some n → is_pausing_native n ≡ true))
        → HasRoom set.program e m (bare_frames (u_frames links)) → GivesWhole set.program set.program w.heap e → path.Roomy set.program W m b w.heap (handed up wl e)
    handed_room e (IsCall k args s2 d) nn r gives =
        let a = (subst (λ (z : Effect). HasRoom set.program z m (bare_frames (u_frames links))) d r).fits in let h = high in
        subst (λ (z : Effect). path.Roomy set.program W m b w.heap (handed up wl z)) (sym d) (path.calls_room set.program W m b w.heap k (args ++ value.Fiber ∷ []) up wl s2 w.heap (omega (arith, a, h)))
    handed_room e (IsNative k args s2 d) nn r gives =
        let a = (subst (λ (z : Effect). HasRoom set.program z m (bare_frames (u_frames links))) d r).fits in let h = high in
        let n = nn k args s2 d in
        subst (λ (z : Effect). path.Roomy set.program W m b w.heap (handed up wl z)) (sym d)
        (path.giving_room set.program W m b w.heap k (args ++ value.Fiber ∷ []) up wl s2 w.heap (omega (arith, a, h))
        (λ root at g. subst (λ (z : Effect). GivesWhole set.program set.program w.heap z) d gives root at
        (same_given (native_of set.program k) args root at n.1 (subst (λ (o : Option Native). given o (args ++ value.Fiber ∷ []) ≡ Some (root, at)) (rows.same_natives k n.0) g))))
    handed_room e (IsRaise why d) nn r gives = subst (λ (z : Effect). path.Roomy set.program W m b w.heap (handed up wl z)) (sym d) (record { unstuck = refl; fits = omega arith; result = tt }, tt, tt)
    handed_room e (IsEnd why d) nn r gives = subst (λ (z : Effect). path.Roomy set.program W m b w.heap (handed up wl z)) (sym d) (record { unstuck = refl; fits = omega arith; result = tt }, tt, tt)
    handed_room e (IsStuck d) nn r gives = subst (λ (z : Effect). path.Roomy set.program W m b w.heap (handed up wl z)) (sym d) (record { unstuck = (subst (λ (z : Effect). HasRoom set.program z m (bare_frames (u_frames links))) d r).unstuck; fits = omega arith; result = tt }, tt, tt)

    goes_down : To c (WRun m ((form m).at p) wl s b (Fiber_at (left_overs links) (Saved old was []) [] false false) w ps) (suc (suc c)) call_state
    goes_down =
        path.joins set W marks most Q runs
        (path.one set W marks most Q runs c m ((form m).at p) wl s b (Fiber_at (left_overs links) (Saved old was []) [] false false) w ps (instr.Aload (fiber_slot (form m).method)) grp.down_at false (Goes grp.down_at wl (value.Fiber ∷ s) w.heap) grp.load refl
        (add.aload W (own_of W m) grp.down_at wl s w.heap (fiber_slot (form m).method) value.Fiber holds.fiber add.fiber_is_reference)
        (let h = high in path.goes_room set.program W m b w.heap grp.down_at wl (value.Fiber ∷ s) w.heap (omega (arith, low, h))) th (λ on. (on, refl, refl)) (λ on. tt))
        (path.calls set W marks most Q runs (suc c) m grp.down_at wl (value.Fiber ∷ s) s b (Fiber_at (left_overs links) (Saved old was []) [] false false) w ps (instr.Invokevirtual (member set.program 1)) ((form m).call_at p) (member set.program 1) (value.Fiber ∷ []) Down grp.down
        (members.alone 1 Down refl refl (own_of W m) ((form m).call_at p) wl s w.heap) (members.named 1 Down refl) (let h = high in omega (arith, low, h)) (tt, th))

    -- a frame of a pausable method begins
    enters : (u : Thread) (k : MethodId) (args s2 : List Value) → Takes set W marks form k args (self_of set.program k args) → is_pausable set.program k ≡ true → length s2 ≤ stack_limit set.program m → Q call_state → NextHeld set u
        → u ≡ calls set k args (At m to l s2 x ∷ u_frames links) w
        → wstep set W marks call_state ≡ wcalls set W marks true k (args ++ value.Fiber ∷ []) (frame m up wl s2 ∷ b) f1 w ps
        → M u (suc (suc c)) call_state
    enters u k args s2 takes pauses few2 here_ok held eu ew = by (nat_lt (suc (length b)) frame_limit) eu2 ew
      where
        n : length (At m to l s2 x ∷ u_frames links) ≡ suc (length b)
        n = ap suc (stack_length set W marks form [] links)

        eu2 : u ≡ (if nat_lt (suc (length b)) frame_limit then Run k 0 (entered set.program k args).locals [] (self_of set.program k args) (At m to l s2 x ∷ u_frames links) (counted w) else ending set w Stop cause.Depth)
        eu2 = eu ∙ ap (λ (j : ℕ). if nat_lt j frame_limit then Run k 0 (entered set.program k args).locals [] (self_of set.program k args) (At m to l s2 x ∷ u_frames links) (counted w) else ending set w Stop cause.Depth) n

        by : (a : Bool) → u ≡ (if a then Run k 0 (entered set.program k args).locals [] (self_of set.program k args) (At m to l s2 x ∷ u_frames links) (counted w) else ending set w Stop cause.Depth)
            → wstep set W marks call_state ≡ (if a then WRun k 0 (entered W k (args ++ value.Fiber ∷ [])).locals [] (frame m up wl s2 ∷ b) f1 (counted w) ps else ending set w WStop cause.Depth) → M u (suc (suc c)) call_state
        by false eu ew = forward.both_end set W marks most Q runs members form facts rows enough u (suc (suc c)) m ((form m).call_at p) wl (value.Fiber ∷ s) b f1 w w ps cause.Depth (omega (arith, few, enough)) eu ew here_ok
        by true eu ew =
            let z = forward.begun set W marks most Q runs members form facts rows enough k args (link s2 ∷ links) 0 value.Null (self_of set.program k args) (counted w) ps takes (good s2 few2, fine.stacked) pauses (held.self k 0 (entered set.program k args).locals [] (self_of set.program k args) (At m to l s2 x ∷ u_frames links) (counted w) eu pauses) in
            let a = z.2 in
            Goes_on (Fw k 0 [] (entered set.program k args).locals z.0 (self_of set.program k args) [] (link s2 ∷ links) 0 value.Null (counted w) ps) eu z.1 (omega (arith, a))
            (path.joins set W marks most Q runs
            (forward.counts set W marks most Q runs members form facts rows enough (suc (suc c)) m ((form m).call_at p) wl (value.Fiber ∷ s) b f1 w ps k 0 (entered W k (args ++ value.Fiber ∷ [])).locals [] (frame m up wl s2 ∷ b) f1 (counted w) ps (omega (arith, few, enough)) ew refl here_ok)
            z.3) z.4

    -- a native that returns
    native_returns : (u : Thread) (s2 : List Value) (o : Outcome) → u ≡ fold Stop (λ (a : World) (v : Option Value). Run m to l (push v s2) x (u_frames links) a) (raised_behind set (At m to l s2 x ∷ u_frames links) w) o
        → wstep set W marks call_state ≡ fold WStop (λ (a : World) (v : Option Value). WRun m up wl (push v s2) b f1 a ps) (wraised_behind set W marks (frame m up wl s2 ∷ b) f1 w ps) o → Counts w o → length s2 ≤ stack_limit set.program m → Q call_state → NextHeld set u → M u (suc (suc c)) call_state
    native_returns u s2 (GoesOn a v) eu ew n few2 here_ok held =
        let ret = forward.returned set W marks most Q runs members form facts rows enough m p to i callee s2 (push v s2) l wl x old was links empty_record 0 a ps (good s2 few2) fine.stacked (push_low v s2) (held.stack m to l (push v s2) x (u_frames links) a eu) in
        Goes_on (Fw m to (push v s2) l wl x [] links old was a ps) eu 3 (omega arith)
        (path.joins set W marks most Q runs
        (forward.counts set W marks most Q runs members form facts rows enough (suc (suc c)) m ((form m).call_at p) wl (value.Fiber ∷ s) b f1 w ps m up wl (push v s2) b f1 a ps (omega (arith, few, enough)) ew n here_ok)
        ret.0) ret.1
    native_returns u s2 (IsRaised why) eu ew n few2 here_ok held =
        forward.both_end set W marks most Q runs members form facts rows enough u (suc (suc c)) m ((form m).call_at p) wl (value.Fiber ∷ s) b f1 w (counted w) ps why (omega (arith, few, enough))
        (eu ∙ catching.behind_over set W marks form facts rows.catches m grp.pausable links fine.stacked to l s2 x w why) (ew ∙ catching.wbehind_over set W marks form facts rows.catches m grp.pausable links fine.stacked up wl s2 f1 w ps why) here_ok
    native_returns u s2 (IsOver o) eu ew n few2 here_ok held = forward.both_over set W marks most Q runs members form facts rows enough u (suc (suc c)) m ((form m).call_at p) wl (value.Fiber ∷ s) b f1 w ps o (omega (arith, few, enough)) eu ew here_ok

    module _ (typed : Typed (Run m p l s x (u_frames links) w)) (q_ok : (g : Fib) (v : World) (rest : List ℕ) → Now set W marks form (Run m p l s x (u_frames links) w) (Resting g v rest) → Q (Resting g v rest)) where
      abbrev here : Thread
      here = Run m p l s x (u_frames links) w

      deep : suc (count_of links) ≤ 512
      deep = let a = known.few_frames m p l s x (u_frames links) w typed in let n = frame_count links in omega (arith, a, n)

      rests_get : (box : Value) (k : MethodId) (s2 : List Value) → does set.program (own_of set.program m) i to l s w.heap ≡ Asks k (box ∷ []) to l s2 w.heap → native_of set.program k ≡ Some native.Get
          → leaf.Rests set W marks most Q runs members form facts rows enough native.Get box (bares (link s2 ∷ links)) w
      rests_get box k s2 e hn k2 links2 k0 ks ps2 sides rev good2 goods2 ready2 =
          q_ok (Fiber_at [] (record_of set W marks form k0) (first_record set W marks form box ks ∷ next_records set W marks form box ks) false true) w ps2
          (inl (
            native.Get,
            box,
            k2,
            links2,
            k0,
            ks,
            rev,
            refl,
            from_side native.Get box k2 links2 here w (subst (λ (z : List Link). IsSide native.Get box z here w) (sym sides) (to_side native.Get box (link s2) links here w (k, s, e, hn, refl))),
            good2,
            goods2,
            ready2,
          ))

      get_does : (u : Thread) (k : MethodId) (args s2 : List Value) → does set.program (own_of set.program m) i to l s w.heap ≡ Asks k args to l s2 w.heap → native_of set.program k ≡ Some native.Get → u ≢ Stop Lost → nat_le set.limits.steps w.done ≡ false
          → u ≡ native_does set w Stop (λ (a : World) (v : Option Value). Run m to l (push v s2) x (u_frames links) a) (raised_behind set (At m to l s2 x ∷ u_frames links) w) native.Get args
          → wstep set W marks call_state ≡ getting set W marks (leaf.goes_on set W marks most Q runs members form facts rows enough m up wl s2 b) (leaf.fails_on set W marks most Q runs members form facts rows enough m up wl s2 b) args f1 w ps
          → length s2 ≤ stack_limit set.program m → Q call_state → NextHeld set u → M u (suc (suc c)) call_state
      get_does u k [] s2 e hn ok time eu ew few2 here_ok held = absurd (ok eu)
      get_does u k (v1 ∷ v2 ∷ vs) s2 e hn ok time eu ew few2 here_ok held = absurd (ok (eu ∙ too_long v1))
        where
          too_long : (v1 : Value) → native_does set w Stop (λ (a : World) (v : Option Value). Run m to l (push v s2) x (u_frames links) a) (raised_behind set (At m to l s2 x ∷ u_frames links) w) native.Get (v1 ∷ v2 ∷ vs) ≡ Stop Lost
          too_long (value.Box t) = refl
          too_long v1 = refl
      get_does u k (box ∷ []) s2 e hn ok time eu ew few2 here_ok held = by ps ew
        where
          rd : (w.kept ≡ None) × AreReady set W marks form w.heap (Leaf native.Get) box (link s2 ∷ links)
          rd = known.ready m p to i callee l s s2 (box ∷ []) wl x old was links w k native.Get typed hf hp e hn refl (all_stand links fine.stacked) tt

          sides : List Link
          sides = bares (link s2 ∷ links)

          eu2 : u ≡ native_does set w Stop (leaf.behind set W marks most Q runs members form facts rows enough (bares (link s2 ∷ links))) (leaf.fails set W marks most Q runs members form facts rows enough w (bares (link s2 ∷ links))) native.Get (box ∷ [])
          eu2 = eu ∙ ap (λ (fs : List Frame). native_does set w Stop (λ (a : World) (v : Option Value). Run m to l (push v s2) x fs a) (raised_behind set (At m to l s2 x ∷ fs) w) native.Get (box ∷ [])) (sym (frames_bare links))

          by : (pauses : List ℕ) → wstep set W marks (WRun m ((form m).call_at p) wl (value.Fiber ∷ s) b f1 w ps) ≡ gets set W marks (leaf.goes_on set W marks most Q runs members form facts rows enough m up wl s2 b) (leaf.fails_on set W marks most Q runs members form facts rows enough m up wl s2 b) (box ∷ []) box f1 w pauses → M u (suc (suc c)) call_state
          by [] ew = leaf.takes_match set W marks most Q runs members form facts rows enough box w (bares (link s2 ∷ links)) rd.0 time u (suc (suc c)) m p to i callee s2 l wl x old was links (value.Fiber ∷ s) empty_record false ps [] (omega (arith, few)) (good s2 few2) fine.stacked eu ew here_ok held
          by (n ∷ rest) ew = leaf.gets_match set W marks most Q runs members form facts rows enough box w (bares (link s2 ∷ links)) rd.0 time n rest u (suc (suc c)) m p to i callee s2 l wl x old was links (value.Fiber ∷ s) empty_record false ps
              (rests_get box k s2 e hn) refl (omega (arith, few)) deep (good s2 few2) fine.stacked rd.1 eu2 ew here_ok held

      -- a put that waits
      module _ (box : BoxName) (n : ℕ) (shape : List Token) (has : shape_of set.program w.heap n ≡ Some shape) where
        rests_put : (k : MethodId) (s2 : List Value) → does set.program (own_of set.program m) i to l s w.heap ≡ Asks k (value.Box box ∷ value.Ref n ∷ []) to l s2 w.heap → native_of set.program k ≡ Some native.PutWait
            → leaf.Rests set W marks most Q runs members form facts rows enough native.PutWait (value.Box box) (bares (link s2 ∷ links)) (apart set n shape w)
        rests_put k s2 e hn k2 links2 k0 ks ps2 sides rev good2 goods2 ready2 =
            q_ok (Fiber_at [] (record_of set W marks form k0) (first_record set W marks form (value.Box box) ks ∷ next_records set W marks form (value.Box box) ks) false true) (apart set n shape w) ps2
            (inl (
              native.PutWait,
              value.Box box,
              k2,
              links2,
              k0,
              ks,
              rev,
              refl,
              from_side native.PutWait (value.Box box) k2 links2 here (apart set n shape w)
                  (subst (λ (z : List Link). IsSide native.PutWait (value.Box box) z here (apart set n shape w)) (sym sides)
                  (to_side native.PutWait (value.Box box) (link s2) links here (apart set n shape w) (record { root = n; shape = shape; heap = w.heap }, w.aside, refl, k, s, e, hn, refl))),
              good2,
              goods2,
              ready2,
            ))

      wait_does : (u : Thread) (k : MethodId) (args s2 : List Value) → does set.program (own_of set.program m) i to l s w.heap ≡ Asks k args to l s2 w.heap → native_of set.program k ≡ Some native.PutWait → u ≢ Stop Lost → nat_le set.limits.steps w.done ≡ false
          → u ≡ native_does set w Stop (λ (a : World) (v : Option Value). Run m to l (push v s2) x (u_frames links) a) (raised_behind set (At m to l s2 x ∷ u_frames links) w) native.PutWait args
          → wstep set W marks call_state ≡ putting set W marks (leaf.goes_on set W marks most Q runs members form facts rows enough m up wl s2 b) (leaf.fails_on set W marks most Q runs members form facts rows enough m up wl s2 b) args f1 w ps
          → length s2 ≤ stack_limit set.program m → Q call_state → NextHeld set u → M u (suc (suc c)) call_state
      wait_does u k args s2 e hn ok time eu ew few2 here_ok held =
          by args refl eu ew
        where
          rd : (box : BoxName) (n : ℕ) (shape : List Token) → args ≡ value.Box box ∷ value.Ref n ∷ [] → shape_of set.program w.heap n ≡ Some shape →
              (w.kept ≡ None) × AreReady set W marks form (resting_heap set.program native.PutWait args w.heap) (Leaf native.PutWait) (leaf_receiver native.PutWait args) (link s2 ∷ links)
          rd box n shape are has = known.ready m p to i callee l s s2 args wl x old was links w k native.PutWait typed hf hp e hn refl (all_stand links fine.stacked) (box, n, shape, are, has, time)

          -- it is put now
          now : (xs : List Value) (rest : List ℕ) → u ≡ native_does set w Stop (λ (a : World) (v : Option Value). Run m to l (push v s2) x (u_frames links) a) (raised_behind set (At m to l s2 x ∷ u_frames links) w) native.PutWait xs
              → wstep set W marks call_state ≡ puts_now set W marks (leaf.goes_on set W marks most Q runs members form facts rows enough m up wl s2 b) (leaf.fails_on set W marks most Q runs members form facts rows enough m up wl s2 b) xs f1 w rest → M u (suc (suc c)) call_state
          now xs rest eu ew = wait.put_match set W marks most Q runs members form facts rows enough w time xs w u (suc (suc c)) m p to i callee s2 l wl x old was links (value.Fiber ∷ s) empty_record false ps rest refl (omega (arith, few)) (good s2 few2) fine.stacked eu ew here_ok held

          waiting : (box : BoxName) (n : ℕ) (o : Option (List Token)) → shape_of set.program w.heap n ≡ o → args ≡ value.Box box ∷ value.Ref n ∷ [] → (j : ℕ) (rest : List ℕ)
              → wstep set W marks call_state ≡ waits set W marks (leaf.goes_on set W marks most Q runs members form facts rows enough m up wl s2 b) (leaf.fails_on set W marks most Q runs members form facts rows enough m up wl s2 b) (value.Box box ∷ value.Ref n ∷ []) f1 w (j ∷ rest) → M u (suc (suc c)) call_state
          waiting box n o has are zero rest ew = now (value.Box box ∷ value.Ref n ∷ []) rest (eu ∙ ap (native_does set w Stop (λ (a : World) (v : Option Value). Run m to l (push v s2) x (u_frames links) a) (raised_behind set (At m to l s2 x ∷ u_frames links) w) native.PutWait) are) ew
          waiting box n None has are (suc j) rest ew =
              forward.both_end set W marks most Q runs members form facts rows enough u (suc (suc c)) m ((form m).call_at p) wl (value.Fiber ∷ s) b f1 w w ps cause.Large (omega (arith, few, enough))
              (eu ∙ (ap (native_does set w Stop (λ (a : World) (v : Option Value). Run m to l (push v s2) x (u_frames links) a) (raised_behind set (At m to l s2 x ∷ u_frames links) w) native.PutWait) are ∙ ap (put_waits set w Stop (λ (a : World) (v : Option Value). Run m to l (push v s2) x (u_frames links) a) box n) has))
              (ew ∙ (ap (λ (o : Option (List Token)). waits_on set W marks (leaf.goes_on set W marks most Q runs members form facts rows enough m up wl s2 b) (leaf.fails_on set W marks most Q runs members form facts rows enough m up wl s2 b) box n o f1 w j rest) has ∙ ap (λ (t : Bool). if t then ending set w WStop cause.Spent else ending set w WStop cause.Large) time)) here_ok
          waiting box n (Some shape) has are (suc j) rest ew =
              wait.waits_match set W marks most Q runs members form facts rows enough box n shape w (bares (link s2 ∷ links)) has (rd box n shape are has).0 time (suc j) rest w u (suc (suc c)) m p to i callee s2 l wl x old was links (value.Fiber ∷ s) empty_record false ps refl
              (rests_put box n shape has k s2 (e ∙ ap (λ (xs : List Value). Asks k xs to l s2 w.heap) are) hn) refl (omega (arith, few)) deep (good s2 few2) fine.stacked
              (subst (λ (xs : List Value). AreReady set W marks form (resting_heap set.program native.PutWait xs w.heap) (Leaf native.PutWait) (leaf_receiver native.PutWait xs) (link s2 ∷ links)) are (rd box n shape are has).1)
              (eu ∙ (ap (native_does set w Stop (λ (a : World) (v : Option Value). Run m to l (push v s2) x (u_frames links) a) (raised_behind set (At m to l s2 x ∷ u_frames links) w) native.PutWait) are
              ∙ ap (λ (fs : List Frame). native_does set w Stop (λ (a : World) (v : Option Value). Run m to l (push v s2) x fs a) (raised_behind set (At m to l s2 x ∷ fs) w) native.PutWait (value.Box box ∷ value.Ref n ∷ [])) (sym (frames_bare links))))
              (ew ∙ wait.first_tries set W marks most Q runs members form facts rows enough box n shape w (bares (link s2 ∷ links)) has (rd box n shape are has).0 time (leaf.goes_on set W marks most Q runs members form facts rows enough m up wl s2 b) (leaf.fails_on set W marks most Q runs members form facts rows enough m up wl s2 b) f1 (suc j) rest) here_ok held

          -- by the number of pauses
          pauses_by : (y z : Value) → args ≡ y ∷ z ∷ [] → u ≡ native_does set w Stop (λ (a : World) (v : Option Value). Run m to l (push v s2) x (u_frames links) a) (raised_behind set (At m to l s2 x ∷ u_frames links) w) native.PutWait (y ∷ z ∷ []) → (pauses : List ℕ)
              → wstep set W marks call_state ≡ waits set W marks (leaf.goes_on set W marks most Q runs members form facts rows enough m up wl s2 b) (leaf.fails_on set W marks most Q runs members form facts rows enough m up wl s2 b) (y ∷ z ∷ []) f1 w pauses → M u (suc (suc c)) call_state
          pauses_by (value.Box box) (value.Ref n) are eu [] ew = now (value.Box box ∷ value.Ref n ∷ []) [] eu ew
          pauses_by (value.Box box) (value.Ref n) are eu (j ∷ rest) ew = waiting box n (shape_of set.program w.heap n) refl are j rest ew
          pauses_by (value.Box box) value.Null are eu pauses ew = now (value.Box box ∷ value.Null ∷ []) pauses eu ew
          pauses_by y z are eu pauses ew = absurd (ok eu)

          by : (xs : List Value) → args ≡ xs → u ≡ native_does set w Stop (λ (a : World) (v : Option Value). Run m to l (push v s2) x (u_frames links) a) (raised_behind set (At m to l s2 x ∷ u_frames links) w) native.PutWait xs
              → wstep set W marks call_state ≡ putting set W marks (leaf.goes_on set W marks most Q runs members form facts rows enough m up wl s2 b) (leaf.fails_on set W marks most Q runs members form facts rows enough m up wl s2 b) xs f1 w ps → M u (suc (suc c)) call_state
          by (y ∷ z ∷ []) are eu ew = pauses_by y z are eu ps ew
          by [] are eu ew = absurd (ok eu)
          by (v ∷ []) are eu ew = absurd (ok (eu ∙ too_short v))
            where
              too_short : (v : Value) → native_does set w Stop (λ (a : World) (v : Option Value). Run m to l (push v s2) x (u_frames links) a) (raised_behind set (At m to l s2 x ∷ u_frames links) w) native.PutWait (v ∷ []) ≡ Stop Lost
              too_short (value.Box t) = refl
              too_short v = refl
          by (v ∷ y ∷ z ∷ vs) are eu ew = absurd (ok (eu ∙ too_long v))
            where
              too_long : (v : Value) → native_does set w Stop (λ (a : World) (v : Option Value). Run m to l (push v s2) x (u_frames links) a) (raised_behind set (At m to l s2 x ∷ u_frames links) w) native.PutWait (v ∷ y ∷ z ∷ vs) ≡ Stop Lost
              too_long (value.Box t) = refl
              too_long v = refl

      rests_yield : (s2 : List Value) → step set here ≡ Run m to l s2 x (u_frames links) (counted w) → leaf.Rests set W marks most Q runs members form facts rows enough native.Yield value.Null (bares (link s2 ∷ links)) (counted w)
      rests_yield s2 e k2 links2 k0 ks ps2 sides rev good2 goods2 ready2 =
          q_ok (Fiber_at [] (record_of set W marks form k0) (first_record set W marks form value.Null ks ∷ next_records set W marks form value.Null ks) false true) (counted w) ps2
          (inr (
            native.Yield,
            value.Null,
            k2,
            links2,
            k0,
            ks,
            rev,
            refl,
            from_side native.Yield value.Null k2 links2 (step set here) (counted w) (subst (λ (z : List Link). IsSide native.Yield value.Null z (step set here) (counted w)) (sym sides) (to_side native.Yield value.Null (link s2) links (step set here) (counted w) e)),
            good2,
            goods2,
            ready2,
          ))

      yield_does : (u : Thread) (k : MethodId) (args s2 : List Value) → does set.program (own_of set.program m) i to l s w.heap ≡ Asks k args to l s2 w.heap → native_of set.program k ≡ Some native.Yield → u ≢ Stop Lost → step set here ≡ u
          → u ≡ native_does set w Stop (λ (a : World) (v : Option Value). Run m to l (push v s2) x (u_frames links) a) (raised_behind set (At m to l s2 x ∷ u_frames links) w) native.Yield args
          → wstep set W marks call_state ≡ yielding set W marks (leaf.goes_on set W marks most Q runs members form facts rows enough m up wl s2 b) (leaf.fails_on set W marks most Q runs members form facts rows enough m up wl s2 b) args f1 w ps
          → length s2 ≤ stack_limit set.program m → Q call_state → NextHeld set u → M u (suc (suc c)) call_state
      yield_does u k [] s2 e hn ok es eu ew few2 here_ok held =
          let rd = known.ready m p to i callee l s s2 [] wl x old was links w k native.Yield typed hf hp e hn refl (all_stand links fine.stacked) tt in
          leaf.yields_match set W marks most Q runs members form facts rows enough w (bares (link s2 ∷ links)) u (suc (suc c)) m p to i callee s2 l wl x old was links (value.Fiber ∷ s) empty_record ps rd.0
          (rests_yield s2 (es ∙ eu)) refl (omega (arith, few)) deep (good s2 few2) fine.stacked rd.1
          (eu ∙ ap (λ (fs : List Frame). Run m to l s2 x fs (counted w)) (sym (frames_bare links))) ew here_ok
      yield_does u k (v ∷ vs) s2 e hn ok es eu ew few2 here_ok held = absurd (ok eu)

      -- the built-in methods that pause, or whose methods are pausable
      native_does_match : (u : Thread) (k : MethodId) (args s2 : List Value) (n : Native) → does set.program (own_of set.program m) i to l s w.heap ≡ Asks k args to l s2 w.heap → native_of set.program k ≡ Some n → is_pausing_native n ≡ true → u ≢ Stop Lost → nat_le set.limits.steps w.done ≡ false → step set here ≡ u
          → u ≡ native_does set w Stop (λ (a : World) (v : Option Value). Run m to l (push v s2) x (u_frames links) a) (raised_behind set (At m to l s2 x ∷ u_frames links) w) n args
          → wstep set W marks call_state ≡ wnative set W marks (leaf.goes_on set W marks most Q runs members form facts rows enough m up wl s2 b) (leaf.fails_on set W marks most Q runs members form facts rows enough m up wl s2 b) n (args ++ value.Fiber ∷ []) f1 w ps
          → length s2 ≤ stack_limit set.program m → Q call_state → NextHeld set u → M u (suc (suc c)) call_state
      native_does_match u k args s2 native.Get e hn pn ok time es eu ew few2 here_ok held = get_does u k args s2 e hn ok time eu (ew ∙ ap (λ (o : Option (List Value)). handed_does set W marks (leaf.goes_on set W marks most Q runs members form facts rows enough m up wl s2 b) (leaf.fails_on set W marks most Q runs members form facts rows enough m up wl s2 b) native.Get o f1 w ps) (without_last args)) few2 here_ok held
      native_does_match u k args s2 native.Yield e hn pn ok time es eu ew few2 here_ok held = yield_does u k args s2 e hn ok es eu (ew ∙ ap (λ (o : Option (List Value)). handed_does set W marks (leaf.goes_on set W marks most Q runs members form facts rows enough m up wl s2 b) (leaf.fails_on set W marks most Q runs members form facts rows enough m up wl s2 b) native.Yield o f1 w ps) (without_last args)) few2 here_ok held
      native_does_match u k args s2 native.PutWait e hn pn ok time es eu ew few2 here_ok held = wait_does u k args s2 e hn ok time eu (ew ∙ ap (λ (o : Option (List Value)). handed_does set W marks (leaf.goes_on set W marks most Q runs members form facts rows enough m up wl s2 b) (leaf.fails_on set W marks most Q runs members form facts rows enough m up wl s2 b) native.PutWait o f1 w ps) (without_last args)) few2 here_ok held
      native_does_match u k args s2 native.Execute e hn pn ok time es eu ew few2 here_ok held =
          let z = native_same set w Stop (λ (a : World) (v : Option Value). Run m to l (push v s2) x (u_frames links) a) (raised_behind set (At m to l s2 x ∷ u_frames links) w) native.Execute args in
          let y = native_same set w WStop (λ (a : World) (v : Option Value). WRun m up wl (push v s2) b f1 a ps) (wraised_behind set W marks (frame m up wl s2 ∷ b) f1 w ps) native.Execute args in
          native_returns u s2 (native_does set w IsOver GoesOn IsRaised native.Execute args) (eu ∙ z.0)
          (ew ∙ ap (λ (o : Option (List Value)). handed_does set W marks (leaf.goes_on set W marks most Q runs members form facts rows enough m up wl s2 b) (leaf.fails_on set W marks most Q runs members form facts rows enough m up wl s2 b) native.Execute o f1 w ps) (without_last args) ∙ y.0) z.1 few2 here_ok held
      native_does_match u k args s2 n e hn pn ok time es eu ew few2 here_ok held = absurd (false≢true pn)

      shape_match : (u : Thread) (e : Effect) → does set.program (own_of set.program m) i to l s w.heap ≡ e → u ≢ Stop Lost → nat_le set.limits.steps w.done ≡ false → step set here ≡ u → u ≡ effect_does set e (frame m p l s) x (u_frames links) w
          → wstep set W marks call_state ≡ weffect set W marks true (handed up wl e) (frame m ((form m).call_at p) wl (value.Fiber ∷ s)) b f1 w ps → Shape to l w.heap e → HasRoom set.program e m (bare_frames (u_frames links)) → Q call_state → NextHeld set u → M u (suc (suc c)) call_state
      shape_match u e he ok time es eu ew (IsCall k args s2 d) room here_ok held =
          enters u k args s2 (known.takes m p to to i l s l s2 args x (u_frames links) w w.heap k typed hf (he ∙ d)) (rows.pauses m p i callee to l s s2 args w.heap k hf hp (known.clean m p to i l s x (u_frames links) w typed hf) (he ∙ d)) (subst (λ (z : Effect). HasRoom set.program z m (bare_frames (u_frames links))) d room).fits here_ok held
          (eu ∙ ap (λ (z : Effect). effect_does set z (frame m p l s) x (u_frames links) w) d) (ew ∙ ap (λ (z : Effect). weffect set W marks true (handed up wl z) (frame m ((form m).call_at p) wl (value.Fiber ∷ s)) b f1 w ps) d)
      shape_match u e he ok time es eu ew (IsNative k args s2 d) room here_ok held = by (native_of set.program k) refl
          (eu ∙ ap (λ (z : Effect). effect_does set z (frame m p l s) x (u_frames links) w) d) (ew ∙ ap (λ (z : Effect). weffect set W marks true (handed up wl z) (frame m ((form m).call_at p) wl (value.Fiber ∷ s)) b f1 w ps) d)
        where
          nn : (member_of W k ≡ None) × ((n : Native) → native_of set.program k ≡ Some n → is_pausing_native n ≡ true)
          nn = rows.natives m p i callee to l s s2 args w.heap k hf hp (known.clean m p to i l s x (u_frames links) w typed hf) (he ∙ d)

          by : (o : Option Native) → native_of set.program k ≡ o → u ≡ asks set w Stop (λ (a : World) (v : Option Value). Run m to l (push v s2) x (u_frames links) a) (raised_behind set (At m to l s2 x ∷ u_frames links) w) (native_of set.program k) args
              → wstep set W marks call_state ≡ wasks set W marks (leaf.goes_on set W marks most Q runs members form facts rows enough m up wl s2 b) (leaf.fails_on set W marks most Q runs members form facts rows enough m up wl s2 b) (member_of W k) (native_of W k) (args ++ value.Fiber ∷ []) f1 w ps → M u (suc (suc c)) call_state
          by None hn eu ew = absurd (ok (eu ∙ ap (λ (o : Option Native). asks set w Stop (λ (a : World) (v : Option Value). Run m to l (push v s2) x (u_frames links) a) (raised_behind set (At m to l s2 x ∷ u_frames links) w) o args) hn))
          by (Some n) hn eu ew =
              native_does_match u k args s2 n (he ∙ d) hn (nn.1 n hn) ok time es
              (eu ∙ ap (λ (o : Option Native). asks set w Stop (λ (a : World) (v : Option Value). Run m to l (push v s2) x (u_frames links) a) (raised_behind set (At m to l s2 x ∷ u_frames links) w) o args) hn)
              (ew ∙ ap (λ (o : Option FiberMember). wasks set W marks (leaf.goes_on set W marks most Q runs members form facts rows enough m up wl s2 b) (leaf.fails_on set W marks most Q runs members form facts rows enough m up wl s2 b) o (native_of W k) (args ++ value.Fiber ∷ []) f1 w ps) nn.0
              ∙ ap (λ (o : Option Native). wnatives set W marks (leaf.goes_on set W marks most Q runs members form facts rows enough m up wl s2 b) (leaf.fails_on set W marks most Q runs members form facts rows enough m up wl s2 b) o (args ++ value.Fiber ∷ []) f1 w ps) (rows.same_natives k nn.0 ∙ hn))
              (subst (λ (z : Effect). HasRoom set.program z m (bare_frames (u_frames links))) d room).fits here_ok held
      shape_match u e he ok time es eu ew (IsRaise why d) room here_ok held =
          forward.both_end set W marks most Q runs members form facts rows enough u (suc (suc c)) m ((form m).call_at p) wl (value.Fiber ∷ s) b f1 w (counted w) ps why (omega (arith, few, enough))
          (eu ∙ (ap (λ (z : Effect). effect_does set z (frame m p l s) x (u_frames links) w) d ∙ catching.raises_over set W marks form facts rows.catches m grp.pausable links fine.stacked p l s x (counted w) w.next why (raised_class set.program (index_at set.program (frame m p l s)) why)))
          (ew ∙ (ap (λ (z : Effect). weffect set W marks true (handed up wl z) (frame m ((form m).call_at p) wl (value.Fiber ∷ s)) b f1 w ps) d
          ∙ catching.wraises_over set W marks form facts rows.catches m grp.pausable links fine.stacked ((form m).call_at p) wl (value.Fiber ∷ s) f1 ps (counted w) w.next why (raised_class W (index_at W (frame m ((form m).call_at p) wl (value.Fiber ∷ s))) why))) here_ok
      shape_match u e he ok time es eu ew (IsEnd cause d) room here_ok held =
          forward.both_end set W marks most Q runs members form facts rows enough u (suc (suc c)) m ((form m).call_at p) wl (value.Fiber ∷ s) b f1 w w ps cause (omega (arith, few, enough))
          (eu ∙ ap (λ (z : Effect). effect_does set z (frame m p l s) x (u_frames links) w) d) (ew ∙ ap (λ (z : Effect). weffect set W marks true (handed up wl z) (frame m ((form m).call_at p) wl (value.Fiber ∷ s)) b f1 w ps) d) here_ok
      shape_match u e he ok time es eu ew (IsStuck d) room here_ok held = absurd (ok (eu ∙ ap (λ (z : Effect). effect_does set z (frame m p l s) x (u_frames links) w) d))

      pub call_match : M (step set here) c (WRun m ((form m).at p) wl s b (Fiber_at (left_overs links) (Saved old was []) [] false false) w ps)
      call_match = forward.after set W marks most Q runs members form facts rows enough goes_down (by (nat_le set.limits.steps w.done) refl)
        where
          e0 : Effect
          e0 = does set.program (own_of set.program m) i to l s w.heap

          es : step set here ≡ spending set w Stop (effect_does set (does set.program (own_of set.program m) i to l s w.heap) (frame m p l s) x (u_frames links) w)
          es = ap (λ (o : Option (Instr × ℕ)). spending set w Stop (found_does set o (frame m p l s) x (u_frames links) w)) hf

          ex : wstep set W marks call_state ≡ spending set w WStop (weffect set W marks true (handed up wl (does set.program (own_of set.program m) i to l s w.heap)) (frame m ((form m).call_at p) wl (value.Fiber ∷ s)) b f1 w ps)
          ex = path.found set W marks most Q runs m ((form m).call_at p) wl (value.Fiber ∷ s) b f1 w ps i up true true (handed up wl (does set.program (own_of set.program m) i to l s w.heap)) grp.call refl (rows.hands m p i callee to up l wl s w.heap hf hp (known.old_heap m p l s x (u_frames links) w typed) (known.clean m p to i l s x (u_frames links) w typed hf))

          here_ok : Q call_state
          here_ok =
              runs m ((form m).call_at p) wl (value.Fiber ∷ s) b f1 w ps
              (path.next_room set W marks m ((form m).call_at p) wl (value.Fiber ∷ s) b f1 w ps i up true (handed up wl (does set.program (own_of set.program m) i to l s w.heap)) grp.call
              (rows.hands m p i callee to up l wl s w.heap hf hp (known.old_heap m p l s x (u_frames links) w typed) (known.clean m p to i l s x (u_frames links) w typed hf))
              (handed_room (does set.program (own_of set.program m) i to l s w.heap) (rows.shapes m p i callee to l s w.heap hf hp (known.clean m p to i l s x (u_frames links) w typed hf))
              (λ k args s2 d. rows.natives m p i callee to l s s2 args w.heap k hf hp (known.clean m p to i l s x (u_frames links) w typed hf) d) (known.room m p to i l s x (u_frames links) w typed hf) (known.gives m p to i l s x (u_frames links) w typed hf)) (λ on. absurd (false≢true on)) (λ on. absurd (false≢true on)))
              (tt, th)

          next_held : NextHeld set (step set here)
          next_held = record {
            stack = λ m2 p2 l2 s2 x2 b2 w2 e. known.stack_there m2 p2 l2 s2 x2 b2 w2 (subst Typed e (known.keeps here typed));
            self = λ m2 p2 l2 s2 x2 b2 w2 e. known.self_there m2 p2 l2 s2 x2 b2 w2 (subst Typed e (known.keeps here typed));
          }

          by : (t : Bool) → nat_le set.limits.steps w.done ≡ t → M (step set here) (suc (suc c)) call_state
          by true h =
              forward.both_end set W marks most Q runs members form facts rows enough (step set here) (suc (suc c)) m ((form m).call_at p) wl (value.Fiber ∷ s) b f1 w w ps cause.Spent (omega (arith, few, enough))
              (es ∙ ap (λ (t : Bool). if t then ending set w Stop cause.Spent else effect_does set (does set.program (own_of set.program m) i to l s w.heap) (frame m p l s) x (u_frames links) w) h)
              (ex ∙ ap (λ (t : Bool). if t then ending set w WStop cause.Spent else weffect set W marks true (handed up wl (does set.program (own_of set.program m) i to l s w.heap)) (frame m ((form m).call_at p) wl (value.Fiber ∷ s)) b f1 w ps) h) here_ok
          by false h =
              shape_match (step set here) (does set.program (own_of set.program m) i to l s w.heap) refl (known.unstuck here typed) h refl
              (es ∙ ap (λ (t : Bool). if t then ending set w Stop cause.Spent else effect_does set (does set.program (own_of set.program m) i to l s w.heap) (frame m p l s) x (u_frames links) w) h)
              (ex ∙ ap (λ (t : Bool). if t then ending set w WStop cause.Spent else weffect set W marks true (handed up wl (does set.program (own_of set.program m) i to l s w.heap)) (frame m ((form m).call_at p) wl (value.Fiber ∷ s)) b f1 w ps) h)
              (rows.shapes m p i callee to l s w.heap hf hp (known.clean m p to i l s x (u_frames links) w typed hf)) (known.room m p to i l s x (u_frames links) w typed hf) here_ok next_held
