-- The theorem: ends alike, rests, and marks that come soon.
use Rattle.std.proofs.Common.{◌≡◌, ◌≢◌, ◌⊎◌, inl, inr, ℕ, zero, suc, ◌+◌, ◌*◌, ◌≤◌, Bool, true, false, List, [], ◌∷◌, length, Option, Some, None, refl, sym, ap, subst, ◌∙◌, arith}
use Rattle.std.specs.Prelude.{nat_le, nat_lt, if◌then◌else◌}
use Rattle.std.proofs.lemmas.Bool.{false≢true}
use Rattle.kilim_run_state.specs.declared.cause.EndCause.{EndCause}
use Rattle.kilim_run_state.specs.declared.cause.EndCause.TheVariants as cause
use Rattle.kilim_program.specs.declared.class.Method.{Method}
use Rattle.kilim_program.specs.declared.instr.Instr.{Instr}
use Rattle.kilim_program.specs.declared.names.MethodId.{MethodId}
use Rattle.kilim_program.specs.declared.value.Value.{Value}
use Rattle.kilim_program.specs.Program.{Program}
use Rattle.kilim_run_state.specs.Machine.{Activation}
use Rattle.kilim_program.specs.Names.{method_at}
use Rattle.kilim_program.specs.Members.{execute_of}
use Rattle.kilim_run_machine.specs.Natives.{Native, native_of}
use Rattle.kilim_run_machine.specs.Effect.{Effect, Goes, Makes, Opens, Calls, Asks, Returns, Raises, Throws, Ends, Stuck}
use Rattle.kilim_run_machine.specs.Does.{does}
use Rattle.kilim_run_machine.specs.Moves.{frame_limit}
use Rattle.kilim_run_model.specs.State.{Setting}
use Rattle.kilim_fiber_spec.specs.Acts.{World, Over, Lost, counted, with_heap, ending, native_does, asks, opens_box, raises, with_new}
use Rattle.kilim_fiber_spec.specs.Thread.{fetch, push, Frame, At, Thread, Run, Stop, step, found_does, effect_does, finishes, begins, begins_in, own_of, left_at, left_behind, raised_behind, stands_at}
use Rattle.kilim_fiber_spec.proofs.lone.Left.{raises_has, thrown_has}
use Rattle.kilim_run_machine.specs.Raising.{index_at, other_index, raised_class}
use Rattle.kilim_run_state.specs.Objects.{new_object}
use Rattle.kilim_program.specs.declared.value.Value.TheVariants.{Ref}
use Rattle.kilim_program.specs.declared.names.ClassId.{ClassId}
use Rattle.kilim_fiber_spec.specs.Fibers.{frame, Fib, Woven_state, WRun, Resting, WStop, wstep}
use Rattle.kilim_fiber_spec.specs.Form.{Facts, Members, longest}
use Rattle.kilim_fiber_spec.specs.Runs.{most_uncounted, Comes, stop, idle, mark}
use Rattle.kilim_fiber_spec.specs.Serves.{From, Rows, Known, StandsFor}
use Rattle.kilim_fiber_spec.specs.Links.{u_stack, Forms, code, Both, Fw, unwoven, woven, Fine}
use Rattle.kilim_fiber_laws.proofs.simulation.Natural.{Outcome, GoesOn, IsOver, IsRaised, fold, Counts, ending_is, native_same, opens_same}
use Rattle.std.proofs.lemmas.Bool.{le-leb}
use Rattle.std.specs.Prelude.{◌↔◌}
use Rattle.kilim_fiber_spec.specs.Thread.{steps, own_of}
use Rattle.kilim_fiber_spec.specs.Fibers.{wsteps}
use Rattle.kilim_fiber_spec.specs.Runs.{ComesToRest, IsMark, Soon}
use Rattle.kilim_fiber_spec.specs.Serves.{Serves}
use Rattle.kilim_fiber_laws.specs.simulation.Throwing.{ExceptionsMeetNone, IsCalm}
use Rattle.kilim_fiber_laws.proofs.simulation.Still.{StepIsKnown, comes_to_rest}
use Rattle.kilim_fiber_laws.proofs.simulation.Room.{StackIsThere, is_fine}
use Rattle.kilim_type_sound.specs.Fits.{AreThere}
use Rattle.kilim_fiber_spec.specs.Rooms.{IsFineState}
use Rattle.kilim_fiber_laws.proofs.simulation.Forward.{calm, Match, Goes_on, Overs}
use Rattle.kilim_fiber_laws.proofs.simulation.Whole as whole

-- ---- each move counts

module _ (set : Setting) where
  abbrev Counted : World → Thread → Type 0
  Counted w (Run m p l s x b v) = v.done ≡ w.done + 1
  Counted w (Stop o) = Unit {0}

  stands_counted : (w : World) (f : Frame) (fs : List Frame) (after : World) → after.done ≡ w.done + 1 → Counted w (stands_at set f fs after)
  stands_counted w (At m p l s x) fs after e = e

  end_counted : (w v : World) (e : EndCause) → Counted w (ending set v Stop e)
  end_counted w v e = subst (λ (t : Thread). Counted w t) (sym (ending_is set v Stop e)) tt

  -- what is raised or thrown is counted, wherever it leads
  raised_counted : (w : World) (why : EndCause) (left : ClassId → List Frame) (o : Option ClassId) → Counted w (raises set Stop (stands_at set) (counted w) why set.program left o)
  raised_counted w why left o = raises_has set (Counted w) (counted w) why (end_counted w (counted w) why) set.program left o (λ c f fs e. stands_counted w f fs (with_new (counted w) (new_object set.program c)) refl)

  fold_counted : (w v : World) (m : MethodId) (p : ℕ) (l s : List Value) (x : Value) (b : List Frame) (o : Outcome) → v.done ≡ w.done → Counts w o → Counted w (fold Stop (λ (a : World) (u : Option Value). Run m p l (push u s) x b a) (raised_behind set (At m p l s x ∷ b) v) o)
  fold_counted w v m p l s x b (GoesOn a u) e h = h
  fold_counted w v m p l s x b (IsOver o) e h = tt
  fold_counted w v m p l s x b (IsRaised why) e h =
      raises_has set (Counted w) (counted v) why (end_counted w (counted v) why) set.program (λ c. left_behind set.program c (Ref v.next) (At m p l s x ∷ b)) (raised_class set.program other_index why)
      (λ c f fs d. stands_counted w f fs (with_new (counted v) (new_object set.program c)) (ap (λ (n : ℕ). n + 1) e))

  if_counted : (w : World) (t : Bool) (u v : Thread) → Counted w u → Counted w v → Counted w (if t then u else v)
  if_counted w true u v a b = a
  if_counted w false u v a b = b

  begins_counted : (w : World) (k : MethodId) (n : ℕ) (v after : World) (o : Option Method) → after.done ≡ w.done + 1 → Counted w (begins_in set k n v after o)
  begins_counted w k n v after None h = tt
  begins_counted w k n v after (Some a) h = if_counted w a.built_in _ _ (end_counted w v cause.Done) h

  finishes_counted : (w v : World) (o : Option ℕ) → v.done ≡ w.done → Counted w (finishes set v o)
  finishes_counted w v None h = end_counted w v cause.Done
  finishes_counted w v (Some n) h = by (execute_of set.program set.main)
    where
      by : (o : Option MethodId) → Counted w (begins set n v (record (counted v) { kept = None }) o)
      by None = tt
      by (Some k) = begins_counted w k n v (record (counted v) { kept = None }) (method_at set.program k) (ap (λ (i : ℕ). i + 1) h)

  effect_counted : (e : Effect) (top : Activation) (x : Value) (b : List Frame) (w : World) → Counted w (effect_does set e top x b w)
  effect_counted (Goes p l s heap) top x b w = refl
  effect_counted (Makes object p l s heap) top x b w = refl
  effect_counted (Opens p l s heap) top x b w =
      let z = opens_same set (with_heap w heap) Stop (λ (a : World) (v : Option Value). Run top.method p l (push v s) x b a) (raised_behind set (At top.method p l s x ∷ b) (with_heap w heap)) (counted (with_heap w heap)) refl in
      subst (λ (t : Thread). Counted w t) (sym z.0) (fold_counted w (with_heap w heap) top.method p l s x b (opens_box set (with_heap w heap) IsOver GoesOn (counted (with_heap w heap))) refl z.1)
  effect_counted (Calls c args p l s heap) top x b w = if_counted w (nat_lt (length (At top.method p l s x ∷ b)) frame_limit) _ _ refl (end_counted w (with_heap w heap) cause.Depth)
  effect_counted (Asks c args p l s heap) top x b w = by (native_of set.program c)
    where
      by : (o : Option Native) → Counted w (asks set (with_heap w heap) Stop (λ (a : World) (v : Option Value). Run top.method p l (push v s) x b a) (raised_behind set (At top.method p l s x ∷ b) (with_heap w heap)) o args)
      by None = tt
      by (Some n) =
          let z = native_same set (with_heap w heap) Stop (λ (a : World) (v : Option Value). Run top.method p l (push v s) x b a) (raised_behind set (At top.method p l s x ∷ b) (with_heap w heap)) n args in
          subst (λ (t : Thread). Counted w t) (sym z.0) (fold_counted w (with_heap w heap) top.method p l s x b (native_does set (with_heap w heap) IsOver GoesOn IsRaised n args) refl z.1)
  effect_counted (Returns v heap) top x [] w = finishes_counted w (with_heap w heap) w.kept refl
  effect_counted (Returns v heap) top x (At m2 p2 l2 s2 x2 ∷ b) w = refl
  effect_counted (Raises why) top x b w = raised_counted w why (λ c. left_at set.program c (Ref w.next) top x b) (raised_class set.program (index_at set.program top) why)
  effect_counted (Throws n c why) top x b w = thrown_has set (Counted w) (counted w) why (end_counted w (counted w) why) (counted w) (left_at set.program c (Ref n) top x b) (λ f fs e. stands_counted w f fs (counted w) refl)
  effect_counted (Ends cause) top x b w = end_counted w w cause
  effect_counted Stuck top x b w = tt

  step_counted : (m : MethodId) (p : ℕ) (l s : List Value) (x : Value) (b : List Frame) (w : World) → Counted w (step set (Run m p l s x b w))
  step_counted m p l s x b w = if_counted w (nat_le set.limits.steps w.done) _ _ (end_counted w w cause.Spent) (by (fetch set.program m p))
    where
      by : (o : Option (Instr × ℕ)) → Counted w (found_does set o (frame m p l s) x b w)
      by None = tt
      by (Some i) = effect_counted (does set.program (own_of set.program m) i.0 i.1 l s w.heap) (frame m p l s) x b w

  stays_over : (n : ℕ) (o : Over) → steps set n (Stop o) ≡ Stop o
  stays_over zero o = refl
  stays_over (suc n) o = stays_over n o

  -- so a run ends
  pub run_ends : (k : ℕ) (m : MethodId) (p : ℕ) (l s : List Value) (x : Value) (b : List Frame) (w : World) → set.limits.steps ≤ w.done + k → (n : ℕ) × (o : Over) × (steps set n (Run m p l s x b w) ≡ Stop o)
  run_ends zero m p l s x b w h = (
    1,
    ending set w (λ (o : Over). o) cause.Spent,
    ap (λ (t : Bool). if t then ending set w Stop cause.Spent else found_does set (fetch set.program m p) (frame m p l s) x b w) (le-leb set.limits.steps w.done (omega (arith, h))) ∙ ending_is set w Stop cause.Spent,
  )
  run_ends (suc k) m p l s x b w h = by (step set (Run m p l s x b w)) refl (step_counted m p l s x b w) (λ m2 p2 l2 s2 x2 b2 w2 g. run_ends k m2 p2 l2 s2 x2 b2 w2 g)
    where
      by : (t : Thread) → step set (Run m p l s x b w) ≡ t → Counted w t → ((m : MethodId) (p : ℕ) (l s : List Value) (x : Value) (b : List Frame) (w : World) → set.limits.steps ≤ w.done + k → (n : ℕ) × (o : Over) × (steps set n (Run m p l s x b w) ≡ Stop o))
          → (n : ℕ) × (o : Over) × (steps set n (Run m p l s x b w) ≡ Stop o)
      by (Stop o) e d rec = (1, o, e)
      by (Run m2 p2 l2 s2 x2 b2 w2) e d rec =
          let r = rec m2 p2 l2 s2 x2 b2 w2 (omega (arith, d, h)) in
          (suc r.0, r.1, ap (steps set r.0) e ∙ r.2)

  over_of : Thread → Over
  over_of (Run m p l s x b w) = Lost
  over_of (Stop o) = o

  -- two ends of one run are one
  pub one_end : (n k : ℕ) (t : Thread) (a b : Over) → steps set n t ≡ Stop a → steps set k t ≡ Stop b → a ≡ b
  unfolding over_of
  one_end zero k t a b e d = ap over_of (sym (stays_over k a) ∙ ap (steps set k) (sym e) ∙ d)
  one_end (suc n) zero t a b e d = ap over_of (sym e ∙ ap (steps set (suc n)) d ∙ stays_over (suc n) b)
  one_end (suc n) (suc k) t a b e d = one_end n k (step set t) a b e d

module _ (set : Setting) (W : Program) (marks : List (List Bool)) where
  wstays : (n : ℕ) (o : Over) → wsteps set W marks n (WStop o) ≡ WStop o
  wstays zero o = refl
  wstays (suc n) o = wstays n o

  wover_of : Woven_state → Over
  wover_of (WRun m p l s b f w ps) = Lost
  wover_of (Resting f w ps) = Lost
  wover_of (WStop o) = o

  pub one_wend : (n k : ℕ) (x : Woven_state) (a b : Over) → wsteps set W marks n x ≡ WStop a → wsteps set W marks k x ≡ WStop b → a ≡ b
  unfolding wover_of
  one_wend zero k x a b e d = ap wover_of (sym (wstays k a) ∙ ap (wsteps set W marks k) (sym e) ∙ d)
  one_wend (suc n) zero x a b e d = ap wover_of (sym e ∙ ap (wsteps set W marks (suc n)) d ∙ wstays (suc n) b)
  one_wend (suc n) (suc k) x a b e d = one_wend n k (wstep set W marks x) a b e d

  module _ (most : ℕ) (Q : Woven_state → Type 0) where
    reaches : {c d : ℕ} {x y : Woven_state} → Comes set W marks most Q c x d y → (j : ℕ) × (wsteps set W marks j x ≡ y)
    reaches stop = (0, refl)
    reaches (idle q r) = let z = reaches r in (suc z.0, z.1)
    reaches (mark q few m r) = let z = reaches r in (suc z.0, z.1)

    at_each : {c d : ℕ} {x y : Woven_state} → Comes set W marks most Q c x d y → (j : ℕ) → Q (wsteps set W marks j x) ⊎ ((k : ℕ) × (wsteps set W marks j x ≡ wsteps set W marks k y))
    at_each stop j = inr (j, refl)
    at_each (idle q r) zero = inl q
    at_each (idle q r) (suc j) = at_each r j
    at_each (mark q few m r) zero = inl q
    at_each (mark q few m r) (suc j) = at_each r j

    -- from each state the next mark comes soon
    first_mark : {c d : ℕ} {x y : Woven_state} → Comes set W marks most Q c x d y → d ≤ most → IsMark set W marks y → (n : ℕ) × (n + c ≤ most) × IsMark set W marks (wsteps set W marks n x)
    first_mark stop few m = (0, omega (arith, few), m)
    first_mark (idle q r) few m = let z = first_mark r few m in let a = z.1 in (suc z.0, omega (arith, a), z.2)
    first_mark (mark q here m r) few n = (0, omega (arith, here), m)

    each_mark : {c d : ℕ} {x y : Woven_state} → Comes set W marks most Q c x d y → d ≤ most → IsMark set W marks y → (j : ℕ) → Soon set W marks most (wsteps set W marks j x) ⊎ ((k : ℕ) × (wsteps set W marks j x ≡ wsteps set W marks k y))
    each_mark stop few m j = inr (j, refl)
    each_mark (idle q r) few m zero = let z = first_mark r few m in let a = z.1 in inl (suc z.0, omega (arith, a), z.2)
    each_mark (idle q r) few m (suc j) = each_mark r few m j
    each_mark (mark q here n r) few m zero = inl (0, omega arith, n)
    each_mark (mark q here n r) few m (suc j) = each_mark r few m j

-- ---- nothing is lost

pub wsteps_last : (set : Setting) (W : Program) (marks : List (List Bool)) (n : ℕ) (x : Woven_state) → wsteps set W marks n (wstep set W marks x) ≡ wstep set W marks (wsteps set W marks n x)
wsteps_last set W marks zero x = refl
wsteps_last set W marks (suc n) x = wsteps_last set W marks n (wstep set W marks x)

abbrev is_running : Thread → Bool
is_running (Run m p l s x b w) = true
is_running (Stop o) = false

pub run_not_lost : (t : Both) → unwoven t ≢ Stop Lost
run_not_lost (Fw m p s l wl x ov links old was w ps) e = false≢true (sym (ap is_running e))

module _ (set : Setting) (W : Program) (marks : List (List Bool)) (form : Forms set W marks) (Typed : Thread → Type 0) (known : Known set W marks form Typed) where
  pub none_lost : (n : ℕ) (t : Thread) → Typed t → t ≢ Stop Lost → steps set n t ≢ Stop Lost
  none_lost zero t typed ok = ok
  none_lost (suc n) t typed ok = none_lost n (step set t) (known.keeps t typed) (known.unstuck t typed)

-- ---- the theorem

module _ (set : Setting) (W : Program) (marks : List (List Bool)) (most : ℕ)
    (members : Members set.program W) (form : Forms set W marks) (facts : (m : MethodId) → Facts set.program W (code set W marks) (form m)) (rows : Rows set W marks form)
    (enough : calm + 8 + 512 * longest ≤ most) (Typed : Thread → Type 0) (known : Known set W marks form Typed) where
  -- the state stands for the thread after some steps, if it is at rest
  abbrev At_some : Thread → Woven_state → Type 0
  At_some t z = ((j : ℕ) × StandsFor set W marks form (steps set j t) z) × StepIsKnown set W marks z × StackIsThere set W marks z

  runs_of : (t : Thread) (m : MethodId) (p : ℕ) (l s : List Value) (b : List Activation) (f : Fib) (w : World) (ps : List ℕ) → StepIsKnown set W marks (WRun m p l s b f w ps) → AreThere w.heap s → At_some t (WRun m p l s b f w ps)
  runs_of t m p l s b f w ps r th = ((0, tt), r, th)

  abbrev is_run : Thread → Bool
  is_run (Run m p l s x b w) = true
  is_run (Stop o) = false

  abbrev is_stop : Woven_state → Bool
  is_stop (WRun m p l s b f w ps) = false
  is_stop (Resting f w ps) = false
  is_stop (WStop o) = true

  -- the whole run, to its end
  record Ended_run (t : Both) : Type 0 where
    over : Over
    n : ℕ
    ends : steps set n (unwoven t) ≡ Stop over
    count : ℕ
    few : count ≤ most
    way : Comes set W marks most (At_some (unwoven t)) 0 (woven set W marks form t) count (WStop over)

  ended : (t : Both) → Fine set W marks form t → Typed (unwoven t) → Ended_run t
  ended (Fw m p s l wl x ov links old was w ps) fine typed =
      let r = run_ends set set.limits.steps m p l s x (u_stack ov links) w (omega arith) in
      by r.0 r.1 r.2 (whole.follows set W marks most (At_some (Run m p l s x (u_stack ov links) w)) (runs_of (Run m p l s x (u_stack ov links) w)) members form facts rows enough Typed known r.0 (Fw m p s l wl x ov links old was w ps) 0 (omega arith) fine typed (λ j g v rest h. ((j, h), (tt, tt, tt), tt)))
    where
      by : (n : ℕ) (o : Over) → steps set n (Run m p l s x (u_stack ov links) w) ≡ Stop o
          → Match set W marks most (At_some (Run m p l s x (u_stack ov links) w)) (runs_of (Run m p l s x (u_stack ov links) w)) members form facts rows enough (steps set n (Run m p l s x (u_stack ov links) w)) 0 (woven set W marks form (Fw m p s l wl x ov links old was w ps))
          → Ended_run (Fw m p s l wl x ov links old was w ps)
      by n o e (Overs o2 e2 d few way) = record { over = o2; n = n; ends = e2; count = d; few = few; way = way }
      by n o e (Goes_on (Fw m2 p2 s2 l2 wl2 x2 ov2 links2 old2 was2 w2 ps2) e2 d few way fine2) = absurd (false≢true (ap is_run (sym e ∙ e2)))

  -- an exception never meets a fiber that pauses or rewinds
  pub stays_calm : (t : Both) → Fine set W marks form t → Typed (unwoven t) → (j : ℕ) → IsCalm set W marks (wsteps set W marks j (woven set W marks form t))
  stays_calm t fine typed j =
      let r = ended t fine typed in
      by r.over (at_each set W marks most (At_some (unwoven t)) r.way j)
    where
      by : (o : Over) → At_some (unwoven t) (wsteps set W marks j (woven set W marks form t)) ⊎ ((k : ℕ) × (wsteps set W marks j (woven set W marks form t) ≡ wsteps set W marks k (WStop o))) → IsCalm set W marks (wsteps set W marks j (woven set W marks form t))
      by o (inl q) = q.1.2
      by o (inr k) = subst (λ (z : Woven_state). IsCalm set W marks z) (sym (k.1 ∙ wstays set W marks k.0 o)) tt

  pub serves : Serves set W marks form most Typed
  serves = record { ends = ends_alike; rests = rests_stand; soon = marks_soon; pausing = all_rest; fine = all_fine }
    where
      ends_alike : (t : Both) → Fine set W marks form t → Typed (unwoven t) → (o : Over) → ((n : ℕ) × (steps set n (unwoven t) ≡ Stop o)) ↔ ((j : ℕ) × (wsteps set W marks j (woven set W marks form t) ≡ WStop o))
      ends_alike t fine typed o =
          let r = ended t fine typed in
          let z = reaches set W marks most (At_some (unwoven t)) r.way in (
            (λ h. (z.0, z.1 ∙ ap WStop (one_end set r.n h.0 (unwoven t) r.over o r.ends h.1))),
            (λ h. (r.n, r.ends ∙ ap Stop (one_wend set W marks z.0 h.0 (woven set W marks form t) r.over o z.1 h.1))),
          )

      rests_stand : (t : Both) → Fine set W marks form t → Typed (unwoven t) → (j : ℕ) (f : Fib) (w : World) (ps : List ℕ) → wsteps set W marks j (woven set W marks form t) ≡ Resting f w ps → (n : ℕ) × StandsFor set W marks form (steps set n (unwoven t)) (Resting f w ps)
      rests_stand t fine typed j f w ps e =
          let r = ended t fine typed in
          by r.over (at_each set W marks most (At_some (unwoven t)) r.way j)
        where
          by : (o : Over) → At_some (unwoven t) (wsteps set W marks j (woven set W marks form t)) ⊎ ((k : ℕ) × (wsteps set W marks j (woven set W marks form t) ≡ wsteps set W marks k (WStop o))) → (n : ℕ) × StandsFor set W marks form (steps set n (unwoven t)) (Resting f w ps)
          by o (inl q) = (subst (λ (z : Woven_state). At_some (unwoven t) z) e q).0
          by o (inr k) = absurd (false≢true (ap is_stop (sym e ∙ k.1 ∙ wstays set W marks k.0 o)))

      marks_soon : (t : Both) → Fine set W marks form t → Typed (unwoven t) → (j : ℕ) → Soon set W marks most (wsteps set W marks j (woven set W marks form t))
      marks_soon t fine typed j =
          let r = ended t fine typed in
          by r.over (each_mark set W marks most (At_some (unwoven t)) r.way r.few (inr refl) j)
        where
          by : (o : Over) → Soon set W marks most (wsteps set W marks j (woven set W marks form t)) ⊎ ((k : ℕ) × (wsteps set W marks j (woven set W marks form t) ≡ wsteps set W marks k (WStop o))) → Soon set W marks most (wsteps set W marks j (woven set W marks form t))
          by o (inl s) = s
          by o (inr k) = (0, omega arith, subst (λ (z : Woven_state). IsMark set W marks z) (sym (k.1 ∙ wstays set W marks k.0 o)) (inr refl))

      all_rooms : (t : Both) → Fine set W marks form t → Typed (unwoven t) → (j : ℕ) → StepIsKnown set W marks (wsteps set W marks j (woven set W marks form t)) × StackIsThere set W marks (wsteps set W marks j (woven set W marks form t))
      all_rooms t fine typed j =
          let r = ended t fine typed in
          by r.over (at_each set W marks most (At_some (unwoven t)) r.way j)
        where
          by : (o : Over) → At_some (unwoven t) (wsteps set W marks j (woven set W marks form t)) ⊎ ((k : ℕ) × (wsteps set W marks j (woven set W marks form t) ≡ wsteps set W marks k (WStop o))) → StepIsKnown set W marks (wsteps set W marks j (woven set W marks form t)) × StackIsThere set W marks (wsteps set W marks j (woven set W marks form t))
          by o (inl q) = (q.1, q.2)
          by o (inr k) = subst (λ (z : Woven_state). StepIsKnown set W marks z × StackIsThere set W marks z) (sym (k.1 ∙ wstays set W marks k.0 o)) ((tt, tt, tt), tt)

      never_lost : (t : Both) → Fine set W marks form t → Typed (unwoven t) → (j : ℕ) → wsteps set W marks j (woven set W marks form t) ≢ WStop Lost
      never_lost t fine typed j e = let h = (ends_alike t fine typed Lost).1 (j, e) in none_lost set W marks form Typed known h.0 (unwoven t) typed (run_not_lost t) h.1

      all_rest : (t : Both) → Fine set W marks form t → Typed (unwoven t) → (j : ℕ) → ComesToRest set W marks most (wsteps set W marks j (woven set W marks form t))
      all_rest t fine typed = comes_to_rest set W marks most (woven set W marks form t) (λ j. (all_rooms t fine typed j).0.1) (never_lost t fine typed) (marks_soon t fine typed)

      all_fine : (t : Both) → Fine set W marks form t → Typed (unwoven t) → (j : ℕ) → IsFineState set.program W (wsteps set W marks j (woven set W marks form t))
      all_fine t fine typed j =
          is_fine set W marks (wsteps set W marks j (woven set W marks form t)) (all_rooms t fine typed j).0.0 (all_rooms t fine typed j).1
          (λ e. never_lost t fine typed (suc j) (wsteps_last set W marks j (woven set W marks form t) ∙ e))

pub bound_is_enough : calm + 8 + 512 * longest ≤ most_uncounted
unfolding most_uncounted
bound_is_enough = omega arith

pub exceptions_meet_none : ExceptionsMeetNone
exceptions_meet_none set W marks form members facts rows first known = stays_calm set W marks most_uncounted members form facts rows bound_is_enough (From set first) known
