-- A path from a beginning to a state that both sides share, and then the whole run.
use Rattle.std.proofs.Common.{◌≡◌, ◌≢◌, ◌⊎◌, inl, inr, ℕ, zero, suc, ◌+◌, ◌*◌, ◌≤◌, Bool, true, false, List, [], ◌∷◌, Option, Some, None, refl, sym, ap, subst, ◌∙◌, arith}
use Rattle.std.specs.Prelude.{◌↔◌, if◌then◌else◌, nat_le}
use Rattle.std.proofs.lemmas.Bool.{false≢true}
use Rattle.kilim_program.specs.declared.class.Method.{Method}
use Rattle.kilim_program.specs.declared.names.MethodId.{MethodId}
use Rattle.kilim_program.specs.declared.value.Value.{Value}
use Rattle.kilim_program.specs.declared.value.Value.TheVariants as value
use Rattle.kilim_program.specs.Names.{method_at}
use Rattle.kilim_program.specs.Program.{Program}
use Rattle.kilim_run_state.specs.declared.cause.EndCause.TheVariants as cause
use Rattle.kilim_run_state.specs.Machine.{Activation}
use Rattle.kilim_run_machine.specs.Moves.{entered}
use Rattle.kilim_run_model.specs.State.{Setting}
use Rattle.kilim_fiber_laws.specs.simulation.beginnings.Law.{BeginningsServe, ServesAlong, StandsWith}
use Rattle.kilim_fiber_spec.specs.Acts.{Lost, Over, World, ending, spending}
use Rattle.kilim_fiber_spec.specs.Fibers.{Fib, Resting, WRun, WStop, Woven_state, enter, new_fiber, wstarted, wstarted_in, wsteps}
use Rattle.kilim_fiber_spec.specs.Form.{Facts, Members, is_pausable, longest}
use Rattle.kilim_fiber_spec.specs.Links.{Both, Fine, Forms, Fw, Takes, code, u_stack, unwoven, woven}
use Rattle.kilim_fiber_spec.specs.Runs.{Comes, ComesToRest, IsMark, Soon, idle, mark, most_uncounted, stop}
use Rattle.kilim_fiber_spec.specs.Rooms.{IsFineState}
use Rattle.kilim_fiber_spec.specs.Serves.{From, Known, Rows, StandsFor}
use Rattle.kilim_fiber_spec.specs.Thread.{Run, Stop, Thread, self_of, started, started_in, steps}
use Rattle.kilim_type_sound.specs.Fits.{AreThere, IsThere}
use Rattle.kilim_fiber_laws.proofs.simulation.Still.{StepIsKnown, comes_to_rest}
use Rattle.kilim_fiber_laws.proofs.simulation.Room.{StackIsThere, is_fine}
use Rattle.kilim_fiber_laws.proofs.simulation.Begins.{constructor_begins, execute_begins}
use Rattle.kilim_fiber_laws.proofs.simulation.Forward.{Goes_on, Match, Overs, calm}
use Rattle.kilim_fiber_laws.proofs.simulation.Forward as forward
use Rattle.kilim_fiber_laws.proofs.simulation.Natural.{ending_is}
use Rattle.kilim_fiber_laws.proofs.simulation.Same.{bound_is_enough, none_lost, one_end, one_wend, run_ends, run_not_lost, wsteps_last}
use Rattle.kilim_fiber_laws.proofs.simulation.Whole as whole

module _ (set : Setting) (W : Program) (marks : List (List Bool)) where
  stays : (n : ℕ) (o : Over) → steps set n (Stop o) ≡ Stop o
  stays zero o = refl
  stays (suc n) o = stays n o

  wstays : (n : ℕ) (o : Over) → wsteps set W marks n (WStop o) ≡ WStop o
  wstays zero o = refl
  wstays (suc n) o = wstays n o

  module _ (most : ℕ) (Q : Woven_state → Type 0) where
    reaches : {c d : ℕ} {x y : Woven_state} → Comes set W marks most Q c x d y → (j : ℕ) × (wsteps set W marks j x ≡ y)
    reaches stop = (0, refl)
    reaches (idle q r) = let z = reaches r in (suc z.0, z.1)
    reaches (mark q few m r) = let z = reaches r in (suc z.0, z.1)

    at_each : {c d : ℕ} {x y : Woven_state} → Comes set W marks most Q c x d y → (j : ℕ) → Q (wsteps set W marks j x) ⊎ ((k : ℕ) × (wsteps set W marks j x ≡ wsteps set W marks k y))
    at_each stop j = inr (j, refl)
    at_each (idle q r) zero = inl q
    at_each (idle q r) (suc j) = at_each r j
    at_each (mark q few m r) zero = inl q
    at_each (mark q few m r) (suc j) = at_each r j

    first_mark : {c d : ℕ} {x y : Woven_state} → Comes set W marks most Q c x d y → d ≤ most → IsMark set W marks y → (n : ℕ) × (n + c ≤ most) × IsMark set W marks (wsteps set W marks n x)
    first_mark stop few m = (0, omega (arith, few), m)
    first_mark (idle q r) few m = let z = first_mark r few m in let a = z.1 in (suc z.0, omega (arith, a), z.2)
    first_mark (mark q here m r) few n = (0, omega (arith, here), m)

    each_mark : {c d : ℕ} {x y : Woven_state} → Comes set W marks most Q c x d y → d ≤ most → IsMark set W marks y → (j : ℕ) → Soon set W marks most (wsteps set W marks j x) ⊎ ((k : ℕ) × (wsteps set W marks j x ≡ wsteps set W marks k y))
    each_mark stop few m j = inr (j, refl)
    each_mark (idle q r) few m zero = let z = first_mark r few m in let a = z.1 in inl (suc z.0, omega (arith, a), z.2)
    each_mark (idle q r) few m (suc j) = each_mark r few m j
    each_mark (mark q here n r) few m zero = inl (0, omega arith, n)
    each_mark (mark q here n r) few m (suc j) = each_mark r few m j

abbrev is_run : Thread → Bool
is_run (Run m p l s x b w) = true
is_run (Stop o) = false

abbrev is_stop : Woven_state → Bool
is_stop (WStop o) = true
is_stop x = false

over_of : Thread → Over → Over
over_of (Run m p l s x b w) o = o
over_of (Stop o) other = o

wover_of : Woven_state → Over → Over
wover_of (WStop o) other = o
wover_of x o = o

-- ---- a run that is over at once

-- spent, or else done
done_is : {S : Type 0} (set : Setting) (w : World) (over : Over → S) → spending set w over (ending set w over cause.Done) ≡ over (spending set w (λ (o : Over). o) (ending set w (λ (o : Over). o) cause.Done))
done_is set w over = by (nat_le set.limits.steps w.done)
  where
    by : (z : Bool) → (if z then ending set w over cause.Spent else ending set w over cause.Done) ≡ over (if z then ending set w (λ (o : Over). o) cause.Spent else ending set w (λ (o : Over). o) cause.Done)
    by true = ending_is set w over cause.Spent
    by false = ending_is set w over cause.Done

module _ (set : Setting) (W : Program) (marks : List (List Bool)) (form : Forms set W marks) (most : ℕ) where
  over_along : (o : Over) → ServesAlong set W marks form most (Stop o) (WStop o)
  unfolding over_of wover_of
  over_along o = record {
    ends = λ e. (
      (λ h. (0, ap WStop (ap (λ (t : Thread). over_of t o) (sym (stays set W marks h.0 o) ∙ h.1)))),
      (λ h. (0, ap Stop (ap (λ (x : Woven_state). wover_of x o) (sym (wstays set W marks h.0 o) ∙ h.1)))),
    );
    stands = λ n. inl (o, stays set W marks n o);
    rests = λ j f w ps e. absurd (false≢true (ap is_stop (sym e ∙ wstays set W marks j o)));
    soon = λ j. (0, omega arith, subst (λ (z : Woven_state). IsMark set W marks z) (sym (wstays set W marks j o)) (inr refl));
    pausing = λ j. subst (λ (z : Woven_state). ComesToRest set W marks most z) (sym (wstays set W marks j o)) tt;
    fine = λ j. subst (λ (z : Woven_state). IsFineState set.program W z) (sym (wstays set W marks j o)) tt;
  }

-- ---- the whole run

module _ (set : Setting) (W : Program) (marks : List (List Bool)) (most : ℕ) (members : Members set.program W) (form : Forms set W marks) (facts : (m : MethodId) → Facts set.program W (code set W marks) (form m)) (rows : Rows set W marks form)
    (enough : calm + 8 + 512 * longest ≤ most) where
  abbrev At_some : Thread → Woven_state → Type 0
  At_some t z = ((j : ℕ) × StandsFor set W marks form (steps set j t) z) × StepIsKnown set W marks z × StackIsThere set W marks z

  runs_of : (t : Thread) (m : MethodId) (p : ℕ) (l s : List Value) (b : List Activation) (f : Fib) (w : World) (ps : List ℕ) → StepIsKnown set W marks (WRun m p l s b f w ps) → AreThere w.heap s → At_some t (WRun m p l s b f w ps)
  runs_of t m p l s b f w ps r th = ((0, tt), r, th)

  -- from a beginning the machine comes to a state that both sides share
  record Leads (first : Thread) (x : Woven_state) : Type 0 where
    both : Both
    is : unwoven both ≡ first
    fine : Fine set W marks form both
    count : ℕ
    few : count ≤ calm
    way : Comes set W marks most (At_some first) 0 x count (woven set W marks form both)

  record Ended (first : Thread) (x : Woven_state) : Type 0 where
    over : Over
    n : ℕ
    ends : steps set n first ≡ Stop over
    count : ℕ
    few : count ≤ most
    way : Comes set W marks most (At_some first) 0 x count (WStop over)

  module _ (Typed : Thread → Type 0) (known : Known set W marks form Typed) where
    matched_at : (n : ℕ) (t : Both) → Fine set W marks form t → Typed (unwoven t) → (x : Woven_state) (d : ℕ) → d ≤ calm → Comes set W marks most (At_some (unwoven t)) 0 x d (woven set W marks form t)
        → Match set W marks most (At_some (unwoven t)) (runs_of (unwoven t)) members form facts rows enough (steps set n (unwoven t)) 0 x
    matched_at n (Fw m p s l wl y ov links old was w ps) fine typed x d few way =
        forward.after set W marks most (At_some (Run m p l s y (u_stack ov links) w)) (runs_of (Run m p l s y (u_stack ov links) w)) members form facts rows enough way
        (whole.follows set W marks most (At_some (Run m p l s y (u_stack ov links) w)) (runs_of (Run m p l s y (u_stack ov links) w)) members form facts rows enough Typed known n (Fw m p s l wl y ov links old was w ps) d few fine typed (λ j g v rest h. ((j, h), (tt, tt, tt), tt)))

    stood : (n : ℕ) (first : Thread) (x : Woven_state) → Leads first x → Typed first → StandsWith set W marks form first x n
    stood n first x leads typed =
        subst (λ (t : Thread). StandsWith set W marks form t x n) leads.is
        (by (matched_at n leads.both leads.fine (subst Typed (sym leads.is) typed) x leads.count leads.few
        (subst (λ (t : Thread). Comes set W marks most (At_some t) 0 x leads.count (woven set W marks form leads.both)) (sym leads.is) leads.way)))
      where
        by : Match set W marks most (At_some (unwoven leads.both)) (runs_of (unwoven leads.both)) members form facts rows enough (steps set n (unwoven leads.both)) 0 x → StandsWith set W marks form (unwoven leads.both) x n
        by (Overs o e d few way) = inl (o, e)
        by (Goes_on t e d few way fine) = inr (t, sym e, fine, reaches set W marks most (At_some (unwoven leads.both)) way)

    ended_at : (t : Both) → Fine set W marks form t → Typed (unwoven t) → (x : Woven_state) (d : ℕ) → d ≤ calm → Comes set W marks most (At_some (unwoven t)) 0 x d (woven set W marks form t) → Ended (unwoven t) x
    ended_at (Fw m p s l wl y ov links old was w ps) fine typed x d few way =
        let r = run_ends set set.limits.steps m p l s y (u_stack ov links) w (omega arith) in
        by r.0 r.1 r.2
        (matched_at r.0 (Fw m p s l wl y ov links old was w ps) fine typed x d few way)
      where
        by : (n : ℕ) (o : Over) → steps set n (Run m p l s y (u_stack ov links) w) ≡ Stop o
            → Match set W marks most (At_some (Run m p l s y (u_stack ov links) w)) (runs_of (Run m p l s y (u_stack ov links) w)) members form facts rows enough (steps set n (Run m p l s y (u_stack ov links) w)) 0 x
            → Ended (Run m p l s y (u_stack ov links) w) x
        by n o e (Overs o2 e2 d few way) = record { over = o2; n = n; ends = e2; count = d; few = few; way = way }
        by n o e (Goes_on (Fw m2 p2 s2 l2 wl2 x2 ov2 links2 old2 was2 w2 ps2) e2 d few way fine2) = absurd (false≢true (ap is_run (sym e ∙ e2)))

    ended : (first : Thread) (x : Woven_state) → Leads first x → Typed first → Ended first x
    ended first x leads typed =
        subst (λ (t : Thread). Ended t x) leads.is
        (ended_at leads.both leads.fine (subst Typed (sym leads.is) typed) x leads.count leads.few (subst (λ (t : Thread). Comes set W marks most (At_some t) 0 x leads.count (woven set W marks form leads.both)) (sym leads.is) leads.way))

    along : (first : Thread) (x : Woven_state) → Leads first x → Typed first → ServesAlong set W marks form most first x
    along first x leads typed = record { ends = ends_alike; stands = λ n. stood n first x leads typed; rests = rests_stand; soon = marks_soon; pausing = all_rest; fine = all_fine }
      where
        r : Ended first x
        r = ended first x leads typed

        ends_alike : (o : Over) → ((n : ℕ) × (steps set n first ≡ Stop o)) ↔ ((j : ℕ) × (wsteps set W marks j x ≡ WStop o))
        ends_alike o =
            let z = reaches set W marks most (At_some first) r.way in (
              (λ h. (z.0, z.1 ∙ ap WStop (one_end set r.n h.0 first r.over o r.ends h.1))),
              (λ h. (r.n, r.ends ∙ ap Stop (one_wend set W marks z.0 h.0 x r.over o z.1 h.1))),
            )

        rests_stand : (j : ℕ) (f : Fib) (w : World) (ps : List ℕ) → wsteps set W marks j x ≡ Resting f w ps → (n : ℕ) × StandsFor set W marks form (steps set n first) (Resting f w ps)
        rests_stand j f w ps e = by (at_each set W marks most (At_some first) r.way j)
          where
            by : At_some first (wsteps set W marks j x) ⊎ ((k : ℕ) × (wsteps set W marks j x ≡ wsteps set W marks k (WStop r.over))) → (n : ℕ) × StandsFor set W marks form (steps set n first) (Resting f w ps)
            by (inl q) = (subst (λ (z : Woven_state). At_some first z) e q).0
            by (inr k) = absurd (false≢true (ap is_stop (sym e ∙ (k.1 ∙ wstays set W marks k.0 r.over))))

        marks_soon : (j : ℕ) → Soon set W marks most (wsteps set W marks j x)
        marks_soon j = by (each_mark set W marks most (At_some first) r.way r.few (inr refl) j)
          where
            by : Soon set W marks most (wsteps set W marks j x) ⊎ ((k : ℕ) × (wsteps set W marks j x ≡ wsteps set W marks k (WStop r.over))) → Soon set W marks most (wsteps set W marks j x)
            by (inl s) = s
            by (inr k) = (0, omega arith, subst (λ (z : Woven_state). IsMark set W marks z) (sym (k.1 ∙ wstays set W marks k.0 r.over)) (inr refl))

        all_rooms : (j : ℕ) → StepIsKnown set W marks (wsteps set W marks j x) × StackIsThere set W marks (wsteps set W marks j x)
        all_rooms j = by (at_each set W marks most (At_some first) r.way j)
          where
            by : At_some first (wsteps set W marks j x) ⊎ ((k : ℕ) × (wsteps set W marks j x ≡ wsteps set W marks k (WStop r.over))) → StepIsKnown set W marks (wsteps set W marks j x) × StackIsThere set W marks (wsteps set W marks j x)
            by (inl q) = (q.1, q.2)
            by (inr k) = subst (λ (z : Woven_state). StepIsKnown set W marks z × StackIsThere set W marks z) (sym (k.1 ∙ wstays set W marks k.0 r.over)) ((tt, tt, tt), tt)

        never_lost : (j : ℕ) → wsteps set W marks j x ≢ WStop Lost
        never_lost j e = let h = (ends_alike Lost).1 (j, e) in none_lost set W marks form Typed known h.0 first typed (subst (λ (t : Thread). t ≢ Stop Lost) leads.is (run_not_lost leads.both)) h.1

        all_rest : (j : ℕ) → ComesToRest set W marks most (wsteps set W marks j x)
        all_rest = comes_to_rest set W marks most x (λ j. (all_rooms j).0.1) never_lost marks_soon

        all_fine : (j : ℕ) → IsFineState set.program W (wsteps set W marks j x)
        all_fine j =
            is_fine set W marks (wsteps set W marks j x) (all_rooms j).0.0 (all_rooms j).1
            (λ e. never_lost (suc j) (wsteps_last set W marks j x ∙ e))

  -- ---- the beginnings

  plain_leads : (c : MethodId) (args : List Value) (w : World) (ps : List ℕ) → is_pausable set.program c ≡ false → Leads (Run c 0 (entered set.program c args).locals [] (self_of set.program c args) [] w) (enter set W marks c args [] new_fiber w ps)
  plain_leads c args w ps not_pausable =
      let first = Run c 0 (entered set.program c args).locals [] (self_of set.program c args) [] w in
      let z = constructor_begins set W marks most (At_some first) (runs_of first) members form facts rows enough c args w ps not_pausable in
      record { both = z.0; is = z.1; fine = z.3; count = 0; few = omega arith; way = subst (λ (y : Woven_state). Comes set W marks most (At_some first) 0 y 0 (woven set W marks form z.0)) z.2 stop }

  execute_leads : (c : MethodId) (n : ℕ) (w : World) (ps : List ℕ) → Takes set W marks form c (value.Ref n ∷ []) (value.Ref n) → is_pausable set.program c ≡ true → IsThere w.heap (value.Ref n) →
      Leads (Run c 0 (entered set.program c (value.Ref n ∷ [])).locals [] (value.Ref n) [] w) (enter set W marks c (value.Ref n ∷ value.Fiber ∷ []) [] new_fiber w ps)
  execute_leads c n w ps takes pauses self_there =
      let first = Run c 0 (entered set.program c (value.Ref n ∷ [])).locals [] (value.Ref n) [] w in
      let z = execute_begins set W marks most (At_some first) (runs_of first) members form facts rows enough c n w ps takes pauses self_there in
      let few = z.4 in
      record { both = z.0; is = z.1; fine = z.2; count = z.3; few = omega (arith, few); way = z.5 }

  plain_along : (c : MethodId) (args : List Value) (w : World) (ps : List ℕ) → is_pausable set.program c ≡ false → Known set W marks form (From set (Run c 0 (entered set.program c args).locals [] (self_of set.program c args) [] w)) →
      ServesAlong set W marks form most (Run c 0 (entered set.program c args).locals [] (self_of set.program c args) [] w) (enter set W marks c args [] new_fiber w ps)
  plain_along c args w ps not_pausable known =
      let first = Run c 0 (entered set.program c args).locals [] (self_of set.program c args) [] w in
      along (From set first) known first (enter set W marks c args [] new_fiber w ps) (plain_leads c args w ps not_pausable) (0, refl)

  task_along : (c : MethodId) (a b : Method) (n : ℕ) (w : World) (ps : List ℕ) → method_at set.program c ≡ Some a → method_at W c ≡ Some b → b.built_in ≡ a.built_in → a.pausable ≡ true → Takes set W marks form c (value.Ref n ∷ []) (value.Ref n) → Known set W marks form (From set (started set n w (Some c))) →
      ServesAlong set W marks form most (started set n w (Some c)) (wstarted set W marks n w new_fiber ps (Some c))
  task_along c a b n w ps there woven_there same pausable takes known =
      subst (λ (o : Option Method). ServesAlong set W marks form most (started set n w (Some c)) (wstarted_in set W marks c n w new_fiber ps o)) (sym woven_there)
      (subst (λ (z : Bool). ServesAlong set W marks form most (started set n w (Some c)) (if z then spending set w WStop (ending set w WStop cause.Done) else enter set W marks c (value.Ref n ∷ value.Fiber ∷ []) [] new_fiber w ps)) (sym same)
      (by a.built_in (ap (started_in set c n w) there) known))
    where
      pauses : is_pausable set.program c ≡ true
      pauses = ap (λ (o : Option Method). elim o [ None ↦ false | Some z ↦ z.pausable ]) there ∙ pausable

      by : (z : Bool) → started set n w (Some c) ≡ (if z then spending set w Stop (ending set w Stop cause.Done) else Run c 0 (entered set.program c (value.Ref n ∷ [])).locals [] (value.Ref n) [] w) → Known set W marks form (From set (started set n w (Some c))) →
          ServesAlong set W marks form most (started set n w (Some c)) (if z then spending set w WStop (ending set w WStop cause.Done) else enter set W marks c (value.Ref n ∷ value.Fiber ∷ []) [] new_fiber w ps)
      by true e known =
          let o = spending set w (λ (o : Over). o) (ending set w (λ (o : Over). o) cause.Done) in
          subst (λ (t : Thread). ServesAlong set W marks form most t (spending set w WStop (ending set w WStop cause.Done))) (sym (e ∙ done_is set w Stop))
          (subst (λ (y : Woven_state). ServesAlong set W marks form most (Stop o) y) (sym (done_is set w WStop)) (over_along set W marks form most o))
      by false e known =
          let first = Run c 0 (entered set.program c (value.Ref n ∷ [])).locals [] (value.Ref n) [] w in
          subst (λ (t : Thread). ServesAlong set W marks form most t (enter set W marks c (value.Ref n ∷ value.Fiber ∷ []) [] new_fiber w ps)) (sym e)
          (along (From set first) (subst (λ (t : Thread). Known set W marks form (From set t)) e known) first (enter set W marks c (value.Ref n ∷ value.Fiber ∷ []) [] new_fiber w ps) (execute_leads c n w ps takes pauses
          ((subst (λ (t : Thread). Known set W marks form (From set t)) e known).self_there c 0 (entered set.program c (value.Ref n ∷ [])).locals [] (value.Ref n) [] w (0, refl) pauses)) (0, refl))

pub beginnings_serve : BeginningsServe
beginnings_serve set W marks form members facts rows = (
  (λ c args w ps not_pausable known. plain_along set W marks most_uncounted members form facts rows bound_is_enough c args w ps not_pausable known),
  (λ c a b n w ps there woven_there same pausable takes known. task_along set W marks most_uncounted members form facts rows bound_is_enough c a b n w ps there woven_there same pausable takes known),
)
