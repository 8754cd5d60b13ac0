-- All is put together: beginnings, and both directions.
use Rattle.std.proofs.Common.{◌≡◌, ◌≢◌, ◌⊎◌, inl, inr, ℕ, Bool, true, false, cond, List, [], ◌∷◌, ◌++◌, length, Option, Some, None, refl, sym, ap, subst, ◌∙◌}
use Rattle.std.specs.Prelude.{◌&&◌, nat_le, not}
use Rattle.std.specs.FinMap.{empty, get, insert}
use Rattle.std.proofs.lemmas.Bool.{and_parts, false≢true}
use Rattle.std.proofs.lemmas.Option.{none-some, same_Some}
use Rattle.kilim_program.specs.declared.class.Method.{Method}
use Rattle.kilim_program.specs.declared.names.MethodId.{MethodId}
use Rattle.kilim_program.specs.declared.value.Value.TheVariants.{Ref}
use Rattle.kilim_program.specs.Names.{◌>>=◌, class_at, is_task, method_at}
use Rattle.kilim_run_journal.specs.declared.entry.Act.{Act}
use Rattle.kilim_run_journal.specs.declared.entry.Act.TheVariants.{End}
use Rattle.kilim_run_model.proofs.one_heap.Ends.{ended_is, is_ended, still}
use Rattle.kilim_run_model.specs.one_heap.Booked.{IsOf}
use Rattle.kilim_run_state.specs.declared.cause.EndCause.{EndCause}
use Rattle.kilim_run_state.specs.declared.cause.EndCause.TheVariants as cause
use Rattle.kilim_run_state.specs.declared.value.Object.{Object}
use Rattle.kilim_run_state.specs.Machine.{Objects}
use Rattle.kilim_program.specs.Members.{constructor_of, execute_of, is_concrete, is_own_constructor}
use Rattle.kilim_run_machine.specs.Moves.{entered}
use Rattle.kilim_run_state.specs.Objects.{new_object}
use Rattle.kilim_run_state.specs.Trees.{OfTask, built, with_objects}
use Rattle.kilim_run_model.proofs.Alone.{all_left}
use Rattle.kilim_run_model.specs.declared.deed.Beginning.{Beginning}
use Rattle.kilim_run_model.specs.declared.deed.Beginning.TheVariants.{Boot, Begun}
use Rattle.kilim_run_model.specs.declared.deed.Deed.{Deed}
use Rattle.kilim_run_model.specs.Course.{Course, Done, Follows, IsLone, Quiet, Stays, done_by, lone_begun, lone_built, lone_in}
use Rattle.kilim_run_model.specs.Lone.{Lone, Next, ended, next_move}
use Rattle.kilim_run_model.specs.Lone as next
use Rattle.kilim_run_model.specs.State.{Alive, Setting, begun_in, begun_on, class_of, execute_frames, is_fit}
use Rattle.kilim_fiber_spec.specs.lone.Law.{IsActed, IsAt, IsBehind, IsNext, IsWanted, lone_at, wanted}
use Rattle.kilim_fiber_spec.specs.Acts.{Action, Finished, Lost, Over, Wants, World, ending, last, spending}
use Rattle.kilim_fiber_spec.specs.Acts as action
use Rattle.kilim_fiber_spec.specs.Thread.{Run, Stop, Thread, started, started_in, steps}
use Rattle.kilim_fiber_laws.proofs.receivers.states.Along.{Along, Before, Ends, Held, acts_on, append_none, deed_same, first_same, next_along, rest_same, same_deeds, steps_along}
use Rattle.kilim_fiber_laws.proofs.receivers.states.Lands.{Lands, does_deed, ended_quiet, follow, is_action, lands_at, lands_quiet, next_acted}
use Rattle.kilim_fiber_laws.proofs.receivers.states.Reached.{Final, Reaches, ends_by, final_of, run_on}
use Rattle.kilim_fiber_laws.proofs.receivers.states.Worlds.{Shows}
use Rattle.kilim_fiber_laws.proofs.receivers.states.Worlds as worlds
use Rattle.kilim_fiber_laws.specs.receivers.states.Law.{ended_in, EndsBy, FollowsCourse, StandsBefore, ThreadAlong, ThreadFollows, acts_of, constructing, first_thread, world_at}

-- ---- beginnings

module _ (set : Setting) (k : ℕ) (ds : List Deed) where
  -- its thread stands so; or, where it has no frame, what comes next
  abbrev Begins : Lone → Thread → Type 0
  Begins l t = (IsAt l ds [] k [] t) ⊎ ((IsNext set ds [] k [] (next_move set k l) t) × Shows (world_at k l ds []) t)

  ends_next : (w : World) (l : Lone) (why : EndCause) → w.deeds ≡ ds → IsActed set ds [] k [] (next.Ends why l) (ending set w Stop why)
  ends_next w l why e = subst (λ (z : List Deed). IsActed set ds [] k [] (next.Ends why l) (elim z [ [] ↦ Stop (Wants (action.Ends why) w) | d ∷ rest ↦ last set w Stop why rest ])) (sym e) (by ds)
    where
      by : (ds : List Deed) → IsActed set ds [] k [] (next.Ends why l) (elim ds [ [] ↦ Stop (Wants (action.Ends why) w) | d ∷ rest ↦ last set w Stop why rest ])
      by [] = (w, refl, tt)
      by (d ∷ []) = (w, refl)
      by (d ∷ e ∷ rest) = refl

  -- no frame: spent, or done
  no_frame : (heap : Objects) (n : ℕ) → let l : Lone = record { heap = heap; next = n; thread = Alive [] 0 0; kept = None } in
      IsNext set ds [] k [] (next_move set k l) (spending set (world_at k l ds []) Stop (ending set (world_at k l ds []) Stop cause.Done)) × Shows (world_at k l ds []) (spending set (world_at k l ds []) Stop (ending set (world_at k l ds []) Stop cause.Done))
  unfolding next_move
  no_frame heap n = by (nat_le set.limits.steps 0)
    where
      l : Lone
      l = record { heap = heap; next = n; thread = Alive [] 0 0; kept = None }

      w : World
      w = world_at k l ds []

      by : (z : Bool) → IsNext set ds [] k [] (cond z (next.Ends cause.Spent (ended l cause.Spent)) (next.Ends cause.Done (ended l cause.Done))) (cond z (ending set w Stop cause.Spent) (ending set w Stop cause.Done)) × Shows w (cond z (ending set w Stop cause.Spent) (ending set w Stop cause.Done))
      by true = (ends_next w (ended l cause.Spent) cause.Spent refl, worlds.ended set w cause.Spent refl)
      by false = (ends_next w (ended l cause.Done) cause.Done refl, worlds.ended set w cause.Done refl)

  starts_in : (heap : Objects) (n : ℕ) (c : MethodId) (o : Option Method) (l : Lone) → lone_in heap n None (begun_in set.program c 0 o) ≡ Some l → Begins l (started_in set c 0 (world_at k l ds []) o)
  starts_in heap n c None l e = absurd (none-some l e)
  starts_in heap n c (Some method) l e = by method.built_in e
    where
      by : (z : Bool) → lone_in heap n None (Some (cond z [] (entered set.program c (Ref 0 ∷ []) ∷ []))) ≡ Some l
          → Begins l (cond z (spending set (world_at k l ds []) Stop (ending set (world_at k l ds []) Stop cause.Done)) (Run c 0 (entered set.program c (Ref 0 ∷ [])).locals [] (Ref 0) [] (world_at k l ds [])))
      by true e = subst (λ (z : Lone). Begins z (spending set (world_at k z ds []) Stop (ending set (world_at k z ds []) Stop cause.Done))) (same_Some _ l e) (inr (no_frame heap n))
      by false e = subst (λ (z : Lone). Begins z (Run c 0 (entered set.program c (Ref 0 ∷ [])).locals [] (Ref 0) [] (world_at k z ds []))) (same_Some _ l e) (inl (refl, refl, refl, refl, refl))

  starts_on : (heap : Objects) (n : ℕ) (o : Option MethodId) (l : Lone) → lone_in heap n None (begun_on set.program o 0) ≡ Some l → Begins l (started set 0 (world_at k l ds []) o)
  starts_on heap n None l e = absurd (none-some l e)
  starts_on heap n (Some c) l e = starts_in heap n c (method_at set.program c) l e

  pub heap_is : (heap : Objects) (n : ℕ) (o : Option (List _)) (l : Lone) → lone_in heap n None o ≡ Some l → l.heap ≡ heap
  heap_is heap n None l e = absurd (none-some l e)
  heap_is heap n (Some frames) l e = ap (λ (z : Lone). z.heap) (sym (same_Some _ l e))

  starts : (shape : _) (o : Option (List Object)) (l : Lone) → lone_built set.program o ≡ Some l → Begins l (first_thread set (Begun shape) (world_at k l ds []))
  starts shape None l e = absurd (none-some l e)
  starts shape (Some objects) l e =
      let heap = with_objects empty 0 objects in
      subst (λ (h : Objects). Begins l (started set 0 (world_at k l ds []) (get h 0 >>= λ (object : Object). class_of object.class.base >>= λ c. execute_of set.program c))) (sym (heap_is heap (length objects) (execute_frames set.program heap 0) l e))
      (starts_on heap (length objects) (get heap 0 >>= λ (object : Object). class_of object.class.base >>= λ c. execute_of set.program c) l e)

  constructs_in : (heap : Objects) (c : MethodId) (o : Option Method) → is_own_constructor o ≡ true → (l : Lone) → lone_in heap 1 (Some 0) (begun_in set.program c 0 o) ≡ Some l → IsAt l ds [] k [] (constructing set (world_at k l ds []) (Some c))
  constructs_in heap c None own l e = absurd (none-some l e)
  constructs_in heap c (Some method) own l e = by method.is_static method.built_in own e
    where
      by : (s z : Bool) → (not s && not z) ≡ true → lone_in heap 1 (Some 0) (Some (cond z [] (entered set.program c (Ref 0 ∷ []) ∷ []))) ≡ Some l → IsAt l ds [] k [] (constructing set (world_at k l ds []) (Some c))
      by false false own e = subst (λ (z : Lone). IsAt z ds [] k [] (constructing set (world_at k z ds []) (Some c))) (same_Some _ l e) (refl, refl, refl, refl, refl)
      by false true own e = absurd (false≢true own)
      by true z own e = absurd (false≢true own)

  pub constructs : (heap : Objects) (o : Option MethodId) → is_own_constructor (o >>= method_at set.program) ≡ true → (l : Lone) → lone_in heap 1 (Some 0) (begun_on set.program o 0) ≡ Some l → IsAt l ds [] k [] (constructing set (world_at k l ds []) o)
  constructs heap None own l e = absurd (none-some l e)
  constructs heap (Some c) own l e = constructs_in heap c (method_at set.program c) own l e

  begins : is_fit set ≡ true → (b : Beginning) (l : Lone) → lone_begun set b ≡ Some l → Begins l (first_thread set b (world_at k l ds []))
  begins fit Boot l e =
      let own = (and_parts (is_task set.program set.main) _ (and_parts (is_concrete (class_at set.program set.main)) _ fit).1).1 in
      inl (constructs (insert empty 0 (new_object set.program set.main)) (constructor_of set.program set.main) own l e)
  begins fit (Begun shape) l e = starts shape (built set.program OfTask 0 shape) l e

-- ---- both directions

module _ (set : Setting) (k : ℕ) (b : Beginning) (ds : List Deed) (l : Lone) (begun : lone_begun set b ≡ Some l) where
  abbrev course : List Deed → Course
  course es = record { beginning = b; deeds = es }

  at_first : IsLone set k (course []) l
  at_first = record { first = l; begins = begun; follows = refl }

  held : Held set k b ds l ds []
  held = record { done = []; were = []; like = tt; all = refl; acted = refl; of = record { last = l; is = at_first; quiet = Stays refl } }

  along_first : (t : Thread) → Begins set k ds l t → Along set k b ds t
  along_first (Run m p ls s x below w) (inl is) = (
    is.3,
    is.4,
    subst (λ (z : List _). Held set k b ds (lone_at m p ls s below w) w.deeds z) (sym is.2)
        (subst (λ (z : List Deed). Held set k b ds (lone_at m p ls s below w) z []) (sym is.1) (subst (λ (z : Lone). Held set k b ds z ds []) (sym is.0) held)),
  )
  along_first (Stop o) (inl is) = absurd is
  along_first t (inr is) = next_along set k b ds l [] ds held (next_move set k l) refl t is.1 is.0

  lands_first : (t : Thread) → Begins set k ds l t → Lands set k l ds [] t
  lands_first t (inl is) = lands_at set k l ds [] t 0 is
  lands_first t (inr is) = record { at = 0; next = is.0; world = is.1 }

  -- the thread of a course that goes on hasn't ended
  wants_action : (n : Next) (x : Action × Option Lone) → wanted n ≡ Some x → is_action n ≡ true
  wants_action (next.Goes after) x e = absurd (none-some x e)
  wants_action (next.Puts box root shape after) x e = refl
  wants_action (next.PutWaits box root shape after) x e = refl
  wants_action (next.Bounds box most after) x e = refl
  wants_action (next.Gets box after) x e = refl
  wants_action (next.Probes box after) x e = refl
  wants_action (next.Starts root shape after) x e = refl
  wants_action (next.Prints token after) x e = refl
  wants_action (next.Ends why after) x e = refl
  wants_action next.Stands x e = absurd (none-some x e)

  alive : (last here : Lone) → Quiet set k last here → next_move set k here ≢ next.Stands → is_ended last.thread ≡ false
  alive last here q goes = by (is_ended last.thread) refl
    where
      by : (z : Bool) → is_ended last.thread ≡ z → is_ended last.thread ≡ false
      by true e = absurd (goes (ap (next_move set k) (ended_quiet set k last here e q) ∙ still set k last e))
      by false e = e

  lands_in : (t : Thread) → Lands set k l ds [] t → (before rest : List Deed) → ds ≡ before ++ rest → (last here : Lone) → IsLone set k (course before) last → Quiet set k last here → next_move set k here ≢ next.Stands → Lands set k here rest (acts_of before []) t
  lands_in t lands before rest e last here lone q goes =
      let same : lone.first ≡ l = same_Some lone.first l (sym lone.begins ∙ begun) in
      lands_quiet set k last here rest (acts_of before []) t q
      (follow set k b before [] rest l last at_first (subst (λ (z : Lone). Follows set k z before last) same lone.follows) (alive last here q goes) [] t (subst (λ (z : List Deed). Lands set k l z [] t) e lands))

  module _ (t : Thread) (first : Begins set k ds l t) where
    abbrev Comes : Over → Type 0
    Comes o = (n : ℕ) × (steps set n t ≡ Stop o)

    along_to : (o : Over) → Comes o → Along set k b ds (Stop o)
    along_to o c = subst (Along set k b ds) c.1 (steps_along set k b ds c.0 t (along_first t first))

    wants_so : (a : Action) (w : World) → Comes (Wants a w) × (w.acts ≡ acts_of ds []) → StandsBefore set k (course ds) a w
    wants_so a w c =
        let x : Before set k b ds a w = along_to (Wants a w) c.0 in
        let same = same_deeds ds x.done [] [] x.like (sym (ap (λ (v : World). v.acts) x.before.world ∙ worlds.wanted_same (λ (v : World). v.acts) (λ v. refl) a (world_at k x.before.here [] (acts_of x.done []))) ∙ c.1) in
        subst (λ (es : List Deed). StandsBefore set k (course es) a w) same.1 x.before

    wants_back : (a : Action) (w : World) → StandsBefore set k (course ds) a w → Comes (Wants a w) × (w.acts ≡ acts_of ds [])
    wants_back a w s = ((lands.at, is.1 ∙ ap (λ (v : World). Stop (Wants a v)) shown), ap (λ (v : World). v.acts) s.world ∙ worlds.wanted_same (λ (v : World). v.acts) (λ v. refl) a (world_at k s.here [] (acts_of ds [])))
      where
        goes : next_move set k s.here ≢ next.Stands
        goes e = none-some _ (sym (ap wanted e) ∙ s.wants)

        lands : Lands set k s.here [] (acts_of ds []) t
        lands = lands_in t (lands_first t first) ds [] (sym (append_none ds)) s.of.last s.here s.of.is s.of.quiet goes

        is : IsWanted (Some (a, s.after)) (steps set lands.at t)
        is =
            subst (λ (o : Option (Action × Option Lone)). IsWanted o (steps set lands.at t)) s.wants
            (next_acted set k (next_move set k s.here) (wants_action (next_move set k s.here) (a, s.after) s.wants) [] (acts_of ds []) (steps set lands.at t) lands.next)

        shown : is.0 ≡ w
        shown = subst (λ (u : Thread). Shows (world_at k s.here [] (acts_of ds [])) u) is.1 lands.world ∙ sym s.world

    ends_so : (why : EndCause) (w : World) → Comes (Finished why w) × (End why ∷ w.acts ≡ acts_of ds []) → EndsBy set k (course ds) why w
    ends_so why w c = record {
      before = x.were;
      final = x.final;
      deeds = sym x.all;
      here = x.here;
      of = subst (λ (es : List Deed). IsOf set k (course es) x.here) same x.of;
      after = x.after;
      is_end = act;
      ends = subst (λ (d : Deed). done_by set (next_move set k x.here) d ≡ Some (record { act = d.act; after = x.after })) (deed_same (record { act = End why; taken = x.final.taken }) x.final (sym act) refl) x.ends;
      world = subst (λ (es : List Deed). w ≡ ended_in why (world_at k x.here (x.final ∷ []) (acts_of es []))) same x.world;
    }
      where
        x : Ends set k b ds why w
        x = along_to (Finished why w) c.0

        acts : End why ∷ w.acts ≡ x.final.act ∷ acts_of x.were []
        acts = c.1 ∙ (ap (λ (es : List Deed). acts_of es []) (sym x.all) ∙ acts_on x.were x.final [])

        act : x.final.act ≡ End why
        act = sym (first_same (End why) x.final.act w.acts (acts_of x.were []) acts)

        same : x.done ≡ x.were
        same = (same_deeds x.were x.done [] [] x.like (sym (ap (λ (v : World). v.acts) x.world ∙ worlds.ended_same (λ (v : World). v.acts) (λ v. refl) why (world_at k x.here (x.final ∷ []) (acts_of x.done []))) ∙ rest_same (End why) x.final.act w.acts (acts_of x.were []) acts)).1

    ends_back : (why : EndCause) (w : World) → EndsBy set k (course ds) why w → Comes (Finished why w) × (End why ∷ w.acts ≡ acts_of ds [])
    ends_back why w s = ((lands.at, is.1 ∙ ap (λ (v : World). Stop (Finished why v)) shown), acts)
      where
        y : Done
        y = record { act = s.final.act; after = s.after }

        goes : next_move set k s.here ≢ next.Stands
        goes e = none-some y (sym (ap (λ (n : Next). done_by set n s.final) e) ∙ s.ends)

        lands : Lands set k s.here (s.final ∷ []) (acts_of s.before []) t
        lands = lands_in t (lands_first t first) s.before (s.final ∷ []) s.deeds s.of.last s.here s.of.is s.of.quiet goes

        is : IsBehind (End why) [] (acts_of s.before []) k [] s.after (steps set lands.at t)
        is = subst (λ (a : Act). IsBehind a [] (acts_of s.before []) k [] s.after (steps set lands.at t)) s.is_end (does_deed set k s.here s.final [] (acts_of s.before []) t lands y s.ends)

        shown : is.0 ≡ w
        shown = subst (λ (u : Thread). Shows (world_at k s.here (s.final ∷ []) (acts_of s.before [])) u) is.1 lands.world ∙ sym s.world

        acts : End why ∷ w.acts ≡ acts_of ds []
        acts = (ap (λ (v : World). End why ∷ v.acts) s.world ∙ worlds.ended_same (λ (v : World). End why ∷ v.acts) (λ v. refl) why (world_at k s.here (s.final ∷ []) (acts_of s.before []))) ∙ (ap (λ (a : Act). a ∷ acts_of s.before []) (sym s.is_end) ∙ (sym (acts_on s.before s.final []) ∙ ap (λ (es : List Deed). acts_of es []) (sym s.deeds)))

    state_so : (last : Lone) → IsLone set k (course ds) last → Comes Lost ⊎ (((a : Action) × (w : World) × StandsBefore set k (course ds) a w) ⊎ ((why : EndCause) × (w : World) × EndsBy set k (course ds) why w))
    state_so last lone =
        let same : lone.first ≡ l = same_Some lone.first l (sym lone.begins ∙ begun) in
        by (final_of set k b ds [] l last at_first begun_alive (subst (λ (z : Lone). Follows set k z ds last) same lone.follows))
      where
        begun_alive : is_ended l.thread ≡ false
        begun_alive = sym (ended_is set k (course []) l (record { last = l; is = at_first; quiet = Stays refl }))

        goes : is_ended last.thread ≡ false → Lands set k last [] (acts_of ds []) t
        goes alive =
            let same : lone.first ≡ l = same_Some lone.first l (sym lone.begins ∙ begun) in
            follow set k b ds [] [] l last at_first (subst (λ (z : Lone). Follows set k z ds last) same lone.follows) alive [] t (subst (λ (z : List Deed). Lands set k l z [] t) (sym (append_none ds)) (lands_first t first))

        or_else : Reaches set k b ds t → Comes Lost ⊎ (((a : Action) × (w : World) × StandsBefore set k (course ds) a w) ⊎ ((why : EndCause) × (w : World) × EndsBy set k (course ds) why w))
        or_else (inl c) = inl c
        or_else (inr s) = inr (inl s)

        by : (is_ended last.thread ≡ false) ⊎ Final set k b [] ds → Comes Lost ⊎ (((a : Action) × (w : World) × StandsBefore set k (course ds) a w) ⊎ ((why : EndCause) × (w : World) × EndsBy set k (course ds) why w))
        by (inl alive) = or_else (run_on set k b ds t set.limits.steps last (all_left set.limits.steps last.thread) (record { last = last; is = lone; quiet = Stays refl }) (goes alive))
        by (inr f) = inr (inr (ends_by set k b ds f))

    on_the_way : (n : ℕ) → ThreadAlong set k (course ds) (steps set n t)
    on_the_way n = by (steps set n t) (steps_along set k b ds n t (along_first t first))
      where
        by : (u : Thread) → Along set k b ds u → ThreadAlong set k (course ds) u
        by (Run m p ls s x below w) along = along
        by (Stop o) along = tt

    follows : FollowsCourse set k (course ds) Comes
    follows = record { wants = λ a w. (wants_so a w, wants_back a w); ends = λ why w. (ends_so why w, ends_back why w); state = λ last lone. state_so last lone }

pub thread_follows : ThreadFollows
thread_follows set fit k c l begun =
    let t = first_thread set c.beginning (world_at k l c.deeds []) in
    let first = begins set k c.deeds fit c.beginning l begun in
    (follows set k c.beginning c.deeds l begun t first, on_the_way set k c.beginning c.deeds l begun t first)
