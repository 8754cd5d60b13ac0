-- Where the thread of a course is there, it has ended by its last deed, or comes to its next action.
use Rattle.std.proofs.Common.{◌≡◌, ◌⊎◌, inl, inr, ℕ, zero, suc, Bool, true, false, List, [], ◌∷◌, ◌++◌, Option, Some, refl, sym, ap, subst, ◌∙◌}
use Rattle.std.proofs.lemmas.Bool.{false≢true}
use Rattle.kilim_run_journal.specs.declared.entry.Act.{Act}
use Rattle.kilim_run_journal.specs.declared.entry.Act.TheVariants.{End}
use Rattle.kilim_run_model.proofs.one_heap.Ends.{ended_is, is_ended}
use Rattle.kilim_run_model.specs.one_heap.Booked.{IsOf}
use Rattle.kilim_run_state.specs.declared.cause.EndCause.{EndCause}
use Rattle.kilim_run_model.proofs.Alone.{AreLeft, none_left, one_less}
use Rattle.kilim_run_model.specs.declared.deed.Beginning.{Beginning}
use Rattle.kilim_run_model.specs.declared.deed.Deed.{Deed}
use Rattle.kilim_run_model.specs.Course.{Follows, IsLone, Moves, Stays, done_by, is_end, next_action}
use Rattle.kilim_run_model.specs.Lone.{Lone, Next, next_move}
use Rattle.kilim_run_model.specs.Lone as next
use Rattle.kilim_run_model.specs.State.{Setting}
use Rattle.kilim_fiber_laws.proofs.courses.GoesOn.{follows_one}
use Rattle.kilim_fiber_spec.specs.lone.Law.{IsNext, wanted}
use Rattle.kilim_fiber_spec.specs.Acts.{Action, Lost, World}
use Rattle.kilim_fiber_spec.specs.Thread.{Stop, Thread, steps}
use Rattle.kilim_fiber_laws.proofs.receivers.states.Along.{append_append, append_none}
use Rattle.kilim_fiber_laws.proofs.receivers.states.Lands.{Lands, acts_next, course, ends_on, lands_quiet, none_behind}
use Rattle.kilim_fiber_laws.specs.receivers.states.Law.{ended_in, wanted_in, EndsBy, StandsBefore, acts_of, world_at}

module _ (set : Setting) (k : ℕ) (b : Beginning) where
  -- ---- it has ended

  pub record Final (es ds : List Deed) : Type 0 where
    pub before : List Deed
    pub final : Deed
    pub is : ds ≡ before ++ final ∷ []
    pub prev : Lone
    pub lone : IsLone set k (course set k b (es ++ before)) prev
    pub mid : Lone
    pub did : done_by set (next_action set k prev) final ≡ Some (record { act = final.act; after = mid })
    pub ended : is_ended mid.thread ≡ true

  pub final_of : (ds es : List Deed) (l last : Lone) → IsLone set k (course set k b es) l → is_ended l.thread ≡ false → Follows set k l ds last → (is_ended last.thread ≡ false) ⊎ Final es ds
  final_of [] es l last lone alive e = inl (ap (λ (z : Lone). is_ended z.thread) (sym e) ∙ alive)
  final_of (d ∷ ds) es l last lone alive (mid, does, later) = by (is_ended mid.thread) refl (λ more e. final_of ds (es ++ d ∷ []) mid last more e later)
    where
      more : IsLone set k (course set k b (es ++ d ∷ [])) mid
      more = record { first = lone.first; begins = lone.begins; follows = follows_one set k lone.first l mid es d lone.follows does }

      here : (ds : List Deed) → Follows set k mid ds last → is_ended mid.thread ≡ true → Final es (d ∷ ds)
      here [] e ended = record { before = []; final = d; is = refl; prev = l; lone = subst (λ (z : List Deed). IsLone set k (course set k b z) l) (sym (append_none es)) lone; mid = mid; did = does; ended = ended }
      here (x ∷ xs) f ended = absurd (none_behind set k mid last x xs ended f)

      later_on : (is_ended last.thread ≡ false) ⊎ Final (es ++ d ∷ []) ds → (is_ended last.thread ≡ false) ⊎ Final es (d ∷ ds)
      later_on (inl e) = inl e
      later_on (inr f) = inr (record {
        before = d ∷ f.before;
        final = f.final;
        is = ap (λ (z : List Deed). d ∷ z) f.is;
        prev = f.prev;
        lone = subst (λ (z : List Deed). IsLone set k (course set k b z) f.prev) (append_append es d f.before) f.lone;
        mid = f.mid;
        did = f.did;
        ended = f.ended;
      })

      by : (z : Bool) → is_ended mid.thread ≡ z → (IsLone set k (course set k b (es ++ d ∷ [])) mid → is_ended mid.thread ≡ false → (is_ended last.thread ≡ false) ⊎ Final (es ++ d ∷ []) ds) → (is_ended last.thread ≡ false) ⊎ Final es (d ∷ ds)
      by true e go = inr (here ds later e)
      by false e go = later_on (go more e)

  end_is : (a : Act) → is_end a ≡ true → (why : EndCause) × (a ≡ End why)
  end_is (End why) e = (why, refl)
  end_is a e = absurd (false≢true e)

  pub ends_by : (ds : List Deed) → Final [] ds → (why : EndCause) × (w : World) × EndsBy set k (course set k b ds) why w
  ends_by ds f =
      let more : IsLone set k (course set k b (f.before ++ f.final ∷ [])) f.mid =
      record { first = f.lone.first; begins = f.lone.begins; follows = follows_one set k f.lone.first f.prev f.mid f.before f.final f.lone.follows f.did } in
      let end = end_is f.final.act (sym (ends_on f.before f.final) ∙ (ended_is set k (course set k b (f.before ++ f.final ∷ [])) f.mid (record { last = f.mid; is = more; quiet = Stays refl }) ∙ f.ended)) in
      let a = acts_next set k f.prev f.final (record { act = f.final.act; after = f.mid }) f.did in (
        end.0,
        ended_in end.0 (world_at k a.here (f.final ∷ []) (acts_of f.before [])),
        record {
          before = f.before;
          final = f.final;
          deeds = f.is;
          here = a.here;
          of = record { last = f.prev; is = f.lone; quiet = a.quiet };
          after = f.mid;
          is_end = end.1;
          ends = ap (λ (n : Next). done_by set n f.final) a.is ∙ f.did;
          world = refl;
        },
      )

  -- ---- it goes on

  module _ (ds : List Deed) (t : Thread) where
    abbrev pub Reaches : Type 0
    Reaches = ((n : ℕ) × (steps set n t ≡ Stop Lost)) ⊎ ((a : Action) × (w : World) × StandsBefore set k (course set k b ds) a w)

    stands : (l : Lone) → IsOf set k (course set k b ds) l → (x : Next) → next_move set k l ≡ x → (a : Action) (after : Option Lone) → wanted x ≡ Some (a, after) → Reaches
    stands l of x e a after w = inr (a, wanted_in a (world_at k l [] (acts_of ds [])), record { here = l; of = of; after = after; wants = ap wanted e ∙ w; world = refl })

    by_next : (l : Lone) → IsOf set k (course set k b ds) l → Lands set k l [] (acts_of ds []) t → (x : Next) → next_move set k l ≡ x → ((after : Lone) → next_move set k l ≡ next.Goes after → Reaches) → Reaches
    by_next l of lands (next.Goes after) e go = go after e
    by_next l of lands (next.Puts box root shape after) e go = stands l of (next.Puts box root shape after) e _ _ refl
    by_next l of lands (next.PutWaits box root shape after) e go = stands l of (next.PutWaits box root shape after) e _ _ refl
    by_next l of lands (next.Bounds box most after) e go = stands l of (next.Bounds box most after) e _ _ refl
    by_next l of lands (next.Gets box after) e go = stands l of (next.Gets box after) e _ _ refl
    by_next l of lands (next.Probes box after) e go = stands l of (next.Probes box after) e _ _ refl
    by_next l of lands (next.Starts root shape after) e go = stands l of (next.Starts root shape after) e _ _ refl
    by_next l of lands (next.Prints token after) e go = stands l of (next.Prints token after) e _ _ refl
    by_next l of lands (next.Ends why after) e go = stands l of (next.Ends why after) e _ _ refl
    by_next l of lands next.Stands e go = inl (lands.at, subst (λ (x : Next). IsNext set [] (acts_of ds []) k [] x (steps set lands.at t)) e lands.next)

    pub run_on : (n : ℕ) (l : Lone) → AreLeft set.limits.steps n l.thread → IsOf set k (course set k b ds) l → Lands set k l [] (acts_of ds []) t → Reaches
    unfolding next_move
    run_on zero l left of lands = by_next l of lands (next_move set k l) refl (λ after e. absurd (none_left set k l after l.thread left e))
    run_on (suc n) l left of lands =
        by_next l of lands (next_move set k l) refl
        (λ after e. run_on n after (one_less set k l after l.thread n left e) (record { last = of.last; is = of.is; quiet = Moves l of.quiet e }) (lands_quiet set k l after [] (acts_of ds []) t (Moves l (Stays refl) e) lands))
