-- Along each course.
use Rattle.std.proofs.Common.{◌≡◌, ◌≢◌, ◌⊎◌, inl, inr, ℕ, zero, suc, Bool, List, [], Some, refl, sym, subst, ◌∙◌}
use Rattle.std.specs.Prelude.{◌↔◌}
use Rattle.kilim_isolation_laws.proofs.kept.Serving.{accepted_is_kept}
use Rattle.kilim_program.specs.Program.{Program}
use Rattle.kilim_isolation_laws.specs.Laws.{IsRunOfAccepted}
use Rattle.kilim_run_model.specs.Course.{Course, lone_begun}
use Rattle.kilim_run_model.specs.Lone.{Lone}
use Rattle.kilim_run_model.specs.State.{Setting}
use Rattle.kilim_fiber_laws.proofs.woven_served.accepted.Along.{form, known_at}
use Rattle.kilim_weave_spec.specs.Form.{WovenForm}
use Rattle.kilim_fiber_laws.proofs.woven_served.gives.Gives.{Hands, threads_hand}
use Rattle.kilim_fiber_laws.specs.woven_served.gives.Law.{HandsOut}
use Rattle.kilim_weave_laws.specs.woven_programs.keeps.Law.{NoneIsTooLong}
use Rattle.kilim_fiber_laws.proofs.woven_served.ready.Whole.{again, course, few, is_form, serves_tasks, stands}
use Rattle.kilim_fiber_laws.specs.woven_served.ready.Law.{MayBegin}
use Rattle.kilim_fiber_spec.specs.Acts.{Lost, Over}
use Rattle.kilim_fiber_spec.specs.Fibers.{WStop, Woven_state, wsteps}
use Rattle.kilim_fiber_spec.specs.Serves.{From, Known}
use Rattle.kilim_fiber_spec.specs.Thread.{Run, Stop, Thread, steps}
use Rattle.kilim_fiber_laws.proofs.woven_served.Begins.{Starts, begins}
use Rattle.kilim_fiber_laws.specs.woven_served.Served.{RunsServe, ServesCourse, first_fiber}
use Rattle.kilim_fiber_laws.proofs.receivers.states.Lands.{one_step}
use Rattle.kilim_fiber_laws.proofs.receivers.states.Whole.{thread_follows}
use Rattle.kilim_fiber_laws.specs.receivers.states.Law.{FollowsCourse, ThreadAlong, first_thread, world_at}

on_left : {A B C : Type 0} → (A → B) → A ⊎ C → B ⊎ C
on_left go (inl a) = inl (go a)
on_left go (inr c) = inr c

-- what comes to the same ends
same_follows : (set : Setting) (k : ℕ) (c : Course) (A B : Over → Type 0) → FollowsCourse set k c A → ((o : Over) → (A o) ↔ (B o)) → FollowsCourse set k c B
same_follows set k c A B f same = record {
  wants = λ a w. (λ b. (f.wants a w).0 ((same _).1 b.0, b.1), λ s. let x = (f.wants a w).1 s in ((same _).0 x.0, x.1));
  ends = λ why w. (λ b. (f.ends why w).0 ((same _).1 b.0, b.1), λ s. let x = (f.ends why w).1 s in ((same _).0 x.0, x.1));
  state = λ last lone. on_left (same Lost).0 (f.state last lone);
}

over_stays : (set : Setting) (n : ℕ) (q o : Over) → steps set n (Stop q) ≡ Stop o → q ≡ o
over_stays set zero q o e = cc
over_stays set (suc n) q o e = over_stays set n q o e

module _ (set : Setting) (run : IsRunOfAccepted set) where
  hands : (t : Thread) → MayBegin set t → Hands set t → (n : ℕ) (o : Over) → steps set n t ≡ Stop o → HandsOut set o
  hands (Run m p l s x b w) may h n o e = threads_hand set run (Run m p l s x b w) may n o e
  hands (Stop q) may h n o e = subst (HandsOut set) (over_stays set n q o e) h

  module _ (short : NoneIsTooLong set.program) (W : Program) (marks : List (List Bool)) (woven : WovenForm set.program W marks) where
    known : (t : Thread) → MayBegin set t → Known set W marks (form set run short W marks woven) (From set t)
    known t may = known_at set run W marks (form set run short W marks woven) t (course set run t may) (few set run t may) (stands set run t may) (again set run short W marks woven t may)

    never_lost : (t : Thread) → MayBegin set t → (n : ℕ) → steps set n t ≢ Stop Lost
    never_lost t may zero = stands set run t may
    never_lost t may (suc n) = λ e. (known t may).unstuck (steps set n t) (n, refl) (sym (one_step set n t) ∙ e)

    along : (k : ℕ) (c : Course) (l : Lone) (pauses : List ℕ) → lone_begun set c.beginning ≡ Some l →
        ServesCourse set W marks (form set run short W marks woven) k c (first_thread set c.beginning (world_at k l c.deeds [])) (first_fiber set W marks c.beginning (world_at k l c.deeds []) pauses)
    along k c l pauses begun = record {
      follows = same_follows set k c (λ o. (n : ℕ) × (steps set n first ≡ Stop o)) (λ o. (j : ℕ) × (wsteps set W marks j x ≡ WStop o)) law.0 s.serves.ends;
      never_lost = λ j e. let z = (s.serves.ends Lost).1 (j, e) in never_lost first s.may z.0 z.1;
      stands = s.serves.stands;
      rests = λ j f w ps e. let z = s.serves.rests j f w ps e in (z.0, z.1, law.1 z.0);
      soon = s.serves.soon;
      pausing = s.serves.pausing;
      fine = s.serves.fine;
      gives = λ j o e. let z = (s.serves.ends o).1 (j, e) in hands first s.may s.hands z.0 o z.1;
    }
      where
        first : Thread
        first = first_thread set c.beginning (world_at k l c.deeds [])

        x : Woven_state
        x = first_fiber set W marks c.beginning (world_at k l c.deeds []) pauses

        s : Starts set run W marks woven (form set run short W marks woven) (serves_tasks set run short W marks woven) k c.deeds pauses first x
        s = begins set run W marks woven (form set run short W marks woven) (serves_tasks set run short W marks woven) k c.deeds pauses c.beginning l begun

        law : FollowsCourse set k c (λ o. (n : ℕ) × (steps set n first ≡ Stop o)) × ((n : ℕ) → ThreadAlong set k c (steps set n first))
        law = thread_follows set run.main k c l begun

pub runs_serve : RunsServe
runs_serve set run short W marks woven = record {
  kept = λ live is. accepted_is_kept set run live is;
  tasks = record { form = form set run short W marks woven; is = is_form set run short W marks woven; serves = serves_tasks set run short W marks woven };
  courses = λ k c l pauses begun. along set run short W marks woven k c l pauses begun;
}
