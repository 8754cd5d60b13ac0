-- All is put together.
use Rattle.std.proofs.Common.{◌≡◌, ◌≢◌, ℕ, zero, suc, Bool, true, false, List, [], ◌∷◌, Option, Some, refl, sym, ap, subst, arith}
use Rattle.std.specs.Prelude.{if◌then◌else◌, nat_le}
use Rattle.std.proofs.lemmas.Bool.{false≢true}
use Rattle.kilim_program.specs.declared.class.Method.{Method}
use Rattle.kilim_program.specs.declared.instr.Instr.{Instr}
use Rattle.kilim_program.specs.declared.names.MethodId.{MethodId}
use Rattle.kilim_program.specs.declared.value.Value.{Value}
use Rattle.kilim_program.specs.declared.value.Value.TheVariants.{Ref}
use Rattle.kilim_program.specs.Names.{method_at}
use Rattle.kilim_program.specs.Program.{Program}
use Rattle.kilim_isolation_laws.proofs.kept.Serving.{accepted_is_kept}
use Rattle.kilim_run_state.specs.declared.cause.EndCause.TheVariants as cause
use Rattle.kilim_run_machine.specs.Does.{does}
use Rattle.kilim_run_machine.specs.Effect.{Asks}
use Rattle.kilim_run_state.specs.Machine.{Objects}
use Rattle.kilim_run_machine.specs.Moves.{entered}
use Rattle.kilim_run_machine.specs.Natives.{native_of}
use Rattle.kilim_isolation_laws.specs.reached_objects.Laws.{typed}
use Rattle.kilim_isolation_laws.specs.Laws.{IsRunOfAccepted}
use Rattle.kilim_isolation_laws.proofs.Keeping.{is_verified, stack_there, threads_stand}
use Rattle.kilim_run_model.specs.State.{Setting}
use Rattle.kilim_type_laws.specs.Laws.{typing_at}
use Rattle.kilim_fiber_laws.proofs.woven_served.accepted.Tasks.{execute_taken, takes_task}
use Rattle.kilim_fiber_laws.specs.woven_served.accepted.Law.{AcceptedWeaves, CanPause, ServesCourses}
use Rattle.kilim_fiber_laws.proofs.courses.answers.Answers.{natives_answer}
use Rattle.kilim_fiber_laws.proofs.simulation.beginnings.Along.{beginnings_serve}
use Rattle.kilim_fiber_laws.proofs.courses.GoesOn.{goes_on}
use Rattle.kilim_fiber_laws.proofs.courses.Known.{known}
use Rattle.kilim_fiber_laws.specs.courses.Law.{HasFew, IsOfCourse, Rest}
use Rattle.kilim_weave_spec.specs.Form.{WovenForm}
use Rattle.kilim_weave_spec.specs.Woven.{fiber_ty}
use Rattle.kilim_weave_laws.specs.woven_programs.keeps.Law.{NoneIsTooLong}
use Rattle.kilim_fiber_spec.specs.lone.Law.{lone_at}
use Rattle.kilim_weave_pauses.proofs.Accepted.{accepted_keeps}
use Rattle.kilim_weave_laws.proofs.woven_program.Made.{there}
use Rattle.kilim_weave_laws.specs.woven_program.Made.{woven_counted, woven_program}
use Rattle.kilim_weave_laws.specs.woven_programs.Law.{KeepsPauses}
use Rattle.kilim_fiber_spec.proofs.alike.AllRows.{rows_from}
use Rattle.kilim_fiber_spec.proofs.alike.FiberCalls.{members_from}
use Rattle.kilim_fiber_spec.specs.Acts.{Lost, World, asks, ending, spending, with_heap}
use Rattle.kilim_fiber_spec.specs.Form.{Facts, Members}
use Rattle.kilim_fiber_spec.specs.Links.{Forms, code}
use Rattle.kilim_fiber_spec.specs.Serves.{From, Known, Rows}
use Rattle.kilim_fiber_spec.specs.Thread.{At, Frame, Run, Stop, Thread, fetch, own_of, push, raised_behind, self_of, started, started_in, step, steps}
use Rattle.kilim_fiber_laws.proofs.stands.serves.Whole.{whole}
use Rattle.kilim_fiber_laws.proofs.stands.shares.Called.{each}
use Rattle.kilim_fiber_laws.proofs.stands.shares.Fibers.{fiber_is}
use Rattle.kilim_fiber_laws.proofs.stands.shares.Names.{twin}
use Rattle.kilim_fiber_laws.proofs.stands.shares.Together.{execute_pauses, shares_pauses, shares_rows}
use Rattle.kilim_fiber_laws.proofs.simulation.Natural.{ending_is}

abbrev is_stopped : Thread → Bool
is_stopped (Run m p l s x b w) = false
is_stopped (Stop o) = true

pub all_of_course : (set : Setting) (n : ℕ) (t : Thread) → IsOfCourse set t → IsOfCourse set (steps set n t)
all_of_course set zero t is = is
all_of_course set (suc n) t is = all_of_course set n (step set t) (goes_on set t is)

module _ (set : Setting) (run : IsRunOfAccepted set) where
  pub pauses : KeepsPauses set.program
  pauses = accepted_keeps (typed set.program) run.keeps (record { typed = run.well; frames = refl }) run.accepted

  at_all : (first t : Thread) → IsOfCourse set first → From set first t → IsOfCourse set t
  at_all first t is f = subst (λ (z : Thread). IsOfCourse set z) f.1 (all_of_course set f.0 first is)

  -- a built-in method gets arguments that it takes
  answered : (m : MethodId) (p to q : ℕ) (i : Instr) (l s l2 s2 args : List Value) (x : Value) (b : List Frame) (w : World) (heap : Objects) (c : MethodId) → IsOfCourse set (Run m p l s x b w) → fetch set.program m p ≡ Some (i, to)
      → does set.program (own_of set.program m) i to l s w.heap ≡ Asks c args q l2 s2 heap → asks set (with_heap w heap) Stop (λ after v. Run m q l2 (push v s2) x b after) (raised_behind set (At m q l2 s2 x ∷ b) (with_heap w heap)) (native_of set.program c) args ≢ Stop Lost
  answered m p to q i l s l2 s2 args x b w heap c here f d =
      let stands = threads_stand set run w.task here.0 here.1 (lone_at m p l s b w) here.2 here.3 in
      natives_answer set (typing_at set.program) (λ id at k. true) (is_verified set run.keeps run.form run.well run.accepted run.main run.begins) stands.of m p to q i l s l2 s2 args x b w heap c stands.fits.fits.frames.0 stands.fits.fits.heap
      (stack_there set run.keeps run.form run.well run.accepted run.main run.begins (lone_at m p l s b w) stands) f d

  module _ (W : Program) (marks : List (List Bool)) (form : Forms set W marks) where
    rest_of : (first : Thread) → IsOfCourse set first → CanPause set W marks form (From set first) → Rest set W marks form (From set first)
    rest_of first course ready = record {
      answers = λ m p to q i l s l2 s2 args x b w heap c f g d. answered m p to q i l s l2 s2 args x b w heap c (at_all first (Run m p l s x b w) course f) g d;
      selves = ready.0;
      ready = ready.1;
    }

    pub known_at : (first : Thread) → IsOfCourse set first → HasFew first → first ≢ Stop Lost → CanPause set W marks form (From set first) → Known set W marks form (From set first)
    known_at first course few stands ready =
        known set (typing_at set.program) (λ id at k. true) (record { top = λ id at k. false; below = λ id at k. false }) (is_verified set run.keeps run.form run.well run.accepted run.main run.begins) run.main
        (accepted_is_kept set run (record { top = λ id at k. false; below = λ id at k. false }) (λ id m at k e live. absurd (false≢true live), λ id m at k e live. absurd (false≢true live))) W marks form first course few stands (rest_of first course ready)

  module _ (short : NoneIsTooLong set.program) (W : Program) (marks : List (List Bool)) (woven : WovenForm set.program W marks) where
    abbrev pub form : Forms set W marks
    form = (whole set W marks run.keeps run.form run.well pauses short run.main woven).0

    pub facts : (m : MethodId) → Facts set.program W (code set W marks) (form m)
    facts = (whole set W marks run.keeps run.form run.well pauses short run.main woven).1

    members : Members set.program W
    members = members_from set.program W (fiber_ty set.program) (fiber_is set.program W marks run.keeps run.form woven) (each set.program W marks run.keeps run.form woven)

    rows : Rows set W marks form
    rows = rows_from set W marks form facts (shares_rows set W marks run.keeps run.form run.well woven) (fiber_ty set.program) (shares_pauses set W marks run.keeps run.form run.well woven run.main)

    begun_few : (c : MethodId) (n : ℕ) (w : World) (a : Method) → method_at set.program c ≡ Some a → HasFew (started set n w (Some c))
    begun_few c n w a at = subst (λ (o : Option Method). HasFew (started_in set c n w o)) (sym at) (by a.built_in)
      where
        spent : (z : Bool) → HasFew (if z then ending set w Stop cause.Spent else ending set w Stop cause.Done)
        spent true = subst HasFew (sym (ending_is set w Stop cause.Spent)) tt
        spent false = subst HasFew (sym (ending_is set w Stop cause.Done)) tt

        by : (z : Bool) → HasFew (if z then spending set w Stop (ending set w Stop cause.Done) else Run c 0 (entered set.program c (Ref n ∷ [])).locals [] (Ref n) [] w)
        by true = spent (nat_le set.limits.steps w.done)
        by false = omega arith

    pub serves_all : ServesCourses set W marks form
    serves_all = record {
      serves = λ first course few stands ready. (whole set W marks run.keeps run.form run.well pauses short run.main woven).3 first (known_at W marks form first course few stands ready);
      constructs = λ c args w ps not_pausable course ready. (beginnings_serve set W marks form members facts rows).0 c args w ps not_pausable
          (known_at W marks form (Run c 0 (entered set.program c args).locals [] (self_of set.program c args) [] w) course (omega arith) (λ e. false≢true (ap is_stopped e)) ready);
      executes = λ class c n w ps task e course stands ready.
          let x = execute_taken set.program run.keeps run.form class task c e in
          let t = twin set.program W marks run.keeps run.form woven c x.method x.there in
          (beginnings_serve set W marks form members facts rows).1 c x.method t.method n w ps x.there t.there t.built_in (execute_pauses set W marks run.keeps run.form run.well woven class task c x.method e x.there) (takes_task set run.keeps run.form W marks form c x n)
          (known_at W marks form (started set n w (Some c)) course (begun_few c n w x.method x.there) stands ready);
    }

pub accepted_weaves : AcceptedWeaves
accepted_weaves set run short lives is =
    let W = woven_program set.program lives in
    let marks = woven_counted set.program lives in
    (form set run short W marks (there set.program run.keeps lives is), serves_all set run short W marks (there set.program run.keeps lives is))
