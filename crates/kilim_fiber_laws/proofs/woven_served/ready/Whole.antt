-- All is put together.
use Rattle.std.proofs.Common.{◌≡◌, ◌≢◌, suc, Bool, true, false, List, [], ◌∷◌, Some, refl, ap, arith}
use Rattle.std.proofs.lemmas.Bool.{false≢true}
use Rattle.kilim_program.specs.declared.class.Method.{Method}
use Rattle.kilim_program.specs.declared.names.MethodId.{MethodId}
use Rattle.kilim_program.specs.declared.value.Value.TheVariants.{Ref}
use Rattle.kilim_program.specs.Names.{method_at}
use Rattle.kilim_program.specs.Program.{Program}
use Rattle.kilim_run_machine.specs.Moves.{entered}
use Rattle.kilim_isolation_laws.specs.Laws.{IsRunOfAccepted}
use Rattle.kilim_run_model.specs.Course.{Stays}
use Rattle.kilim_run_model.specs.State.{Setting}
use Rattle.kilim_fiber_laws.proofs.woven_served.accepted.Along.{facts, form, pauses, serves_all}
use Rattle.kilim_fiber_laws.specs.woven_served.accepted.Law.{CanPause}
use Rattle.kilim_fiber_laws.specs.courses.Law.{HasFew, IsOfCourse}
use Rattle.kilim_weave_spec.specs.Form.{WovenForm}
use Rattle.kilim_weave_laws.specs.woven_programs.keeps.Law.{NoneIsTooLong}
use Rattle.kilim_fiber_spec.specs.lone.Law.{lone_at}
use Rattle.kilim_weave_laws.proofs.woven_program.Made.{there}
use Rattle.kilim_weave_laws.specs.woven_program.Made.{woven_counted, woven_program}
use Rattle.kilim_fiber_laws.proofs.woven_served.ready.Executes.{execute_same}
use Rattle.kilim_fiber_laws.proofs.woven_served.ready.Ready.{can_pause, over_pauses}
use Rattle.kilim_fiber_laws.specs.woven_served.ready.Law.{MayBegin, ServesTasks, TasksServe, WovenFormsServe}
use Rattle.kilim_fiber_laws.proofs.receivers.Begins.{one_frame}
use Rattle.kilim_fiber_spec.specs.Acts.{Lost, Over}
use Rattle.kilim_fiber_spec.specs.Links.{code}
use Rattle.kilim_fiber_spec.specs.Serves.{From}
use Rattle.kilim_fiber_spec.specs.Thread.{Frame, Run, Stop, Thread, self_of, started}
use Rattle.kilim_fiber_laws.proofs.stands.serves.Whole.{whole}
use Rattle.kilim_fiber_laws.proofs.stands.shares.Together.{shares_pauses, shares_rows}
use Rattle.kilim_fiber_laws.specs.stands.Law.{IsFormOf}

abbrev is_stopped : Thread → Bool
is_stopped (Run m p l s x b w) = false
is_stopped (Stop o) = true

abbrev over_of : Thread → Over
over_of (Run m p l s x b w) = Lost
over_of (Stop o) = o

module _ (set : Setting) (run : IsRunOfAccepted set) where
  pub course : (first : Thread) → MayBegin set first → IsOfCourse set first
  course (Run m p l s x b w) k = (record { beginning = k.0; deeds = [] }, lone_at m p l s b w, record { first = lone_at m p l s b w; begins = k.1; follows = refl }, Stays refl)
  course (Stop o) k = tt

  pub few : (first : Thread) → MayBegin set first → HasFew first
  few (Run m p l s x b w) k = let e : suc (Rattle.std.specs.Prelude.length b) ≡ 1 = ap (λ (fs : List Frame). suc (Rattle.std.specs.Prelude.length fs)) (one_frame set run m p l s b w k.0 k.1) in omega (arith, e)
  few (Stop o) k = tt

  pub stands : (first : Thread) → MayBegin set first → first ≢ Stop Lost
  stands (Run m p l s x b w) k = λ e. false≢true (ap is_stopped e)
  stands (Stop o) k = λ e. k (ap over_of e)

  module _ (short : NoneIsTooLong set.program) (W : Program) (marks : List (List Bool)) (woven : WovenForm set.program W marks) where
    pub is_form : (m : MethodId) (a : Method) → method_at set.program m ≡ Some a → IsFormOf set.program W (code set W marks) m (form set run short W marks woven m) a
    is_form = (whole set W marks run.keeps run.form run.well (pauses set run) short run.main woven).2

    pub again : (first : Thread) → MayBegin set first → CanPause set W marks (form set run short W marks woven) (From set first)
    again (Run m p l s x b w) k =
        can_pause set run (pauses set run) (shares_pauses set W marks run.keeps run.form run.well woven run.main).sound W marks (form set run short W marks woven) is_form (shares_rows set W marks run.keeps run.form run.well woven).agree (facts set run short W marks woven)
        (λ class task. execute_same set.program W marks run.keeps run.form woven class task) (Run m p l s x b w) k (course (Run m p l s x b w) k)
    again (Stop o) k =
        over_pauses set run (pauses set run) (shares_pauses set W marks run.keeps run.form run.well woven run.main).sound W marks (form set run short W marks woven) is_form (shares_rows set W marks run.keeps run.form run.well woven).agree (facts set run short W marks woven)
        (λ class task. execute_same set.program W marks run.keeps run.form woven class task) o

    pub serves_tasks : ServesTasks set W marks (form set run short W marks woven)
    serves_tasks = record {
      serves = λ first k. (serves_all set run short W marks woven).serves first (course first k) (few first k) (stands first k) (again first k);
      constructs = λ c w ps not_pausable k.
          let first = Run c 0 (entered set.program c (Ref 0 ∷ [])).locals [] (self_of set.program c (Ref 0 ∷ [])) [] w in
          (serves_all set run short W marks woven).constructs c (Ref 0 ∷ []) w ps not_pausable (course first k) (again first k);
      executes = λ class c w ps task e k.
          let first = started set 0 w (Some c) in
          (serves_all set run short W marks woven).executes class c 0 w ps task e (course first k) (stands first k) (again first k);
    }

pub tasks_serve : TasksServe
tasks_serve set run short lives is =
    let W = woven_program set.program lives in
    let marks = woven_counted set.program lives in
    let woven = there set.program run.keeps lives is in
    (form set run short W marks woven, serves_tasks set run short W marks woven)

pub woven_forms_serve : WovenFormsServe
woven_forms_serve set run short W marks woven = record { form = form set run short W marks woven; is = is_form set run short W marks woven; serves = serves_tasks set run short W marks woven }
