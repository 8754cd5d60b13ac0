-- The journal of a whole run, from what a runner answers.
use Rattle.std.proofs.Common.{◌≡◌, ℕ, Bool, true, false, List, refl, sym, subst}
use Rattle.kilim_program.specs.declared.names.ClassId.{ClassId}
use Rattle.kilim_program.specs.Program.{Program}
use Rattle.kilim_run_state.specs.declared.run.Limits.{Limits}
use Rattle.kilim_run_journal.specs.declared.entry.Entry.{Entry}
use Rattle.kilim_run_journal.specs.Readable.{IsReadable, JournalFits}
use Rattle.kilim_isolation_laws.specs.reached_objects.Laws.{AreLive}
use Rattle.kilim_run_model.specs.Reach.{Liveness}
use Rattle.kilim_run_model.specs.State.{Setting}
use Rattle.kilim_run_model.specs.Runs.{Whole}
use Rattle.kilim_run_board.specs.Seen.{MovedWhole}
use Rattle.kilim_fiber.specs.named.Named.{ServesNamed}
use Rattle.kilim_run_model.specs.one_heap.Laws.{MovedIsWhole}
use Rattle.kilim_isolation_laws.specs.at_rest.readable.Laws.{EntriesAreReadable, RunsAreReadable}
use Rattle.kilim_run_workers.specs.one_worker.Pool.{IsOf}
use Rattle.kilim_fiber_body.specs.declared.code.Code.{Code}
use Rattle.kilim_fiber_laws.specs.Served.{CanServe}
use Rattle.kilim_run_follow.specs.declared.resuming.Resumed.{Resumed}
use Rattle.kilim_run_follow.specs.declared.resuming.Resumed.TheVariants as resumed
use Rattle.kilim_run_follow.specs.Resuming.{WentOn}
use Rattle.kilim_run.specs.Runs.{IsCourseOf, IsJournalOf, IsResumed, IsStopped, ResumedFits, setting_of}

-- what the parts of a code serve, the code serves
pub can_of : (plain W : Program) (marks : List (List Bool)) (main : ClassId) (limits : Limits) (code : Code) → code.plain ≡ plain → code.program ≡ W → code.counted ≡ marks → CanServe (setting_of plain main limits) W marks → CanServe (setting_of code.plain main limits) code.program code.counted
can_of plain W marks main limits code same is are can =
    subst (λ (V : Program). CanServe (setting_of V main limits) code.program code.counted) (sym same)
    (subst (λ (V : Program). CanServe (setting_of plain main limits) V code.counted) (sym is) (subst (λ (ms : List (List Bool)). CanServe (setting_of plain main limits) W ms) (sym are) can))

-- the setting is one of this code's, whose woven program and marks are named by themselves
pub is_of : (main : ClassId) (limits : Limits) (code : Code) → CanServe (setting_of code.plain main limits) code.program code.counted → IsOf (ServesNamed code.program code.counted) code main limits (setting_of code.plain main limits)
is_of main limits code can = record { run = record { served = record { serves = record { program = refl; can = can }; program = refl; counted = refl }; is-main = refl }; is-limits = refl }

-- where no local is taken for live, none has to be
stacks_alone : Liveness
stacks_alone = record { top = λ id at k. false; below = λ id at k. false }

none_live : (p : Program) → AreLive p stacks_alone
unfolding stacks_alone
none_live p = (λ id m at k there e. absurd (let z : false ≡ true = e in cc), λ id m at k there e. absurd (let z : false ≡ true = e in cc))

pub is_journal : MovedIsWhole → RunsAreReadable → (set : Setting) (W : Program) (marks : List (List Bool)) → CanServe set W marks → (es : List Entry) → MovedWhole set es → JournalFits es → IsJournalOf set es
is_journal law readable set W marks can es moved fits = record {
  whole =
      subst (λ (xs : List Entry). Whole set xs) (sym moved.parts)
      (law stacks_alone set can.run.main (can.runs.kept stacks_alone (none_live set.program)) moved.entries moved.waits moved.state moved.replay moved.at_rest);
  readable = subst IsReadable (sym moved.parts) (readable set moved.entries moved.waits moved.state moved.replay moved.at_rest);
  fits = fits;
}

pub is_course : EntriesAreReadable → (set : Setting) (few : ℕ) (es : List Entry) → IsStopped set few es → JournalFits es → IsCourseOf set few es
is_course readable set few es stopped fits = record { stopped = stopped; readable = readable set es stopped.state stopped.replay; fits = fits }

pub is_resumed : MovedIsWhole → RunsAreReadable → (Of : Setting → Type 0) (set : Setting) → Of set → (W : Program) (marks : List (List Bool)) → CanServe set W marks → (given : List Entry) (r : Resumed) → WentOn Of given r → ResumedFits r → IsResumed set given r
is_resumed law readable Of set of W marks can given (resumed.Journal es) went fits = let here = went.0 set of in (is_journal law readable set W marks can es.items here.0 fits, (went.1, here.1))
is_resumed law readable Of set of W marks can given (resumed.Differs n) went fits = went set of
