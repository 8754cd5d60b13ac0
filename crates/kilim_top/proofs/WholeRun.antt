-- The text of an accepted program's run is the journal of a whole run.
use Rattle.std.proofs.Common.{◌≡◌, ◌≤◌, ℕ, ℤ, true, List, Some, None, length, refl, sym, subst}
use Rattle.kilim_program.specs.Names.{class_named}
use Rattle.kilim_program.specs.Program.{Program}
use Rattle.kilim_program.specs.declared.names.ClassId.{ClassId}
use Rattle.kilim_run_state.specs.declared.run.Limits.{Limits}
use Rattle.kilim_program.specs.Members.{is_fit_main}
use Rattle.kilim_stages.specs.Accepted.{IsAcceptedOf}
use Rattle.kilim_run_model.specs.State.{Setting}
use Rattle.kilim_weave_file_command.specs.Laws.{AcceptedFilesAreIsolated}
use Rattle.kilim_weave.specs.Faults.{weave_fault}
use Rattle.kilim_weave.specs.declared.weaving.Woven.{Woven}
use Rattle.kilim_image_command.specs.Laws.{WovenIsServed}
use Rattle.kilim_run.specs.Runs.{setting_of}
use Rattle.kilim_command.specs.grammar.Words.{Run}
use Rattle.kilim_fiber_laws.specs.Served.{CanServe}
use Rattle.kilim_stages.specs.woven_stage.Stage.{IsWovenOf}
use Rattle.kilim_stages.specs.declared.woven_stage.stage.WovenProgram.{WovenProgram}
use Rattle.kilim_top.specs.Inside.Answer.{IsMainOf, IsTextOf, IsToRun}
use Rattle.kilim_top.specs.Outcome.{IsIsolatedRun, IsWholeRun}
use Rattle.kilim_command.specs.Report.{utf16_of}
use Rattle.kilim_command.specs.Words.{limits_of}

whole_run : (main : List ℕ) (limits : Limits) (files : List (List ℕ)) (p : Program) (class : ClassId) (text : List ℕ) → IsAcceptedOf files p → weave_fault p ≡ None → class_named p (utf16_of main) ≡ Some class → is_fit_main p class ≡ true →
    IsIsolatedRun p class limits → IsTextOf None (setting_of p class limits) text → IsWholeRun main limits files text
whole_run main limits files p class text of none named fit isolated run = record {
  program = p;
  accepted = of;
  weavable = none;
  class = class;
  named = named;
  fit = fit;
  journal = run.journal;
  whole = run.is.whole;
  isolated = isolated;
  readable = run.is.readable;
  fits = run.is.fits;
  is_text = run.is_text;
}

module _ (law : AcceptedFilesAreIsolated) (serves : WovenIsServed) (files : List (List ℕ)) (p : WovenProgram) (few : length files ≤ 1000) (of : IsWovenOf files p.plain p.woven) where
  served : (class : ClassId) (limits : Limits) (set : Setting) (w : Woven) → is_fit_main p.plain class ≡ true → set ≡ setting_of p.plain class limits → w ≡ p.woven → CanServe set w.program w.counted
  served class limits set w fit is is_woven =
      subst (λ (v : Woven). CanServe set v.program v.counted) (sym is_woven)
      (subst (λ (s : Setting). CanServe s p.woven.program p.woven.counted) (sym is) (serves files p.plain p.woven few of.accepted of.weaves class fit limits))

  isolated : (class : ClassId) (limits : Limits) → is_fit_main p.plain class ≡ true → IsIsolatedRun p.plain class limits
  isolated class limits fit = λ live sound. law files p.plain few of.accepted class fit limits live sound

  pub to_run : (main : List ℕ) (workers steps : ℕ) (args : List ℤ) (names : List (List ℕ)) (set : Setting) (w : Woven) → IsMainOf p (utf16_of main) (limits_of steps args) set w → IsToRun (Run main workers steps args names) files set w
  to_run main workers steps args names set w is = record {
    served = served set.main (limits_of steps args) set w is.fit is.is is.is_woven;
    done = λ text run. (
      refl,
      whole_run main (limits_of steps args) files p.plain set.main text of.accepted of.none is.named is.fit (isolated set.main (limits_of steps args) is.fit) (subst (λ (s : Setting). IsTextOf None s text) is.is run),
    );
  }
