-- From the run of a program to what is saved.
use Rattle.std.proofs.Common.{◌≡◌, ◌≤◌, ℕ, List, Result, Ok, Err, refl, sym, subst, inl, inr, length}
use Rattle.std.specs.Prelude.{IfOk}
use Rattle.kilim_command.specs.Report.{utf16_of}
use Rattle.kilim_fiber_laws.specs.Served.{CanServe}
use Rattle.kilim_image.specs.declared.image.Run.{Run}
use Rattle.kilim_program.specs.Program.{Program}
use Rattle.kilim_program.specs.declared.names.ClassId.{ClassId}
use Rattle.kilim_run.specs.Runs.{IsCourseOf, setting_of}
use Rattle.kilim_run_journal.specs.Text.{journal_text}
use Rattle.kilim_run_journal.specs.declared.entry.Entry.{Entry}
use Rattle.kilim_run_model.specs.State.{Setting}
use Rattle.kilim_run_state.specs.declared.run.Limits.{Limits}
use Rattle.kilim_stages.proofs.Parts.{refused, reported}
use Rattle.kilim_stages.specs.Parts.{IfReport, Refused}
use Rattle.kilim_stages.specs.declared.refusal.Refusal.{Refusal}
use Rattle.kilim_image_command.specs.Images.{IsSizeReport}
use Rattle.kilim_image_command.specs.Laws.{WovenIsServed}
use Rattle.kilim_image_command.specs.Parts.{IsStarted}
use Rattle.kilim_image_command.specs.Programs.{IsStart, IsStartReport}
use Rattle.kilim_image_command.specs.Saving.{IsCourseHere, IsSaveReport, IsSaveSize, IsSaved, IsSavedAs, IsSavedRun, IsTooLarge, run_of}
use Rattle.kilim_image_command.specs.declared.programs.Started.{Started}
use Rattle.kilim_image_command.specs.declared.saving.Saved.{Saved}

-- with its journal
pub saved_with : (set : Setting) (few : ℕ) (run : Run) (es : List Entry) (r : Result Saved Refusal) → IsCourseOf set few es → IfOk r (IsSavedAs run es) → IfOk r (IsSaved set few run)
saved_with set few run es (Ok saved) course is = record { journal = es; course = course; is = is }
saved_with set few run es (Err e) course is = tt

pub size_with : (set : Setting) (few : ℕ) (run : Run) (es : List Entry) (r : Result Saved Refusal) → IsCourseOf set few es → IfReport r (IsSizeReport run (journal_text es)) → IfReport r (IsSaveSize set few run)
size_with set few run es r course said = reported r (λ text size. record { journal = es; course = course; size = size }) said

module _ (names : List (List ℕ)) (main : List ℕ) (limits : Limits) (few : ℕ) (files : List (List ℕ)) (name : List ℕ) (named : name ≡ utf16_of main) where
  module _ (s : Started) (run : Run) (is : IsStarted name files s) (of : run ≡ run_of main limits files) where
    here : (es : List Entry) → IsCourseOf (setting_of s.plain s.main limits) few es → IsCourseHere main limits few files es
    here es course = record { program = s.plain; class = s.main; start = subst (λ (n : List ℕ). IsStart n files s.plain s.main) named is.start; course = course }

    is_saved : (saved : Saved) → IsSaved (setting_of s.plain s.main limits) few run saved → IsSavedRun main limits few files saved.image.items saved.text.items
    is_saved saved did =
        let own = subst (λ (r : Run). IsSavedAs r did.journal saved) of did.is in
        record { journal = did.journal; here = here did.journal did.course; written = own.image; is_text = own.text }

    pub saved_files : (r : Result Saved Refusal) → IfOk r (IsSaved (setting_of s.plain s.main limits) few run) → IfOk r (λ saved. IsSavedRun main limits few files saved.image.items saved.text.items)
    saved_files (Ok saved) did = is_saved saved did
    saved_files (Err e) did = tt

    pub large_files : (r : Result Saved Refusal) → IfReport r (IsSaveSize (setting_of s.plain s.main limits) few run) → IfReport r (IsSaveReport names main limits few files)
    large_files r said =
        reported r (λ text large. inr (record { journal = large.journal; here = here large.journal large.course; size = subst (λ (x : Run). IsSizeReport x (journal_text large.journal) text) of large.size })) said

  pub not_started : (r : Refusal) → Refused r (IsStartReport names name files) → Refused r (IsSaveReport names main limits few files)
  not_started r said = refused r (λ text start. inl (subst (λ (n : List ℕ). IsStartReport names n files text) named start)) said

pub can_serve : WovenIsServed → (name : List ℕ) (files : List (List ℕ)) (s : Started) (limits : Limits) → length files ≤ 1000 → IsStarted name files s → CanServe (setting_of s.plain s.main limits) s.woven.program s.woven.counted
can_serve law name files s limits few is = law files s.plain s.woven few is.start.accepted is.weaves s.main is.start.fit limits
