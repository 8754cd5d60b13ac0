-- What is answered for an accepted program, and for the bytes of files.
use Rattle.std.specs.Prelude.{◌≡◌, ℕ, true, List, [], ◌∷◌, Option, Some, Result, Ok, Err, Vec, ◌⊎◌}
use Rattle.kilim_program.specs.declared.names.ClassId.{ClassId}
use Rattle.kilim_program.specs.Names.{class_named}
use Rattle.kilim_program.specs.Program.{Program}
use Rattle.kilim_top.specs.demo.Demo.{demo_limits, IsDemoReport}
use Rattle.kilim_top.specs.demo.Ready.{IsReady}
use Rattle.kilim_run_journal.specs.declared.entry.Entry.{Entry}
use Rattle.kilim_run_state.specs.declared.run.Limits.{Limits}
use Rattle.kilim_program.specs.Members.{is_fit_main}
use Rattle.kilim_stages.specs.declared.refusal.Refusal.{Refusal}
use Rattle.kilim_stages.specs.declared.refusal.Refusal.TheVariants as refusal
use Rattle.kilim_run_model.specs.State.{Setting}
use Rattle.kilim_weave.specs.declared.weaving.Woven.{Woven}
use Rattle.kilim_run.specs.Runs.{IsJournalOf, setting_of}
use Rattle.kilim_command.specs.grammar.Words.{Request}
use Rattle.kilim_fiber_laws.specs.Served.{CanServe}
use Rattle.kilim_stages.specs.declared.woven_stage.stage.WovenProgram.{WovenProgram}
use Rattle.kilim_outside.specs.written.OutputFile.{OutputFile}
use Rattle.kilim_top.specs.declared.answer.Ready.{Ready}
use Rattle.kilim_top.specs.declared.answer.Ready.TheVariants as ready
use Rattle.kilim_command.specs.Report.{named_line}
use Rattle.kilim_command.specs.RunText.{demo_number, run_text}
use Rattle.std.specs.declared.alloc.Global.{Global}
use Rattle.kilim_image_command.specs.Resuming.{IsDiffersLine, IsGoneOn}
use Rattle.kilim_image_command.specs.declared.resuming.Stopped.{Stopped}
use Rattle.kilim_image_command.specs.declared.saving.Saved.{Saved}
use Rattle.kilim_top.specs.declared.answer.Reply.{Reply}
use Rattle.kilim_top.specs.Outcome.{IsDone, IsReport, file_of}

-- the text of the journal of a whole run
pub record IsTextOf (demo : Option ℕ) (set : Setting) (text : List ℕ) : Type 0 where
  pub journal : List Entry
  pub is : IsJournalOf set journal
  pub is_text : text ≡ run_text demo journal

-- no class of that name is fit to be the main class
pub record IsNoMain (program : Program) (name text : List ℕ) : Type 0 where
  pub none : (class : ClassId) → class_named program name ≡ Some class → is_fit_main program class ≡ true → ⊥
  pub is_text : text ≡ named_line name

-- ---- replies

-- The status 0 with files and a text of one kind, or the status 1 without files and with a text of the other kind.
abbrev pub IsReply : (List OutputFile → List ℕ → Type 0) → (List ℕ → Type 0) → ℕ → List OutputFile → List ℕ → Type 0
IsReply done report status made text = ((status ≡ 0) × done made text) ⊎ ((status ≡ 1) × ((made ≡ []) × report text))

-- of the bytes of the files that the words name
abbrev pub IsReplyFor : Request → List (List ℕ) → ℕ → List OutputFile → List ℕ → Type 0
IsReplyFor work files status made text = IsReply (IsDone work files) (IsReport work files) status made text

-- ---- what is to be done

-- where the stages refuse: their report is to be written
abbrev pub IsRefusedBy : Refusal → Ready → Type 0
IsRefusedBy refusal.NoMemory to_do = ⊥
IsRefusedBy (refusal.Report report) (ready.Reply reply) = (reply.status ≡ 1) × ((reply.files.items ≡ []) × (reply.text.items ≡ report.items))
IsRefusedBy (refusal.Report report) (ready.Run plain woven class limits) = ⊥
IsRefusedBy (refusal.Report report) (ready.Resume stopped) = ⊥

-- a program is to be run by its woven form, and with the text of its run the work is done
pub record IsToRun (work : Request) (files : List (List ℕ)) (set : Setting) (woven : Woven) : Type 0 where
  pub served : CanServe set woven.program woven.counted
  pub done : (text : List ℕ) → IsTextOf (demo_number work) set text → IsDone work files [] text

-- a run goes on, and with the text of what follows the work is done, or with the line of an entry that can't come it is reported
pub record IsToResume (work : Request) (files : List (List ℕ)) (stopped : Stopped) : Type 0 where
  pub served : CanServe (setting_of stopped.plain stopped.main stopped.limits) stopped.woven.program stopped.woven.counted
  pub done : (text : List ℕ) → IsGoneOn (setting_of stopped.plain stopped.main stopped.limits) stopped.journal.items text → IsDone work files [] text
  pub reported : (text : List ℕ) → IsDiffersLine (setting_of stopped.plain stopped.main stopped.limits) stopped.journal.items text → IsReport work files text

abbrev pub IsReadyFor : Request → List (List ℕ) → Ready → Type 0
IsReadyFor work files (ready.Reply reply) = IsReplyFor work files reply.status reply.files.items reply.text.items
IsReadyFor work files (ready.Run plain woven class limits) = IsToRun work files (setting_of plain class limits) woven
IsReadyFor work files (ready.Resume stopped) = IsToResume work files stopped

-- a run was saved: its image is to be written into the one file of that name, and its journal
abbrev pub IsSavedReady : List ℕ → Saved → Ready → Type 0
IsSavedReady path saved (ready.Reply reply) = (reply.status ≡ 0) × ((reply.files.items ≡ file_of path saved.image.items ∷ []) × (reply.text.items ≡ saved.text.items))
IsSavedReady path saved (ready.Run plain woven class limits) = ⊥
IsSavedReady path saved (ready.Resume stopped) = ⊥

-- what is answered where a run went on, or an entry can't come
abbrev pub IsAnsweredBy : Result (Vec ℕ Global) Refusal → Reply → Type 0
IsAnsweredBy (Ok text) reply = (reply.status ≡ 0) × ((reply.files.items ≡ []) × (reply.text.items ≡ text.items))
IsAnsweredBy (Err refusal.NoMemory) reply = ⊥
IsAnsweredBy (Err (refusal.Report text)) reply = (reply.status ≡ 1) × ((reply.files.items ≡ []) × (reply.text.items ≡ text.items))

-- the same for the demo of a number
abbrev pub IsDemoReady : ℕ → Ready → Type 0
IsDemoReady number (ready.Reply reply) = (reply.status ≡ 1) × ((reply.files.items ≡ []) × IsDemoReport number reply.text.items)
IsDemoReady number (ready.Run plain woven class limits) = IsReady number plain woven class × (limits ≡ demo_limits)
IsDemoReady number (ready.Resume stopped) = ⊥

-- the main class of that name, with the program, its woven form and the limits as they are
pub record IsMainOf (program : WovenProgram) (name : List ℕ) (limits : Limits) (set : Setting) (woven : Woven) : Type 0 where
  pub is : set ≡ setting_of program.plain set.main limits
  pub is_woven : woven ≡ program.woven
  pub named : class_named program.plain name ≡ Some set.main
  pub fit : is_fit_main program.plain set.main ≡ true

-- the line that says that there is none
abbrev pub IsWithoutMain : List ℕ → Ready → Type 0
IsWithoutMain name (ready.Reply reply) = (reply.status ≡ 1) × ((reply.files.items ≡ []) × (reply.text.items ≡ named_line name))
IsWithoutMain name (ready.Run plain woven class l) = ⊥
IsWithoutMain name (ready.Resume stopped) = ⊥

abbrev pub IsReadyOf : WovenProgram → List ℕ → Limits → Ready → Type 0
IsReadyOf program name limits (ready.Reply reply) = (reply.status ≡ 1) × ((reply.files.items ≡ []) × IsNoMain program.plain name reply.text.items)
IsReadyOf program name limits (ready.Run plain woven class l) = IsMainOf program name limits (setting_of plain class l) woven
IsReadyOf program name limits (ready.Resume stopped) = ⊥
