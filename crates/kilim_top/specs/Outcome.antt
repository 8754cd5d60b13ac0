-- What the top call promises: what each status says of what was read, and of what was written. From `Promises` it is three
-- steps to what a whole run is: `WroteText`, `IsWholeRun`, and `Whole` of kilim_run_model.
use Rattle.std.specs.Prelude.{◌≡◌, ℕ, Bool, true, ◌&&◌, nat_le, nat_lt, slice_get, List, [], ◌∷◌, ◌++◌, take, drop, map, length, Option, Some, None, Contains, ◌≤◌, ◌↔◌, ◌⊎◌}
use Rattle.std.specs.List.{filter}
use Rattle.kilim_program.specs.Program.{Program}
use Rattle.kilim_program.specs.declared.class.Handler.{Handler}
use Rattle.kilim_program.specs.declared.class.Method.{Method}
use Rattle.kilim_program.specs.declared.instr.Instr.{Instr}
use Rattle.kilim_program.specs.declared.names.ClassId.{ClassId}
use Rattle.kilim_program.specs.declared.names.MethodId.{MethodId}
use Rattle.kilim_program.specs.Names.{class_named, method_at}
use Rattle.kilim_run_journal.specs.declared.entry.Entry.{Entry}
use Rattle.kilim_run_journal.specs.Text.{journal_text}
use Rattle.kilim_run_journal.specs.Readable.{IsReadable, JournalFits}
use Rattle.kilim_outside.specs.declared.folder.FailedCall.{FailedCall}
use Rattle.kilim_outside.specs.declared.folder.FailedCall.TheVariants.{Read, Write}
use Rattle.kilim_outside.specs.Files.{Files, content_of, file_limit}
use Rattle.kilim_outside.specs.Causes.{Appended, Rose}
use Rattle.kilim_run_state.specs.declared.run.Limits.{Limits}
use Rattle.kilim_run_state.specs.Machine.{stands_behind}
use Rattle.kilim_program.specs.Members.{is_fit_main}
use Rattle.kilim_run_model.specs.Reach.{Liveness, PlaysIsolated}
use Rattle.kilim_run_model.specs.Runs.{Whole}
use Rattle.kilim_run_model.specs.State.{Setting}
use Rattle.kilim_type_spec.specs.Typed.{Live, has_code}
use Rattle.kilim_command.specs.grammar.Words.{Request, Check, Weave, Run, Replay, Save, Resume, Demo, files_read}
use Rattle.kilim_outside.specs.written.OutputFile.{OutputFile}
use Rattle.kilim_outside.specs.written.Written.{HasFailed, StoppedAtFile, WroteFiles}
use Rattle.kilim_weave_file_command.specs.Weaving.{IsWeavable, IsWeaving}
use Rattle.kilim_weave.specs.Faults.{weave_fault}
use Rattle.kilim_weave.specs.declared.weaving.Woven.{Woven}
use Rattle.kilim_fiber_laws.specs.woven_served.Served.{ServesRun}
use Rattle.kilim_weave_file_command.specs.woven_files.Reports.{IsWeaveReport}
use Rattle.kilim_stages.specs.woven_stage.Reports.{IsMethodReport}
use Rattle.kilim_replay_command.specs.Replay.{IsReplayReport, IsReplayed, IsWholeJournal}
use Rattle.kilim_image_command.specs.Programs.{IsStart, IsStartReport}
use Rattle.kilim_image_command.specs.Saving.{CanBeSaved, IsSaveReport, IsSavedRun, IsTooLarge}
use Rattle.kilim_image_command.specs.Resuming.{CanGoOn, IsResumeReport, IsResumedRun}
use Rattle.kilim_top.specs.demo.Demo.{demo_texts, IsDemoLine, IsDemoReport}
use Rattle.kilim_stages.specs.Accepted.{IsAcceptedOf}
use Rattle.kilim_stages.specs.Reports.{IsStageReport}
use Rattle.kilim_command.specs.declared.status.TheConstants.{DONE, REPORTED, USAGE, UNREAD, UNWRITTEN, NO_MEMORY}
use Rattle.kilim_command.specs.Reads.{WereRead}
use Rattle.kilim_command.specs.Report.{utf16_of, main_line, accepted_line}
use Rattle.kilim_command.specs.Words.{limits_of}
use Rattle.kilim_command.specs.Writing.{AppendedFront}

-- what is run
abbrev pub run_of : Program → ClassId → Limits → Setting
run_of program main limits = record { program = program; main = main; limits = limits }

-- what is taken for live is: some path reads the local before it is written
abbrev pub TopLive : Program → (MethodId → ℕ → ℕ → Bool) → Type 0
TopLive program table = (id : MethodId) (m : Method) (at k : ℕ) → method_at program id ≡ Some m → table id at k ≡ true → Live m k at

-- it is live at a handler whose range has the call behind which the place stands
abbrev pub IsLiveAtHandler : Method → (k place : ℕ) → Type 0
IsLiveAtHandler m k place =
    (call : ℕ × Instr) × (h : Handler) × (stands_behind m.code m.code_length place ≡ Some call) × ((n : ℕ) × (slice_get m.handlers n ≡ Some h)) × ((nat_le h.start call.0 && nat_lt call.0 h.end) ≡ true) × Live m k h.at

-- of a frame that waits behind a call: after the call, or at such a handler
abbrev pub LowerLive : Program → (MethodId → ℕ → ℕ → Bool) → Type 0
LowerLive program table = (id : MethodId) (m : Method) (at k : ℕ) → method_at program id ≡ Some m → table id at k ≡ true → Live m k at ⊎ IsLiveAtHandler m k at

abbrev pub AreLive : Program → Liveness → Type 0
AreLive program live = TopLive program live.top × LowerLive program live.below

-- In no interleaving of the program's threads is an object reached by two of them, by a thread and a place in a queue, or by
-- two places in queues: whatever locals are taken as live, if they are.
abbrev pub IsIsolatedRun : Program → ClassId → Limits → Type 0
IsIsolatedRun program main limits = (live : Liveness) → AreLive program live → PlaysIsolated live (run_of program main limits)

-- Whatever happens to the program's tasks, and wherever they pause: a fiber of the woven program does what its task does.
abbrev pub IsServedRun : Program → Woven → ClassId → Limits → Type 0
IsServedRun program woven main limits = ServesRun (run_of program main limits) woven.program woven.counted

-- ---- the text of the work that was done

-- The text is that of the journal of a whole run. The class files link to an accepted program, each of whose methods can be woven;
-- its class of that name is fit to be the main class, and is the run's.
pub record IsWholeRun (main : List ℕ) (limits : Limits) (files : List (List ℕ)) (text : List ℕ) : Type 0 where
  pub program : Program
  pub accepted : IsAcceptedOf files program
  pub weavable : weave_fault program ≡ None
  pub class : ClassId
  pub named : class_named program (utf16_of main) ≡ Some class
  pub fit : is_fit_main program class ≡ true
  pub journal : List Entry
  pub whole : Whole (run_of program class limits) journal
  pub isolated : IsIsolatedRun program class limits
  pub readable : IsReadable journal
  pub fits : JournalFits journal
  pub is_text : text ≡ journal_text journal

-- The run can be made: no stage has a fault. The class files link to an accepted program, each of whose methods can be woven, and
-- its class of that name is fit to be the main class.
pub record IsFitRun (main : List ℕ) (files : List (List ℕ)) : Type 0 where
  pub program : Program
  pub accepted : IsAcceptedOf files program
  pub weavable : weave_fault program ≡ None
  pub class : ClassId
  pub named : class_named program (utf16_of main) ≡ Some class
  pub fit : is_fit_main program class ≡ true

-- how many of a program's methods have code
abbrev pub coded_methods : Program → ℕ
coded_methods p = length (filter has_code p.methods)

-- the class files link to an accepted program, none of whose runs shares an object, and this is its line
pub record IsCheck (files : List (List ℕ)) (text : List ℕ) : Type 0 where
  pub program : Program
  pub accepted : IsAcceptedOf files program
  pub isolated : (class : ClassId) → is_fit_main program class ≡ true → (limits : Limits) → IsIsolatedRun program class limits
  pub is_text : text ≡ accepted_line (length files) (coded_methods program)

-- The class files link to an accepted program, and these are their woven files, below that directory, and their lines. In each of
-- its runs no object is shared, and fibers of the woven program, which is that of the woven files, do what its threads do.
pub record IsWeave (to : List ℕ) (files : List (List ℕ)) (made : List OutputFile) (text : List ℕ) : Type 0 where
  pub weaving : IsWeaving to files made text
  pub isolated : (class : ClassId) → is_fit_main weaving.are_woven.program class ≡ true → (limits : Limits) → IsIsolatedRun weaving.are_woven.program class limits
  pub serves : (class : ClassId) → is_fit_main weaving.are_woven.program class ≡ true → (limits : Limits) → IsServedRun weaving.are_woven.program weaving.are_woven.woven class limits

-- of what is read to replay a journal: the class files, as many as there are names, and the journal's text behind them
abbrev pub class_texts : (names files : List (List ℕ)) → List (List ℕ)
class_texts names files = take (length names) files

abbrev pub first_text : List (List ℕ) → List ℕ
first_text [] = []
first_text (text ∷ texts) = text

abbrev pub text_behind : (names files : List (List ℕ)) → List ℕ
text_behind names files = first_text (drop (length names) files)

-- ---- a run that is stopped, and goes on

-- a file of that name, with these bytes
abbrev pub file_of : (path bytes : List ℕ) → OutputFile
file_of path bytes = record { path = path; bytes = bytes }

-- The one file that is made is the image of a run that was stopped, and the text is that of its journal so far. None of the program's runs
-- shares an object.
pub record IsSave (main image : List ℕ) (limits : Limits) (few : ℕ) (files : List (List ℕ)) (made : List OutputFile) (text : List ℕ) : Type 0 where
  pub bytes : List ℕ
  pub made_is : made ≡ file_of image bytes ∷ []
  pub saved : IsSavedRun main limits few files bytes text
  pub isolated : IsIsolatedRun saved.here.program saved.here.class limits

-- With the entries of the image before it, the text is that of the journal of a whole run of the image's program, none of whose runs shares an
-- object.
pub record IsResume (bytes text : List ℕ) : Type 0 where
  pub resumed : IsResumedRun bytes text
  pub isolated : IsIsolatedRun resumed.can.image.program resumed.can.image.class (limits_of resumed.can.image.run.steps resumed.can.image.run.args)

-- the work that is asked for can be done with these files
abbrev pub IsFitFor : Request → List (List ℕ) → Type 0
IsFitFor (Check names) files = (program : Program) × IsAcceptedOf files program
IsFitFor (Weave to names) files = IsWeavable files
IsFitFor (Run main workers steps args names) files = IsFitRun main files
IsFitFor (Replay main journal steps args names) files = IsWholeJournal (utf16_of main) (limits_of steps args) (class_texts names files) (text_behind names files)
IsFitFor (Save main image entries steps args names) files = CanBeSaved main (limits_of steps args) entries files
IsFitFor (Resume image workers) files = CanGoOn (first_text files)
IsFitFor (Demo number workers) files = (program : Program) × IsAcceptedOf (demo_texts number) program × (weave_fault program ≡ None)

-- what is written where it was done: the files that are made, and then a text
abbrev pub IsDone : Request → List (List ℕ) → List OutputFile → List ℕ → Type 0
IsDone (Check names) files made text = (made ≡ []) × IsCheck files text
IsDone (Weave to names) files made text = IsWeave to files made text
IsDone (Run main workers steps args names) files made text = (made ≡ []) × IsWholeRun main (limits_of steps args) files text
IsDone (Replay main journal steps args names) files made text = (made ≡ []) × IsReplayed (utf16_of main) (limits_of steps args) (class_texts names files) (text_behind names files) text
IsDone (Save main image entries steps args names) files made text = IsSave main image (limits_of steps args) entries files made text
IsDone (Resume image workers) files made text = (made ≡ []) × IsResume (first_text files) text
IsDone (Demo number workers) files made text = (made ≡ []) × IsDemoLine number text

-- ---- reports: lines with their line feeds

-- the program is accepted, each of its methods can be woven, and it has no class of that name that is fit to be the main class
pub record IsMainReport (main : List ℕ) (files : List (List ℕ)) (text : List ℕ) : Type 0 where
  pub program : Program
  pub accepted : IsAcceptedOf files program
  pub weavable : weave_fault program ≡ None
  pub none : (class : ClassId) → class_named program (utf16_of main) ≡ Some class → is_fit_main program class ≡ true → ⊥
  pub is_text : text ≡ main_line main

-- the report of the first stage that has a fault; of a run that is saved also that its image is too large
abbrev pub IsReport : Request → List (List ℕ) → List ℕ → Type 0
IsReport (Check names) files text = IsStageReport names files text
IsReport (Weave to names) files text = IsWeaveReport names files text
IsReport (Run main workers steps args names) files text = IsStageReport names files text ⊎ (IsMethodReport files text ⊎ IsMainReport main files text)
IsReport (Replay main journal steps args names) files text = IsReplayReport names (utf16_of main) (limits_of steps args) (class_texts names files) (text_behind names files) text
IsReport (Save main image entries steps args names) files text = IsSaveReport names main (limits_of steps args) entries files text
IsReport (Resume image workers) files text = IsResumeReport (first_text files) text
IsReport (Demo number workers) files text = IsDemoReport number text

-- A stage has a fault, and this is its report. That an image is too large is none: it goes by where the run was stopped.
abbrev pub IsStageFault : Request → List (List ℕ) → List ℕ → Type 0
IsStageFault (Save main image entries steps args names) files text = IsStartReport names (utf16_of main) files text
IsStageFault work files text = IsReport work files text

-- the run that is to be saved can be begun: no stage has a fault
abbrev pub IsBegun : Request → List (List ℕ) → Type 0
IsBegun (Save main image entries steps args names) files = (program : Program) × (class : ClassId) × IsStart (utf16_of main) files program class
IsBegun work files = ⊥

-- the line that the image of a run is too large
abbrev pub IsLarge : Request → List (List ℕ) → List ℕ → Type 0
IsLarge (Save main image entries steps args names) files text = IsTooLarge main (limits_of steps args) entries files text
IsLarge work files text = ⊥

-- ---- the outside

-- What the outside shows: what the files hold and which calls on them failed, what came to the sink and how often it
-- failed.
pub record Outside : Type 0 where
  pub contents : Option Files
  pub failed : List FailedCall
  pub written : Option (List ℕ)
  pub faults : ℕ

abbrev pub shown : Option Files → List FailedCall → Option (List ℕ) → ℕ → Outside
shown contents failed written faults = record { contents = contents; failed = failed; written = written; faults = faults }

-- ---- what was written

-- what the work makes of the files that the words name: its files, and then its text
pub record WroteText (request : Option Request) (old new : Outside) : Type 0 where
  pub work : Request
  pub asked : request ≡ Some work
  pub files : List (List ℕ)
  pub were_read : WereRead old.contents (files_read work) files
  pub made : List OutputFile
  pub text : List ℕ
  pub done : IsDone work files made text
  pub were_made : WroteFiles made old.contents new.contents
  pub written : Appended old.written new.written text

-- the report of the first stage that has a fault
pub record WroteReport (request : Option Request) (old new : Outside) : Type 0 where
  pub work : Request
  pub asked : request ≡ Some work
  pub files : List (List ℕ)
  pub were_read : WereRead old.contents (files_read work) files
  pub text : List ℕ
  pub report : IsReport work files text
  pub written : Appended old.written new.written text

-- the line that the image of a run is too large
pub record WroteLarge (request : Option Request) (old new : Outside) : Type 0 where
  pub work : Request
  pub asked : request ≡ Some work
  pub files : List (List ℕ)
  pub were_read : WereRead old.contents (files_read work) files
  pub text : List ℕ
  pub large : IsLarge work files text
  pub written : Appended old.written new.written text

-- the files up to one, which is open, and nothing of the text
pub record WroteSomeFiles (made : List OutputFile) (old new : Outside) : Type 0 where
  pub stopped : StoppedAtFile made old.contents new.contents old.failed new.failed
  pub written : new.written ≡ old.written
  pub faults : new.faults ≡ old.faults

-- all files, and then a front of the text
pub record WroteSomeText (made : List OutputFile) (text : List ℕ) (old new : Outside) : Type 0 where
  pub were_made : WroteFiles made old.contents new.contents
  pub failed : new.failed ≡ old.failed
  pub written : AppendedFront old.written new.written text

-- what comes to be written: what the work makes, or a report, which has no files
abbrev pub IsToWrite : Request → List (List ℕ) → List OutputFile → List ℕ → Type 0
IsToWrite work files made text = IsDone work files made text ⊎ ((made ≡ []) × IsReport work files text)

-- how far the writing came
pub data HowFar (made : List OutputFile) (text : List ℕ) (old new : Outside) : Type 0 where
  InFiles : WroteSomeFiles made old new → HowFar made text old new
  InText : WroteSomeText made text old new → HowFar made text old new

-- a front of it
pub record WroteFront (request : Option Request) (old new : Outside) : Type 0 where
  pub work : Request
  pub asked : request ≡ Some work
  pub files : List (List ℕ)
  pub were_read : WereRead old.contents (files_read work) files
  pub made : List OutputFile
  pub text : List ℕ
  pub to_write : IsToWrite work files made text
  pub how_far : HowFar made text old new

-- why it is no more: that file's write failed, or the sink
abbrev pub IsFault : (made : List OutputFile) (text : List ℕ) (old new : Outside) → HowFar made text old new → Type 0
IsFault made text old new (InFiles some) = HasFailed made old.contents new.contents old.failed new.failed some.stopped
IsFault made text old new (InText some) = Rose old.faults new.faults

-- no file, and no text
abbrev pub WroteNothing : Outside → Outside → Type 0
WroteNothing old new = (new.contents ≡ old.contents) × (new.written ≡ old.written)

-- the words ask for files to be written
abbrev pub AsksForFiles : Option Request → Type 0
AsksForFiles (Some (Weave to names)) = Unit {0}
AsksForFiles (Some (Save main image entries steps args names)) = Unit {0}
AsksForFiles request = ⊥

-- ---- which calls of the folder failed

-- a read of a name that the words give to be read
abbrev pub ReadFailed : Option Request → List FailedCall → List FailedCall → Type 0
ReadFailed None before now = ⊥
ReadFailed (Some request) before now = (name : List ℕ) × Contains (files_read request) name × (now ≡ before ++ Read name ∷ [])

-- a write of a file that is made of the files that were read
pub record WriteFailed (request : Option Request) (old new : Outside) : Type 0 where
  pub work : Request
  pub asked : request ≡ Some work
  pub files : List (List ℕ)
  pub were_read : WereRead old.contents (files_read work) files
  pub made : List OutputFile
  pub text : List ℕ
  pub done : IsDone work files made text
  pub file : OutputFile
  pub is : Contains made file
  pub failed : new.failed ≡ old.failed ++ Write file.path ∷ []

-- No call of the folder failed but these. The call is the same for every folder, and in some folder every call
-- fails: so no other name was read or written in any.
abbrev pub FailedAtMost : Option Request → Outside → Outside → Type 0
FailedAtMost request old new = (new.failed ≡ old.failed) ⊎ (ReadFailed request old.failed new.failed ⊎ WriteFailed request old new)

-- ---- when the work can be done

-- what is read of the files with these names
abbrev pub read_of : Files → List (List ℕ) → List (List ℕ)
read_of held names = map (λ name. take file_limit (content_of held name)) names

-- The words are in the grammar, and the work can be done. This speaks of a folder that tells what it holds; of the demo, which reads no
-- file, it speaks over every folder.
abbrev pub IsFit : Option Files → Option Request → Type 0
IsFit contents (Some (Demo number workers)) = IsFitFor (Demo number workers) []
IsFit (Some held) (Some work) = IsFitFor work (read_of held (files_read work))
IsFit contents request = ⊥

-- A stage has a fault, of a folder that tells what it holds, and of the demo over every folder.
abbrev pub HasReport : Option Files → Option Request → Type 0
HasReport contents (Some (Demo number workers)) = (text : List ℕ) × IsReport (Demo number workers) [] text
HasReport (Some held) (Some work) = (text : List ℕ) × IsStageFault work (read_of held (files_read work)) text
HasReport contents request = ⊥

-- the run that is to be saved can be begun, with the files of a folder that tells what it holds
abbrev pub CanBegin : Option Files → Option Request → Type 0
CanBegin (Some held) (Some work) = IsBegun work (read_of held (files_read work))
CanBegin contents request = ⊥

-- ---- the promises of the top call

-- What a status says, of what the words ask for, and of the outside before and after.
pub record Promises (request : Option Request) (old new : Outside) (status : ℕ) : Type 0 where
  pub known : status ≤ NO_MEMORY
  -- where the words aren't in the grammar, and only there
  pub usage : (status ≡ USAGE) ↔ (request ≡ None)
  -- what was written: the journal of a whole run, or that the files are accepted, or woven files and their lines; or the report of
  -- a stage
  pub whole : status ≡ DONE → WroteText request old new
  pub report : status ≡ REPORTED → WroteReport request old new
  -- only where a file that the words name can't be read
  pub only_unread : status ≡ UNREAD → ReadFailed request old.failed new.failed
  pub nothing : (status ≡ USAGE) ⊎ (status ≡ UNREAD) → new.written ≡ old.written
  -- only where the sink failed, or the write of a file that is made
  pub only_unwritten : status ≡ UNWRITTEN → (front : WroteFront request old new) × IsFault front.made front.text old new front.how_far
  pub memory : status ≡ NO_MEMORY → WroteNothing old new ⊎ WroteFront request old new
  -- no fault of the outside is passed over: the first one ends the work
  pub sink_is_quiet : (status ≡ DONE) ⊎ (status ≡ REPORTED) → new.faults ≡ old.faults
  pub folder_is_quiet : (status ≡ DONE) ⊎ (status ≡ REPORTED) → new.failed ≡ old.failed
  -- no file changes where the words ask for none to be written, or one of these statuses is answered
  pub contents : (AsksForFiles request → ⊥) ⊎ ((status ≡ REPORTED) ⊎ ((status ≡ USAGE) ⊎ (status ≡ UNREAD))) → new.contents ≡ old.contents
  -- no name is read but those that the words give, and none is written but those of the files that are made
  pub calls : FailedAtMost request old new
  -- The work is done, or memory is short, where it can be done and nothing outside fails. So it is with the report of a
  -- stage that has a fault.
  pub complete : IsFit old.contents request → new.failed ≡ old.failed → (Rose old.faults new.faults → ⊥) → (status ≡ DONE) ⊎ (status ≡ NO_MEMORY)
  pub reported : HasReport old.contents request → new.failed ≡ old.failed → (Rose old.faults new.faults → ⊥) → (status ≡ REPORTED) ⊎ (status ≡ NO_MEMORY)
  -- So is a run that is to be saved and can be begun, unless its image is too large.
  pub saved : CanBegin old.contents request → new.failed ≡ old.failed → (Rose old.faults new.faults → ⊥) → ((status ≡ DONE) ⊎ (status ≡ NO_MEMORY)) ⊎ ((status ≡ REPORTED) × WroteLarge request old new)
