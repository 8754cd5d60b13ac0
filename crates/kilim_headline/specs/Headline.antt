-- The main sentence, written out anew from the class files, the machine and the journal's text: no record by which the top call tells
-- its promises is named here.
use Rattle.std.specs.Prelude.{◌≡◌, ℕ, ℤ, true, ◌&&◌, nat_le, nat_lt, slice_get, List, ◌++◌, take, map, Option, Some, None, ◌⊎◌}
use Rattle.kilim_program.specs.Program.{Program}
use Rattle.kilim_program.specs.declared.class.Handler.{Handler}
use Rattle.kilim_program.specs.declared.class.Method.{Method}
use Rattle.kilim_program.specs.declared.instr.Instr.{Instr}
use Rattle.kilim_program.specs.declared.names.ClassId.{ClassId}
use Rattle.kilim_program.specs.declared.names.MethodId.{MethodId}
use Rattle.kilim_program.specs.Members.{is_fit_main}
use Rattle.kilim_program.specs.Names.{class_named, method_at}
use Rattle.kilim_type_spec.specs.Typed.{Live}
use Rattle.kilim_run_state.specs.Machine.{stands_behind}
use Rattle.kilim_run_journal.specs.declared.entry.Entry.{Entry}
use Rattle.kilim_run_journal.specs.Text.{journal_text}
use Rattle.kilim_run_model.specs.Reach.{Isolated, Liveness}
use Rattle.kilim_run_model.specs.Runs.{Whole, played}
use Rattle.kilim_run_model.specs.State.{Setting}
use Rattle.kilim_weave.specs.Faults.{weave_fault}
use Rattle.kilim_outside.specs.Files.{Files, content_of, file_limit}
use Rattle.kilim_stages.specs.Accepted.{IsAcceptedOf}
use Rattle.kilim_command.specs.Report.{utf16_of}
use Rattle.kilim_command.specs.grammar.Words.{Request, Run}

-- what the files with these names hold, as far as they are read
abbrev pub texts : Files → List (List ℕ) → List (List ℕ)
texts held names = map (λ name. take file_limit (content_of held name)) names

-- the threads of the program's unwoven methods, with that main class, that limit of instructions and these arguments
abbrev pub setting : Program → ClassId → ℕ → List ℤ → Setting
setting program class steps args = record { program = program; main = class; limits = record { steps = steps; args = args } }

-- Of the top frame a local counts only where some path reads it before it is written. Of a frame that waits behind a call it counts
-- only where some path from there does, or some path from a handler whose range has the call.
abbrev pub CountsLive : Program → Liveness → Type 0
CountsLive program live =
    ((id : MethodId) (m : Method) (at k : ℕ) → method_at program id ≡ Some m → live.top id at k ≡ true → Live m k at) ×
    ((id : MethodId) (m : Method) (at k : ℕ) → method_at program id ≡ Some m → live.below id at k ≡ true → Live m k at ⊎ ((call : ℕ × Instr) × (h : Handler) ×
    (stands_behind m.code m.code_length at ≡ Some call) × ((n : ℕ) × (slice_get m.handlers n ≡ Some h)) × ((nat_le h.start call.0 && nat_lt call.0 h.end) ≡ true) × Live m k h.at))

-- The class files link to an accepted program, and its class of that name is the main class. The text is that of the journal of a whole
-- run: the program's unwoven methods, as threads over one shared heap, do exactly these acts, in this order. And in no interleaving of
-- these threads is an object reached by two of them, or by one and a mailbox, or by two places of mailboxes.
abbrev pub Headline : (main : List ℕ) (steps : ℕ) (args : List ℤ) (files : List (List ℕ)) (text : List ℕ) → Type 0
Headline main steps args files text =
    (program : Program) × (class : ClassId) × (journal : List Entry) × IsAcceptedOf files program × (class_named program (utf16_of main) ≡ Some class) ×
    Whole (setting program class steps args) journal × (text ≡ journal_text journal) ×
    ((live : Liveness) → CountsLive program live → (schedule : List ℕ) → Isolated live (played (setting program class steps args) schedule))

-- where the words ask for a run, and its status is 0
abbrev pub EndsWell : Option Request → Files → (old new : List ℕ) → Option ℕ → Type 0
EndsWell request held old new status =
    (main : List ℕ) (workers steps : ℕ) (args : List ℤ) (names : List (List ℕ)) → request ≡ Some (Run main workers steps args names) → status ≡ Some 0 →
    (text : List ℕ) × (new ≡ old ++ text) × Headline main steps args (texts held names) text

-- Where the words ask for a run with one worker, of class files that link to an accepted program, each of whose methods can be woven and
-- whose class of that name is fit to be the main class, the run is made, or memory is short.
abbrev pub IsMade : Option Request → Files → Option ℕ → Type 0
IsMade request held status =
    (main : List ℕ) (workers steps : ℕ) (args : List ℤ) (names : List (List ℕ)) (program : Program) (class : ClassId) → request ≡ Some (Run main workers steps args names) →
    IsAcceptedOf (texts held names) program → weave_fault program ≡ None → class_named program (utf16_of main) ≡ Some class → is_fit_main program class ≡ true →
    (status ≡ None) ⊎ ((status ≡ Some 0) ⊎ (status ≡ Some 5))
