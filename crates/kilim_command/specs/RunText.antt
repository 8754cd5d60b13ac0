-- What is written of a run.
use Rattle.std.specs.Prelude.{ℕ, List, Option, Some, None}
use Rattle.kilim_run_journal.specs.declared.entry.Entry.{Entry}
use Rattle.kilim_run_journal.specs.Text.{journal_text}
use Rattle.kilim_command.specs.grammar.Words.{Request, Check, Weave, Run, Replay, Save, Resume, Demo}
use Rattle.kilim_command.specs.DemoLine.{demo_line}

-- the number of the demo, where one is asked for
abbrev pub demo_number : Request → Option ℕ
demo_number (Check names) = None
demo_number (Weave to names) = None
demo_number (Run main workers steps args names) = None
demo_number (Replay main journal steps args names) = None
demo_number (Save main image entries steps args names) = None
demo_number (Resume image workers) = None
demo_number (Demo number workers) = Some number

-- what is written of a run: its journal, or the line of the demo of a number
abbrev pub run_text : Option ℕ → List Entry → List ℕ
run_text None journal = journal_text journal
run_text (Some number) journal = demo_line number journal
