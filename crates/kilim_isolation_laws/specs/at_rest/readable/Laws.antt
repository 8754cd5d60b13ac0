-- Journals of runs can be read.
use Rattle.std.specs.Prelude.{List, ◌++◌}
use Rattle.kilim_run_journal.specs.declared.entry.Entry.{Entry}
use Rattle.kilim_run_journal.specs.Readable.{IsReadable}
use Rattle.kilim_run_model.specs.State.{Setting}
use Rattle.kilim_run_model.specs.Moving.{Moving, MovedReplay, MovedAtRest}

-- of a run that isn't over
abbrev pub EntriesAreReadable : Type 0
EntriesAreReadable = (set : Setting) (es : List Entry) (v : Moving) → MovedReplay set es v → IsReadable es

abbrev pub RunsAreReadable : Type 0
RunsAreReadable = (set : Setting) (es waits : List Entry) (v : Moving) → MovedReplay set es v → MovedAtRest set v waits → IsReadable (es ++ waits)
