-- What going on from a journal comes to.
use Rattle.std.specs.Prelude.{List}
use Rattle.kilim_run_journal.specs.declared.entry.Entry.{Entry}
use Rattle.kilim_run_model.specs.State.{Setting}
use Rattle.kilim_run_board.specs.Seen.{MovedWhole}
use Rattle.kilim_run_workers.specs.Given.{BeginsWith}
use Rattle.kilim_run_follow.specs.Follow.{CanCome, DiffersAt}
use Rattle.kilim_run_follow.specs.declared.resuming.Resumed.{Resumed}
use Rattle.kilim_run_follow.specs.declared.resuming.Resumed.TheVariants as resumed

-- a whole run that begins with the given entries, which lead to a state, or the line of their first one that can't come, in each of these settings
abbrev pub WentOn : (Setting → Type 0) → List Entry → Resumed → Type 0
WentOn Of given (resumed.Journal es) = ((set : Setting) → Of set → MovedWhole set es.items × CanCome set given) × BeginsWith given es.items
WentOn Of given (resumed.Differs n) = (set : Setting) → Of set → DiffersAt set given n
