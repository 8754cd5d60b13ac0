use Rattle.std.proofs.Common.{◌≡◌, drop}
use Rattle.std.specs.List.{list_any}
use Rattle.kilim_run_journal.specs.declared.entry.Entry.{Entry}
use Rattle.kilim_image.specs.Journal.{is_wait}
use Rattle.kilim_image.proofs.course.have_waits.Given as goal

abbrev pub invariant-loop-entry : goal.invariant-loop-entry
invariant-loop-entry l = list_any (λ (e : Entry). is_wait e.act) (drop l.entry-index l.entries) ≡ list_any (λ (e : Entry). is_wait e.act) l.entries
