use Rattle.std.proofs.Common.{[], ◌∷◌, subst}
use Rattle.kilim_run_journal.specs.NextEntry.{IsMemory}
use Rattle.kilim_image.proofs.Lines.{deed_none, deed_some, journal_of}
use Rattle.kilim_image.proofs.course.deed_in.Goals as goal

pub returns-in-Ok-clause-some : goal.returns-in-Ok-clause-some
returns-in-Ok-clause-some c = deed_some c.args.line.now c.in-Ok.entries.items c.requires c.in-Ok.ensures.ok c.only_deed.result c.only_deed.ensures.some

pub returns-in-Ok-clause-none : goal.returns-in-Ok-clause-none
returns-in-Ok-clause-none c = deed_none c.texts_differ.ensures c.args.line.now c.in-Ok.entries.items c.requires c.in-Ok.ensures.ok c.only_deed.result c.only_deed.ensures.none

pub returns-in-Err-BadLine-clause-none : goal.returns-in-Err-BadLine-clause-none
returns-in-Err-BadLine-clause-none c = λ deed. subst IsMemory c.in-Err-BadLine.field-0-is (c.in-Err-BadLine.ensures.whole (deed.0 ∷ []) (journal_of c.args.line.now deed.0 deed.1.0 deed.2))
