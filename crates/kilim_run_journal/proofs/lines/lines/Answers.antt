use Rattle.std.proofs.Common.{◌∙◌, [], ap, arith}
use Rattle.std.proofs.lemmas.List.{take_all}
use Rattle.kilim_run_journal.specs.Text.{entry_text, journal_text}
use Rattle.kilim_run_journal.proofs.Pushed.{text_more}
use Rattle.kilim_run_journal.proofs.lines.lines.Goals as goal

pub loop-entry-preserved : goal.loop-entry-preserved
loop-entry-preserved c = text_more entry_text c.args.entries.now c.loop-entry.entry-index c.entry-item.result c.entry-item.result [] c.loop-entry.out.items c.push_entry.new.out.items c.loop-entry-test.true c.entry-item.is c.loop-entry.invariant c.in-Ok.ensures

pub returns : goal.returns
returns c = c.loop-entry.invariant ∙ ap journal_text (take_all c.loop-entry.entry-index c.args.entries.now (omega arith))
