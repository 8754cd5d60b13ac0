use Rattle.std.proofs.Common.{subst}
use Rattle.kilim_run_journal.specs.NextEntry.{IsMemory}
use Rattle.kilim_image.proofs.Lines.{are_deeds, is_journal, none_of, one_waits}
use Rattle.kilim_image.proofs.course.deeds_in.Goals as goal
use Rattle.kilim_image.proofs.course.deeds_in.Goals.{in-Ok+else-not-have_waits, in-Err-BadLine}

pub returns-then-not-have_waits-clause-found : goal.returns-then-not-have_waits-clause-found
returns-then-not-have_waits-clause-found c = are_deeds c.args.text.now c.in-Ok.entries.items c.in-Ok.ensures.ok (none_of c.have_waits.result c.as_slice.result.now c.in-Ok.entries.items c.have_waits.ensures c.as_slice.ensures.value c.if-not-have_waits.true)

pub returns-then-not-have_waits-clause-only : goal.returns-then-not-have_waits-clause-only
returns-then-not-have_waits-clause-only c = λ es deeds. c.in-Ok.ensures.whole es (is_journal c.args.text.now es deeds)

pub returns-clause-only : goal.returns-clause-only
returns-clause-only c = λ es deeds. elim c.match-read_text.branch [
  | in-Ok+else-not-have_waits w ↦ absurd (one_waits w.have_waits.result w.as_slice.result.now w.in-Ok.entries.items es w.have_waits.ensures w.as_slice.ensures.value (w.in-Ok.ensures.whole es (is_journal c.args.text.now es deeds)) deeds.each w.if-not-have_waits.false)
  | in-Err-BadLine w ↦ absurd (subst IsMemory w.in-Err-BadLine.field-0-is (w.in-Err-BadLine.ensures.whole es (is_journal c.args.text.now es deeds)))
]
