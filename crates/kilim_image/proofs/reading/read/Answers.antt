use Rattle.std.proofs.Common.{arith}
use Rattle.kilim_image.proofs.Whole.{found, only_memory, same_deeds, same_run, says_of, says_of_journal}
use Rattle.kilim_image.proofs.reading.read.Goals as goal

pub returns-in-Ok-deeds_in-clause-found : goal.returns-in-Ok-deeds_in-clause-found
returns-in-Ok-deeds_in-clause-found c =
    found c.images_are_spelled.ensures c.args.bytes.now (c.in-Ok.run', c.in-Ok.text.now) c.in-Ok-deeds_in.journal.items (λ i. omega (arith, c.type_inv.bytes i)) c.in-Ok.ensures c.in-Ok-deeds_in.ensures.found

pub returns-in-Ok-deeds_in-clause-only : goal.returns-in-Ok-deeds_in-clause-only
returns-in-Ok-deeds_in-clause-only c = λ run journal fits is. (
  same_run c.images_are_spelled.ensures c.args.bytes.now (c.in-Ok.run', c.in-Ok.text.now) run journal c.in-Ok.ensures fits is,
  c.in-Ok-deeds_in.ensures.only journal (same_deeds c.images_are_spelled.ensures c.args.bytes.now (c.in-Ok.run', c.in-Ok.text.now) run journal c.in-Ok.ensures fits is),
)

pub returns-in-Err-deeds_in-clause-only : goal.returns-in-Err-deeds_in-clause-only
returns-in-Err-deeds_in-clause-only c = λ run journal fits is.
    c.in-Err-deeds_in.ensures.only journal (same_deeds c.images_are_spelled.ensures c.args.bytes.now (c.in-Ok.run', c.in-Ok.text.now) run journal c.in-Ok.ensures fits is)

pub returns-in-Err-deeds_in-clause-says : goal.returns-in-Err-deeds_in-clause-says
returns-in-Err-deeds_in-clause-says c = says_of_journal c.args.bytes.now (c.in-Ok.run', c.in-Ok.text.now) c.in-Err-deeds_in.fault c.in-Ok.ensures c.in-Err-deeds_in.ensures.fault

pub returns-in-Err-clause-only : goal.returns-in-Err-clause-only
returns-in-Err-clause-only c = λ run journal fits is. only_memory c.images_are_spelled.ensures c.args.bytes.now c.in-Err.fault run journal c.in-Err.ensures fits is

pub returns-in-Err-clause-says : goal.returns-in-Err-clause-says
returns-in-Err-clause-says c = says_of c.args.bytes.now c.in-Err.fault c.in-Err.ensures
