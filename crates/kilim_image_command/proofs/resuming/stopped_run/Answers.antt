use Rattle.kilim_image_command.proofs.Resumes.{few_files, is_text, not_image, not_parts, stopped_is}
use Rattle.kilim_image_command.proofs.resuming.stopped_run.Goals as goal

pub program_of-requires-clause-few : goal.program_of-requires-clause-few
program_of-requires-clause-few c = few_files c.args.bytes.now c.in-Ok.image.run c.in-Ok.image.journal.items c.in-Ok.ensures.image

pub program_of-requires-clause-text : goal.program_of-requires-clause-text
program_of-requires-clause-text c = is_text c.args.bytes.now c.in-Ok.image.run c.in-Ok.image.journal.items c.in-Ok.ensures.image

pub returns-in-Ok-program_of-clause-stopped : goal.returns-in-Ok-program_of-clause-stopped
returns-in-Ok-program_of-clause-stopped c =
    stopped_is c.woven_is_served.ensures c.args.bytes.now c.in-Ok.image c.in-Ok-program_of.started c.stopped_by.result c.in-Ok.ensures.image (few_files c.args.bytes.now c.in-Ok.image.run c.in-Ok.image.journal.items c.in-Ok.ensures.image)
    c.in-Ok-program_of.ensures.started c.stopped_by.ensures.plain c.stopped_by.ensures.woven c.stopped_by.ensures.main c.stopped_by.ensures.limits c.stopped_by.ensures.journal
