use Rattle.kilim_run.specs.Runs.{setting_of}
use Rattle.kilim_image_command.proofs.Saves.{saved_with, size_with}
use Rattle.kilim_image_command.proofs.saving.save_run.Goals as goal

pub returns-clause-saved : goal.returns-clause-saved
returns-clause-saved g c = saved_with (setting_of c.args.started.plain c.args.started.main c.args.limits.now) c.args.entries c.args.run c.in-Ok.journal.items c.image_and_text-answer.result c.in-Ok.ensures c.image_and_text-answer.ensures.saved

pub returns-clause-report : goal.returns-clause-report
returns-clause-report g c = size_with (setting_of c.args.started.plain c.args.started.main c.args.limits.now) c.args.entries c.args.run c.in-Ok.journal.items c.image_and_text-answer.result c.in-Ok.ensures c.image_and_text-answer.ensures.report
