use Rattle.std.proofs.Common.{map, ◌∙◌}
use Rattle.std.specs.String.{string_bytes}
use Rattle.kilim_image_command.proofs.Saves.{can_serve, large_files, not_started, saved_files}
use Rattle.kilim_image_command.proofs.saving.save_files.Goals as goal

pub returns-in-Ok-run_of-clause-saved : goal.returns-in-Ok-run_of-clause-saved
returns-in-Ok-run_of-clause-saved g c =
    saved_files (map string_bytes c.args.names.now) c.args.main.now c.args.start.now.limits c.args.entries c.args.files.now c.as_slice.result.now (c.as_slice.ensures.value ∙ c.requires.named) c.in-Ok.started c.in-Ok-run_of.run' c.in-Ok.ensures.started c.in-Ok-run_of.ensures.run c.save_run.result c.save_run.ensures.saved

pub returns-in-Ok-run_of-clause-report : goal.returns-in-Ok-run_of-clause-report
returns-in-Ok-run_of-clause-report g c =
    large_files (map string_bytes c.args.names.now) c.args.main.now c.args.start.now.limits c.args.entries c.args.files.now c.as_slice.result.now (c.as_slice.ensures.value ∙ c.requires.named) c.in-Ok.started c.in-Ok-run_of.run' c.in-Ok.ensures.started c.in-Ok-run_of.ensures.run c.save_run.result c.save_run.ensures.report

pub save_run-requires-clause-served : goal.save_run-requires-clause-served
save_run-requires-clause-served g c κs within = can_serve c.woven_is_served.ensures c.as_slice.result.now c.args.files.now c.in-Ok.started c.args.start.now.limits c.requires.few c.in-Ok.ensures.started
