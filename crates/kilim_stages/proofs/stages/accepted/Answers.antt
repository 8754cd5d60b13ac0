use Rattle.std.proofs.Common.{map}
use Rattle.std.specs.String.{string_bytes}
use Rattle.kilim_stages.proofs.Apart.{apart_files}
use Rattle.kilim_stages.proofs.Parts.{accepted_files, refused, rules_reported, stage_report}
use Rattle.kilim_stages.proofs.stages.accepted.Goals as goal

pub returns-in-Ok-clause-accepted : goal.returns-in-Ok-clause-accepted
returns-in-Ok-clause-accepted c = accepted_files c.args.files.now c.in-Ok.typed c.isolated.result c.in-Ok.ensures.typed c.in-Ok.ensures.frames c.isolated.ensures.isolated

pub returns-in-Ok-clause-runs : goal.returns-in-Ok-clause-runs
returns-in-Ok-clause-runs c = apart_files c.accepted_runs_apart.ensures c.args.files.now c.in-Ok.typed c.isolated.result c.requires.few c.open.ensures c.in-Ok.ensures.typed c.in-Ok.ensures.frames c.isolated.ensures.isolated

pub returns-in-Ok-clause-report : goal.returns-in-Ok-clause-report
returns-in-Ok-clause-report c = rules_reported (map string_bytes c.args.names.now) c.args.files.now c.in-Ok.typed c.isolated.result c.in-Ok.ensures.typed c.in-Ok.ensures.frames c.isolated.ensures.report

pub returns-in-Err-clause-report : goal.returns-in-Err-clause-report
returns-in-Err-clause-report c = refused c.in-Err.refusal (λ text report. stage_report (map string_bytes c.args.names.now) c.args.files.now text report) c.in-Err.ensures.report
