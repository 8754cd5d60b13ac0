use Rattle.std.proofs.Common.{inr, map}
use Rattle.std.specs.String.{string_bytes}
use Rattle.kilim_stages.proofs.Parts.{refused, reported}
use Rattle.kilim_weave_file_command.proofs.woven_files.Handed.{woven_report}
use Rattle.kilim_weave_file_command.proofs.woven_files.stage.woven_files.Goals as goal

pub returns-in-Ok-clause-report : goal.returns-in-Ok-clause-report
returns-in-Ok-clause-report c = reported c.files_of-outputs.result (λ text size. inr (inr size)) c.files_of-outputs.ensures.report

pub returns-in-Err-clause-report : goal.returns-in-Err-clause-report
returns-in-Err-clause-report c = refused c.in-Err.refusal (woven_report (map string_bytes c.args.names.now) c.args.files.now) c.in-Err.ensures.report
