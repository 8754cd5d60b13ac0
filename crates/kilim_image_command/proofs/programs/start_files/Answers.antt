use Rattle.std.proofs.Common.{map}
use Rattle.std.specs.String.{string_bytes}
use Rattle.kilim_image_command.proofs.Starts.{not_woven, started_of, without_class}
use Rattle.kilim_image_command.proofs.programs.start_files.Goals as goal

pub returns-in-Ok-clause-started : goal.returns-in-Ok-clause-started
returns-in-Ok-clause-started c = started_of (map string_bytes c.args.names.now) c.args.name.now c.args.files.now c.in-Ok.program c.with_class.result c.in-Ok.ensures.woven c.with_class.ensures.class

pub returns-in-Ok-clause-report : goal.returns-in-Ok-clause-report
returns-in-Ok-clause-report c = without_class (map string_bytes c.args.names.now) c.args.name.now c.args.files.now c.in-Ok.program c.with_class.result c.in-Ok.ensures.woven c.with_class.ensures.report

pub returns-in-Err-clause-report : goal.returns-in-Err-clause-report
returns-in-Err-clause-report c = not_woven (map string_bytes c.args.names.now) c.args.name.now c.args.files.now c.in-Err.refusal c.in-Err.ensures.report
