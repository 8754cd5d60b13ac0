use Rattle.std.proofs.Common.{length, map, refl}
use Rattle.std.specs.String.{string_bytes}
use Rattle.kilim_top.proofs.Checks.{checked}
use Rattle.kilim_top.proofs.Replies.{refused_check}
use Rattle.kilim_top.proofs.answer.check_ready.Goals as goal

pub returns-in-Ok-accepted_line : goal.returns-in-Ok-accepted_line
returns-in-Ok-accepted_line c =
    checked (map string_bytes c.args.names.now) c.args.files.now c.in-Ok.isolated.typed.program (length c.args.files.now) c.coded_methods-methods.result c.new.result.items c.in-Ok-accepted_line.text.items c.accepted_files_are_isolated.ensures c.requires.few
    c.in-Ok.ensures.accepted refl c.coded_methods-methods.ensures c.new.ensures.items c.in-Ok-accepted_line.ensures

pub returns-in-Err : goal.returns-in-Err
returns-in-Err c = refused_check (map string_bytes c.args.names.now) c.args.files.now c.in-Err.refusal c.refused.result c.in-Err.ensures.report c.refused.ensures

pub accepted-requires-clause-same : goal.accepted-requires-clause-same
accepted-requires-clause-same c = c.requires.same
