use Rattle.std.proofs.Common.{inl, map}
use Rattle.std.specs.String.{string_bytes}
use Rattle.kilim_stages.proofs.Parts.{refused}
use Rattle.kilim_stages.proofs.woven_stage.Handed.{method_reported, woven_files}
use Rattle.kilim_stages.proofs.Plain.{plain_form}
use Rattle.kilim_stages.proofs.woven_stage.stage.woven_program.Goals as goal

pub woven_by-requires : goal.woven_by-requires
woven_by-requires c = plain_form c.linked_in_parts.ensures c.args.files.now c.in-Ok.isolated.typed.program c.in-Ok.ensures.accepted

pub returns-in-Ok-clause-woven : goal.returns-in-Ok-clause-woven
returns-in-Ok-clause-woven c = woven_files c.args.files.now c.in-Ok.isolated.typed.program c.woven_by.result c.in-Ok.ensures.accepted c.woven_by.ensures.woven

pub returns-in-Ok-clause-report : goal.returns-in-Ok-clause-report
returns-in-Ok-clause-report c = method_reported (map string_bytes c.args.names.now) c.args.files.now c.in-Ok.isolated.typed.program c.woven_by.result c.in-Ok.ensures.accepted c.woven_by.ensures.report

pub returns-in-Err-clause-report : goal.returns-in-Err-clause-report
returns-in-Err-clause-report c = refused c.in-Err.refusal (λ text stage. inl stage) c.in-Err.ensures.report
