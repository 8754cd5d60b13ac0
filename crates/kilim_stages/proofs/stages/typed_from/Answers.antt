use Rattle.std.proofs.Common.{inl}
use Rattle.kilim_stages.proofs.Parts.{refused, type_line, typed_from}
use Rattle.kilim_stages.proofs.stages.typed_from.Goals as goal

pub returns-in-Ok-clause-typed : goal.returns-in-Ok-clause-typed
returns-in-Ok-clause-typed c = typed_from c.args.classes.now c.in-Ok.program c.typed.result c.in-Ok.ensures.program c.typed.ensures.typed

pub returns-in-Ok-clause-report : goal.returns-in-Ok-clause-report
returns-in-Ok-clause-report c = type_line c.args.classes.now c.in-Ok.program c.typed.result c.in-Ok.ensures.program c.typed.ensures.report

pub returns-in-Err-clause-report : goal.returns-in-Err-clause-report
returns-in-Err-clause-report c = refused c.in-Err.refusal (λ text link. inl link) c.in-Err.ensures.report
