use Rattle.kilim_top.proofs.Demos.{demo_refused}
use Rattle.kilim_top.proofs.demo.Served.{ready_with}
use Rattle.kilim_top.proofs.demo.prepared.demo_ready.Goals as goal

pub returns-in-Ok-Some : goal.returns-in-Ok-Some
returns-in-Ok-Some c = (
  ready_with c.woven_is_served.ensures c.demo_fits.ensures.short c.args.number c.in-Ok.program c.in-Ok-Some.found c.in-Ok-Some.main _ c.in-Ok-Some.field-0-is c.in-Ok.ensures.woven c.in-Ok-Some.ensures,
  c.limits.ensures,
)

pub returns-in-Err : goal.returns-in-Err
returns-in-Err c = demo_refused c.args.number c.in-Err.refusal c.refused.result c.in-Err.ensures.report c.refused.ensures
