use Rattle.std.proofs.Common.{Some, ap, ◌∙◌}
use Rattle.kilim_fiber_steps.specs.declared.records.natives.natives.Native.{Native}
use Rattle.kilim_fiber_steps.specs.declared.records.natives.natives.Native.TheVariants.{OfFiber}
use Rattle.kilim_fiber_steps.proofs.runs.member_at.Goals as goal

pub returns-in-Some-OfFiber : goal.returns-in-Some-OfFiber
returns-in-Some-OfFiber c = c.requires c.args.method.0 (OfFiber c.in-Some-OfFiber.member) (c.in-Some-OfFiber.ensures ∙ ap (λ (n : Native). Some (Some n)) c.in-Some-OfFiber.field-0-is)
