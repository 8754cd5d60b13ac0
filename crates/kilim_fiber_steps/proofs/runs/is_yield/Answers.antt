use Rattle.std.proofs.Common.{Some, ap, ◌∙◌}
use Rattle.kilim_fiber_steps.specs.declared.records.natives.natives.Native.{Native}
use Rattle.kilim_fiber_steps.specs.declared.records.natives.natives.Native.TheVariants.{Yield}
use Rattle.kilim_fiber_steps.proofs.runs.is_yield.Goals as goal

pub returns-in-Some-Yield : goal.returns-in-Some-Yield
returns-in-Some-Yield c = λ yes. c.requires c.args.method.0 Yield (c.in-Some-Yield.ensures ∙ ap (λ (n : Native). Some (Some n)) c.in-Some-Yield.field-0-is)
