use Rattle.std.proofs.Common.{◌∙◌, ap, subst}
use Rattle.kilim_isolation.specs.IsolatedProgram.{IsolatedProgram}
use Rattle.kilim_weave.specs.Weaves.{IsWoven}
use Rattle.kilim_weave.proofs.weaving.weave.Goals as goal

pub woven_or_fault-requires : goal.woven_or_fault-requires
woven_or_fault-requires c = record { plain = ap (λ (i : IsolatedProgram). i.typed.program.form) c.isolated.view_is ∙ c.requires; accepted = c.isolated.invariant.accepted }

pub returns : goal.returns
returns c = subst (λ (i : IsolatedProgram). IsWoven i.typed.program c.woven_or_fault.result) c.isolated.view_is c.woven_or_fault.ensures
