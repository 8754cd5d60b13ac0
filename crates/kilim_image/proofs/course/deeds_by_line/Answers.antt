use Rattle.std.proofs.Common.{◌≡◌, ◌+◌, ◌⊎◌, subst}
use Rattle.kilim_image.specs.declared.fault.ImageFault.TheVariants as fault
use Rattle.kilim_image.proofs.Lines.{fault_is}
use Rattle.kilim_image.proofs.course.deeds_by_line.Goals as goal

pub returns-in-Ok-None-clause-fault : goal.returns-in-Ok-None-clause-fault
returns-in-Ok-None-clause-fault c =
    fault_is c.args.text.now c.loop-rest.entries c.loop-rest.rest.now c.first_line.result.0.now c.first_line.result.1.now c.bad_line.result c.loop-rest.invariant c.first_line.ensures (rw c.in-Ok-None.field-0-is at c.in-Ok-None.ensures.none)
    (subst (λ k. (c.bad_line.result ≡ fault.Memory) ⊎ (c.bad_line.result ≡ fault.Journal (k + 1))) c.len.ensures c.bad_line.ensures)
