use Rattle.std.proofs.Common.{ap, sym, ◌∙◌}
use Rattle.kilim_run_board.specs.declared.fibers.Wants.TheVariants.{Start}
use Rattle.kilim_fiber.proofs.named.with_program.Goals as goal

pub returns-in-Put : goal.returns-in-Put
returns-in-Put g c = sym c.in-Put.is

pub returns-in-PutWait : goal.returns-in-PutWait
returns-in-PutWait g c = sym c.in-PutWait.is

pub returns-in-Bound : goal.returns-in-Bound
returns-in-Bound g c = sym c.in-Bound.is

pub returns-in-Take : goal.returns-in-Take
returns-in-Take g c = sym c.in-Take.is

pub returns-in-Probe : goal.returns-in-Probe
returns-in-Probe g c = sym c.in-Probe.is

pub returns-in-Start : goal.returns-in-Start
returns-in-Start g c = ap (λ f. Start f c.in-Start.shape) c.name_program.ensures ∙ sym c.in-Start.is

pub returns-in-Print : goal.returns-in-Print
returns-in-Print g c = sym c.in-Print.is

pub returns-in-Rest : goal.returns-in-Rest
returns-in-Rest g c = sym c.in-Rest.is

pub returns-in-End : goal.returns-in-End
returns-in-End g c = sym c.in-End.is
