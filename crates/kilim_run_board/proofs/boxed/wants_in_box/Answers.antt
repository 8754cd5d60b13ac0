use Rattle.std.proofs.Common.{ap, sym, ◌∙◌}
use Rattle.kilim_run_board.specs.declared.fibers.Wants.TheVariants.{Start}
use Rattle.kilim_run_board.proofs.boxed.wants_in_box.Goals as goal

pub returns-in-Put : goal.returns-in-Put
returns-in-Put g c = sym c.in-Put.is

pub returns-in-Take : goal.returns-in-Take
returns-in-Take g c = sym c.in-Take.is

pub returns-in-Probe : goal.returns-in-Probe
returns-in-Probe g c = sym c.in-Probe.is

pub returns-in-Ok : goal.returns-in-Ok
returns-in-Ok g c = ap (λ f. Start f c.in-Start.shape) c.in-Ok.ensures ∙ sym c.in-Start.is

pub returns-in-Print : goal.returns-in-Print
returns-in-Print g c = sym c.in-Print.is

pub returns-in-Rest : goal.returns-in-Rest
returns-in-Rest g c = sym c.in-Rest.is

pub returns-in-End : goal.returns-in-End
returns-in-End g c = sym c.in-End.is
