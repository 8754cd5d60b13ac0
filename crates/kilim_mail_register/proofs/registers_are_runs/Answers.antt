use Rattle.kilim_mail_register.proofs.Registers as registers
use Rattle.kilim_mail_register.proofs.registers_are_runs.Goals as goal

pub returns : goal.returns
returns c = registers.registers_are_runs
