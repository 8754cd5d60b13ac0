use Rattle.kilim_class_code.proofs.opcodes.OneInstr.{instr_takes, instr_again}
use Rattle.kilim_class_code.proofs.opcodes.laws.one_spelling.Goals as goal

pub returns : goal.returns
returns c = λ at. record { takes = instr_takes at; again = instr_again at }
