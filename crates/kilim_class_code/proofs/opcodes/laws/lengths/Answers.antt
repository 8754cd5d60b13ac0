use Rattle.kilim_class_code.proofs.opcodes.InstrLengths as of
use Rattle.kilim_class_code.proofs.opcodes.laws.lengths.Goals as goal

pub returns : goal.returns
returns c = of.lengths
