use Rattle.kilim_theorems.proofs.link_examples.InstructionTable as table
use Rattle.kilim_theorems.proofs.link_examples.instructions_agree.Goals as goal

pub returns : goal.returns
returns c = table.instructions_agree
