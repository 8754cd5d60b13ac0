use Rattle.kilim_theorems.proofs.woven_files.Instrs.{code_back}
use Rattle.kilim_theorems.proofs.woven_files.code_is_read_back.Goals as goal

pub returns : goal.returns
returns c = λ w u v agree old pool same texts at code marks rs h. code_back w u v agree old pool same texts at code marks rs h
