use Rattle.kilim_class_code.proofs.Codes as codes
use Rattle.kilim_class_code.proofs.laws.one_code.Goals as goal

pub returns : goal.returns
returns c = codes.one_code c.one_spelling.ensures
