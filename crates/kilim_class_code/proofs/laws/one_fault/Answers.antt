use Rattle.kilim_class_code.proofs.Codes as codes
use Rattle.kilim_class_code.proofs.laws.one_fault.Goals as goal

pub returns : goal.returns
returns c = record { one = codes.one_fault c.one_spelling.ensures; apart = codes.no_body c.one_spelling.ensures }
