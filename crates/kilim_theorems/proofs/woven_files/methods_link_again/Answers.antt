use Rattle.kilim_theorems.proofs.woven_files.Parts.{method_back}
use Rattle.kilim_theorems.proofs.woven_files.methods_link_again.Goals as goal

pub returns : goal.returns
returns k = λ w u v file woven c at x s. method_back k.decoded_is_decode.ensures w u v file woven c at x s
