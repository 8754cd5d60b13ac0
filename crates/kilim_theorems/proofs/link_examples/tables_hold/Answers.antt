use Rattle.kilim_theorems.proofs.link_examples.TableFiles.{tables_hold}
use Rattle.kilim_theorems.proofs.link_examples.tables_hold.Goals as goal

pub returns : goal.returns
returns c = tables_hold
