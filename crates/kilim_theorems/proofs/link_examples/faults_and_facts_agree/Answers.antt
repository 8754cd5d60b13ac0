use Rattle.kilim_theorems.proofs.link_examples.Agreeing as agreeing
use Rattle.kilim_theorems.proofs.link_examples.faults_and_facts_agree.Goals as goal

pub returns : goal.returns
returns c = agreeing.faults_and_facts_agree
