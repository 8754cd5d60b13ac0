use Rattle.kilim_class_file.proofs.FaultLaws.{faults_are_true}
use Rattle.kilim_class_file.proofs.reading.faults_are_true.Goals as goal

pub returns : goal.returns
returns c = faults_are_true c.parts_are_spelled.ensures c.pool_is_cut_or_broken.ensures.stays c.attributes_are_cut_or_broken.ensures.stays
