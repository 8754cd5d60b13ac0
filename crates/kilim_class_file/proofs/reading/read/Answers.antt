use Rattle.std.proofs.Common.{arith}
use Rattle.kilim_class_file.proofs.FaultLaws.{told}
use Rattle.kilim_class_file.proofs.WholeClass.{found, only}
use Rattle.kilim_class_file.proofs.reading.read.Goals as goal

pub returns-clause-found : goal.returns-clause-found
returns-clause-found c = found c.class_file_is_spelled.ensures c.args.bytes.now c.class_of.result (λ i. omega (arith, c.type_inv.bytes i)) c.class_of.ensures

pub returns-clause-only : goal.returns-clause-only
returns-clause-only c = λ file fits e. only c.class_file_is_spelled.ensures c.args.bytes.now c.class_of.result file c.class_of.ensures fits e

pub returns-clause-says : goal.returns-clause-says
returns-clause-says c = told c.faults_are_true.ensures c.args.bytes.now c.class_of.result (λ i. omega (arith, c.type_inv.bytes i)) c.class_of.ensures
