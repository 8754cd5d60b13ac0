use Rattle.kilim_isolation_laws.proofs.reached_objects.walk.Methods.{every_method_goes}
use Rattle.kilim_isolation_laws.proofs.reached_objects.walk.every_method_goes.Goals as goal

pub returns : goal.returns
returns c = every_method_goes
