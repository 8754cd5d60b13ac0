use Rattle.std.proofs.Common.{Some, None}
use Rattle.kilim_link_faults.proofs.Earlier.{first_before}
use Rattle.kilim_link_faults.proofs.twice.is_earlier.Goals as goal

pub returns-in-Some : goal.returns-in-Some
returns-in-Some c = first_before c.args.world.now c.args.name.now c.args.class.0 (Some c.in-Some.first) c.requires.outlined c.in-Some.ensures

pub returns-in-None : goal.returns-in-None
returns-in-None c = first_before c.args.world.now c.args.name.now c.args.class.0 None c.requires.outlined c.in-None.ensures
