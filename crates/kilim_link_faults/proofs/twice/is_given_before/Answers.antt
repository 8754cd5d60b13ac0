use Rattle.kilim_link_faults.proofs.Earlier.{outline_is}
use Rattle.kilim_link_faults.proofs.twice.is_given_before.Goals as goal

pub is_earlier-requires : goal.is_earlier-requires
is_earlier-requires c = record { outlined = outline_is c.args.world.now c.args.files.now c.requires.whole }
