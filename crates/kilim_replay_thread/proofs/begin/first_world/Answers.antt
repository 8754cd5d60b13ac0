use Rattle.kilim_replay_thread.proofs.Beginning.{main_begins}
use Rattle.kilim_replay_thread.proofs.begin.first_world.Goals as goal

pub begun_on-requires : goal.begun_on-requires
begun_on-requires c = main_begins c.args.program.now c.args.main c.constructor_of.result _ c.constructor_of.ensures c.requires
