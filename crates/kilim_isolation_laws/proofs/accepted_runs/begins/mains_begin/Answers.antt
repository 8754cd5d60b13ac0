use Rattle.kilim_isolation_laws.proofs.accepted_runs.begins.Main.{main_begins}
use Rattle.kilim_isolation_laws.proofs.accepted_runs.begins.mains_begin.Goals as goal

pub returns : goal.returns
returns c = λ files form p links main. main_begins p (c.receivers_are_cuttable.ensures files form p links) main
