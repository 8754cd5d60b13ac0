use Rattle.std.proofs.Common.{refl}
use Rattle.kilim_replay.proofs.checker.count_acts.Goals as goal

pub loop-at-init : goal.loop-at-init
loop-at-init c = record { acts = refl; waits = refl }
