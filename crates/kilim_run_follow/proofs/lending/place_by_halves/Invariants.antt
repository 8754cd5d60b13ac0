use Rattle.std.proofs.Common.{◌-◌}
use Rattle.kilim_run_follow.proofs.lending.place_by_halves.Given as goal

abbrev pub decreases-loop-low : goal.decreases-loop-low
decreases-loop-low g l = l.high - l.low
