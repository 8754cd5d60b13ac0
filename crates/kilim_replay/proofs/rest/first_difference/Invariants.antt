use Rattle.std.proofs.Common.{◌≡◌, ◌≤◌, ◌-◌, take, length}
use Rattle.kilim_replay.proofs.rest.first_difference.Given as goal

abbrev pub invariant-loop-at : goal.invariant-loop-at
invariant-loop-at l = record {
  same : take l.at l.a ≡ take l.at l.b;
  first : l.at ≤ length l.a;
  second : l.at ≤ length l.b;
}

abbrev pub decreases-loop-at : goal.decreases-loop-at
decreases-loop-at l = length l.a - l.at
