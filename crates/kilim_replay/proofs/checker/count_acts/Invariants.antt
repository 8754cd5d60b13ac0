use Rattle.std.proofs.Common.{◌≡◌, ◌++◌, take, drop}
use Rattle.kilim_replay_laws.specs.Verdicts.{acts_in, waits_in}
use Rattle.kilim_replay.proofs.checker.count_acts.Given as goal

abbrev pub invariant-loop-at : goal.invariant-loop-at
invariant-loop-at l = record {
  acts : acts_in l.journal ≡ take l.at l.journal ++ acts_in (drop l.at l.journal);
  waits : waits_in l.journal ≡ waits_in (drop l.at l.journal);
}
