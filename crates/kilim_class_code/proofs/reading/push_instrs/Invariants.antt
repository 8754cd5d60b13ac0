use Rattle.std.proofs.Common.{◌≡◌, ◌++◌, ◌-◌, length, drop}
use Rattle.kilim_class_code.specs.Code.{StandsFrom, code_text}
use Rattle.kilim_class_code.proofs.reading.push_instrs.Given as goal

abbrev pub invariant-loop-at : goal.invariant-loop-at
invariant-loop-at l = record {
  stands : StandsFrom 0 l.instrs l.at;
  text : l.code ≡ code_text l.instrs ++ drop l.at l.code;
}

abbrev pub decreases-loop-at : goal.decreases-loop-at
decreases-loop-at l = length l.code - l.at
