use Rattle.std.proofs.Common.{◌≡◌, take}
use Rattle.kilim_run_same.proofs.same.same_tokens.Given as goal

abbrev pub invariant-loop-k : goal.invariant-loop-k
invariant-loop-k l = take l.k l.a ≡ take l.k l.b
