use Rattle.std.proofs.Common.{◌≡◌, take}
use Rattle.kilim_weave_spec.specs.Weight.{calls_in}
use Rattle.kilim_weave_code.proofs.count.calls_in.Given as goal

abbrev pub invariant-loop-at : goal.invariant-loop-at
invariant-loop-at l = l.count ≡ calls_in l.fn.program (take l.at l.fn.code)
