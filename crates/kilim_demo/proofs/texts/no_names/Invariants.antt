use Rattle.std.proofs.Common.{◌≡◌, length}
use Rattle.kilim_demo.proofs.texts.no_names.Given as goal

abbrev pub invariant-loop : goal.invariant-loop
invariant-loop l = length l.names ≡ l.counter
