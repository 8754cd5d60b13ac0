use Rattle.std.proofs.Common.{◌≡◌, drop}
use Rattle.std.specs.List.{list_any}
use Rattle.kilim_isolation_rules.specs.Calls.{is_mixed}
use Rattle.kilim_isolation_rules.proofs.calls.any_mixed.Given as goal

abbrev pub invariant-loop-argument : goal.invariant-loop-argument
invariant-loop-argument l = list_any (is_mixed l.program) (drop l.argument-index l.arguments) ≡ list_any (is_mixed l.program) l.arguments
