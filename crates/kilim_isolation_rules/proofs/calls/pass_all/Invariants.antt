use Rattle.std.proofs.Common.{◌≡◌, drop}
use Rattle.kilim_isolation_rules.specs.Calls.{after_arguments, arguments}
use Rattle.kilim_isolation_rules.proofs.calls.pass_all.Given as goal

abbrev pub invariant-loop-argument : goal.invariant-loop-argument
invariant-loop-argument l = after_arguments (arguments l.program (drop l.argument-index l.arguments)) l.graph ≡ after_arguments (arguments l.program l.arguments) l.initial.graph
