use Rattle.std.proofs.Common.{◌∙◌, ap, sym, arith}
use Rattle.std.proofs.lemmas.List.{drop_all}
use Rattle.kilim_isolation_rules.specs.Calls.{after_arguments, arguments}
use Rattle.kilim_isolation_rules.proofs.calls.pass_all.Goals as goal

pub returns : goal.returns
returns c = ap (λ left. after_arguments (arguments c.args.program.now left) c.loop-argument.graph) (sym (drop_all c.loop-argument.argument-index c.args.arguments.now (omega arith))) ∙ c.loop-argument.invariant
