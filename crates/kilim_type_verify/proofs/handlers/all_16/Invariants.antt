use Rattle.std.proofs.Common.{◌≡◌, drop}
use Rattle.std.specs.List.{list_all}
use Rattle.kilim_type_spec.specs.Faults.{rule_16}
use Rattle.kilim_type_verify.proofs.handlers.all_16.Given as goal

abbrev pub invariant-loop-handler : goal.invariant-loop-handler
invariant-loop-handler l = list_all (rule_16 l.program l.at l.state) (drop l.handler-index l.handlers) ≡ list_all (rule_16 l.program l.at l.state) l.handlers
