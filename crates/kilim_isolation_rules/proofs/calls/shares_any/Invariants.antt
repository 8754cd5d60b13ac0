use Rattle.std.proofs.Common.{◌≡◌, drop}
use Rattle.std.specs.List.{list_any}
use Rattle.kilim_isolation_rules.specs.Calls.{shares}
use Rattle.kilim_isolation_rules.proofs.calls.shares_any.Given as goal

abbrev pub invariant-loop-b : goal.invariant-loop-b
invariant-loop-b l = list_any (shares l.program l.graph l.a) (drop l.b-index l.others) ≡ list_any (shares l.program l.graph l.a) l.others
