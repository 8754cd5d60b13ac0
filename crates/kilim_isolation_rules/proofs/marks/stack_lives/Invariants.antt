use Rattle.std.proofs.Common.{◌≡◌, drop}
use Rattle.std.specs.List.{list_any}
use Rattle.kilim_isolation_rules.specs.Marks.{names_gone}
use Rattle.kilim_isolation_rules.proofs.marks.stack_lives.Given as goal

abbrev pub invariant-loop-name : goal.invariant-loop-name
invariant-loop-name l = list_any (names_gone l.graph) (drop l.name-index l.graph.stack) ≡ list_any (names_gone l.graph) l.graph.stack
