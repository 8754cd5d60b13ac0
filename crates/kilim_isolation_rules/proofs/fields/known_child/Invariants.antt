use Rattle.std.proofs.Common.{◌≡◌, drop}
use Rattle.kilim_isolation_rules.specs.Fields.{known_child}
use Rattle.kilim_isolation_rules.proofs.fields.known_child.Given as goal

abbrev pub invariant-loop-number : goal.invariant-loop-number
invariant-loop-number l = known_child (drop l.number l.nodes) l.number l.holder l.field ≡ known_child l.nodes 0 l.holder l.field
