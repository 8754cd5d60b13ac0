use Rattle.std.proofs.Common.{◌∙◌, ap, arith, refl}
use Rattle.kilim_isolation_graph.specs.Canonical.{is_among}
use Rattle.kilim_isolation_graph.proofs.Orders.{marks_set, marks_past}
use Rattle.kilim_isolation_graph.proofs.order.Order.push.Goals as goal

pub invariant_of-self-then-number-len : goal.invariant_of-self-then-number-len
invariant_of-self-then-number-len c =
    marks_set c.self.inside.table.items _ c.self.inside.numbers c.push.new.self c.args.number c.len-then-number-len.result c.self.invariant
    (ap (is_among c.args.number) c.self.view_is ∙ c.requires) c.in-Ok.ensures.ok c.len-then-number-len.ensures refl

pub invariant_of-self-else-number-len : goal.invariant_of-self-else-number-len
invariant_of-self-else-number-len c =
    marks_past c.self.inside.table.items c.self.inside.numbers c.push.new.self c.args.number c.self.invariant
    (omega (arith, c.len.ensures, c.self.inside.table.ok.0, c.if-number-len.false)) c.in-Ok.ensures.ok
