use Rattle.std.proofs.Common.{length, arith}
use Rattle.kilim_class_grammar.proofs.Calls.{within}
use Rattle.kilim_image.proofs.reading.held_in.Goals as goal

pub overflow_sub-result : goal.overflow_sub-result
overflow_sub-result c =
    within c.parts_are_spelled.ensures c.args.bytes.now (c.in-Ok.held.0, c.in-Ok.held.1.now) c.in-Ok.rest.now (λ i. omega (arith, c.type_inv.bytes i)) c.in-Ok.ensures
