use Rattle.std.proofs.Common.{length, arith}
use Rattle.kilim_class_grammar.proofs.Calls.{within}
use Rattle.kilim_class_file.proofs.reading.class_of.Goals as goal

pub overflow_sub-result : goal.overflow_sub-result
overflow_sub-result c =
    within (c.parts_are_spelled.ensures (length c.args.bytes.now)) c.args.bytes.now c.in-Ok.file c.in-Ok.rest.now (λ i. omega (arith, c.type_inv.bytes i)) c.in-Ok.ensures
