use Rattle.std.proofs.Common.{arith}
use Rattle.kilim_program.proofs.lookups.Steps.{types_differ}
use Rattle.kilim_program.proofs.lookups.methods.same_types.Goals as goal

pub returns-then-a-b : goal.returns-then-a-b
returns-then-a-b c = types_differ c.args.a.now c.args.b.now c.if-a-b.true
