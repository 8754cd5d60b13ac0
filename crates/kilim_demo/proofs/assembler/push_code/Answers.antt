use Rattle.std.proofs.Common.{◌++◌, get_or, refl}
use Rattle.kilim_lemmas.proofs.Walks.{ahead, all_made}
use Rattle.kilim_demo.specs.Assembler.{bytes_of, code_of}
use Rattle.kilim_demo.proofs.assembler.push_code.Goals as goal

pub loop-op-preserved : goal.loop-op-preserved
loop-op-preserved c =
    ahead bytes_of c.loop-op.code.items c.push_op.new.code.items (c.args.code.now.items ++ code_of c.args.ops.now) c.args.ops.now c.loop-op.op-index (get_or c.args.ops.now c.loop-op.op-index _) _
    c.loop-op-test.true refl c.loop-op.invariant c.in-Ok.ensures

pub returns : goal.returns
returns c = all_made code_of c.loop-op.code.items (c.args.code.now.items ++ code_of c.args.ops.now) c.args.ops.now c.loop-op.op-index refl c.loop-op-test.false c.loop-op.invariant
