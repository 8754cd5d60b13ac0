use Rattle.std.proofs.Common.{◌≡◌, ◌++◌, drop}
use Rattle.kilim_demo.specs.Assembler.{code_of}
use Rattle.kilim_demo.proofs.assembler.push_code.Given as goal

abbrev pub invariant-loop-op : goal.invariant-loop-op
invariant-loop-op l = l.code.items ++ code_of (drop l.op-index l.ops) ≡ l.fn.code.items ++ code_of l.ops
