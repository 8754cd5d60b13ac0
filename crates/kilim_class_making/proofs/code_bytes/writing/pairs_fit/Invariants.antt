use Rattle.std.proofs.Common.{drop, None}
use Rattle.kilim_class_code.specs.opcodes.Instr.{PairsFit}
use Rattle.kilim_class_making.proofs.code_bytes.writing.pairs_fit.Given as goal

abbrev pub invariant-loop-at : goal.invariant-loop-at
invariant-loop-at l = PairsFit l.place l.least (drop l.at l.pairs) → PairsFit l.place None l.pairs
