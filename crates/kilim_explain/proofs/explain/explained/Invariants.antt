use Rattle.kilim_explain.specs.Explains.{SaidTo}
use Rattle.kilim_explain.proofs.explain.explained.Given as goal

abbrev pub invariant-loop-i : goal.invariant-loop-i
invariant-loop-i g l = SaidTo l.report l.from l.i l.out.items
