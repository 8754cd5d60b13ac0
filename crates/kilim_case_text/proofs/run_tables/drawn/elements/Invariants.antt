use Rattle.std.proofs.Common.{◌≡◌, ◌++◌, reverse}
use Rattle.kilim_run_trees.specs.Walk.{element_refs}
use Rattle.kilim_case_text.proofs.run_tables.drawn.elements.Given as goal

abbrev pub invariant-loop-part : goal.invariant-loop-part
invariant-loop-part l = reverse l.initial.pending.items ≡ element_refs l.out ++ reverse l.pending.items
