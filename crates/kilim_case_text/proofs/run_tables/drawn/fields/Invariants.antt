use Rattle.std.proofs.Common.{◌≡◌, ◌++◌, reverse}
use Rattle.kilim_run_trees.specs.Walk.{field_refs}
use Rattle.kilim_case_text.proofs.run_tables.drawn.fields.Given as goal

abbrev pub invariant-loop-part : goal.invariant-loop-part
invariant-loop-part l = reverse l.initial.pending.items ≡ field_refs l.out ++ reverse l.pending.items
