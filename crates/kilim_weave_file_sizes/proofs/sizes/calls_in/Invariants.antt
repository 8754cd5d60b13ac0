use Rattle.std.proofs.Common.{◌≡◌, ◌+◌, ◌≤◌, drop}
use Rattle.kilim_weave_spec.specs.Weight.{calls_in}
use Rattle.kilim_weave_file_sizes.proofs.sizes.calls_in.Given as goal

abbrev pub invariant-loop-entry : goal.invariant-loop-entry
invariant-loop-entry l = (l.count + calls_in l.program (drop l.entry-index l.code) ≡ calls_in l.program l.code) × (l.count ≤ l.entry-index)
