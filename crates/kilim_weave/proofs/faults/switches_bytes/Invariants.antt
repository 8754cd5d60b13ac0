use Rattle.std.proofs.Common.{◌≡◌, ◌+◌, drop}
use Rattle.kilim_weave_spec.specs.Weight.{switches_bytes}
use Rattle.kilim_weave.proofs.faults.switches_bytes.Given as goal

abbrev pub invariant-loop-entry : goal.invariant-loop-entry
invariant-loop-entry l = l.sum + switches_bytes (drop l.entry-index l.code) ≡ switches_bytes l.code
