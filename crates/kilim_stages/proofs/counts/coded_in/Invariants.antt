use Rattle.std.proofs.Common.{◌≡◌, ◌≤◌, take, length}
use Rattle.std.specs.List.{filter}
use Rattle.kilim_type_spec.specs.Typed.{has_code}
use Rattle.kilim_stages.proofs.counts.coded_in.Given as goal

abbrev pub invariant-loop-method : goal.invariant-loop-method
invariant-loop-method l = record {
  so_far : l.count ≡ length (filter has_code (take l.method-index l.program.methods));
  most : l.count ≤ l.method-index;
}
