use Rattle.std.proofs.Common.{◌≡◌, drop}
use Rattle.std.specs.List.{list_any}
use Rattle.kilim_weave_file_spec.specs.Raw.{is_pausable_call}
use Rattle.kilim_weave_file_spec.specs.WovenFile.{has_calls}
use Rattle.kilim_weave_file.proofs.needs.has_calls.Given as goal

abbrev pub invariant-loop-entry : goal.invariant-loop-entry
invariant-loop-entry l = list_any (λ e. is_pausable_call l.program e.1) (drop l.entry-index l.method.code) ≡ has_calls l.program l.method
