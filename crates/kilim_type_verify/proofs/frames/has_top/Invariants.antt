use Rattle.std.proofs.Common.{◌≡◌, drop}
use Rattle.std.specs.List.{list_any}
use Rattle.kilim_type_spec.specs.Step.{is_top}
use Rattle.kilim_type_verify.proofs.frames.has_top.Given as goal

abbrev pub invariant-loop-t : goal.invariant-loop-t
invariant-loop-t l = list_any is_top (drop l.t-index l.types) ≡ list_any is_top l.types
