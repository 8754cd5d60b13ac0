use Rattle.std.proofs.Common.{◌≡◌, drop}
use Rattle.std.specs.List.{list_any}
use Rattle.kilim_link_override_faults.specs.Parts.{is_shared, passes_at}
use Rattle.kilim_link_override_faults.proofs.abstracts.is_shared_at_any.Given as goal

abbrev pub invariant-loop-place : goal.invariant-loop-place
invariant-loop-place l = list_any (passes_at is_shared l.methods) (drop l.place-index l.places) ≡ list_any (passes_at is_shared l.methods) l.places
