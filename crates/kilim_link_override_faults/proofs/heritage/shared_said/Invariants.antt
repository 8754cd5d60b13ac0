use Rattle.std.proofs.Common.{◌≡◌, ◌++◌, drop, length}
use Rattle.kilim_link_override_faults.specs.Heritage.{numbered, places_in}
use Rattle.kilim_link_override_faults.proofs.heritage.shared_said.Given as goal

abbrev pub invariant-loop-index : goal.invariant-loop-index
invariant-loop-index l =
    (l.said ++ numbered (length l.places) (drop l.index l.methods) ≡ numbered (length l.fn.places) l.methods)
    × (l.places ++ places_in l.class l.index (drop l.index l.methods) ≡ l.fn.places ++ places_in l.class 0 l.methods)
