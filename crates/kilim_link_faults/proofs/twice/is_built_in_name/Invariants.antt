use Rattle.std.proofs.Common.{◌≡◌, ◌-◌, false, take}
use Rattle.std.specs.Prelude.{◌&&◌, ◌^◌}
use Rattle.std.specs.List.{list_any}
use Rattle.std.specs.Str.{bytes_eq}
use Rattle.kilim_link_faults.proofs.twice.is_built_in_name.Given as goal

abbrev pub invariant-loop-i : goal.invariant-loop-i
invariant-loop-i l = list_any (λ v. v.is_built_in && bytes_eq v.name l.name) (take l.i l.world.classes) ≡ false

abbrev pub decreases-loop-i : goal.decreases-loop-i
decreases-loop-i l = 2 ^ 32 - l.i
