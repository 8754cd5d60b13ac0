use Rattle.std.proofs.Common.{◌≡◌, take}
use Rattle.kilim_link_views.proofs.built_ins.parts.text.Given as goal

abbrev pub invariant-loop-byte : goal.invariant-loop-byte
invariant-loop-byte l = l.units.items ≡ take l.byte-index l.ascii
