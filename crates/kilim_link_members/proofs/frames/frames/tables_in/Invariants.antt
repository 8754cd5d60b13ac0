use Rattle.std.proofs.Common.{◌≡◌, take}
use Rattle.std.specs.List.{flat_map}
use Rattle.kilim_link_spec.specs.Frames.{table_in}
use Rattle.kilim_link_members.proofs.frames.frames.tables_in.Given as goal

abbrev pub invariant-loop-attribute : goal.invariant-loop-attribute
invariant-loop-attribute l = l.frames ≡ flat_map (λ a. table_in a.info) (take l.attribute-index l.code.attributes)
