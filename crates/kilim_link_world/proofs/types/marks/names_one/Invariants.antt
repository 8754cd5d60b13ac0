use Rattle.std.proofs.Common.{◌≡◌, drop}
use Rattle.std.specs.List.{list_any}
use Rattle.std.specs.Str.{bytes_eq}
use Rattle.kilim_link_world.proofs.types.marks.names_one.Given as goal

abbrev pub invariant-loop-annotation : goal.invariant-loop-annotation
invariant-loop-annotation l = list_any (bytes_eq l.text) (drop l.annotation-index l.types) ≡ list_any (bytes_eq l.text) l.types
