use Rattle.std.proofs.Common.{◌≡◌, ◌++◌, drop}
use Rattle.std.specs.List.{flat_map}
use Rattle.kilim_class_code.specs.Code.{placed_text}
use Rattle.kilim_class_making.proofs.code_bytes.writing.code_bytes.Given as goal

abbrev pub invariant-loop-at : goal.invariant-loop-at
invariant-loop-at l = l.bytes.items ++ flat_map placed_text (drop l.at-index l.code) ≡ flat_map placed_text l.code
