use Rattle.std.proofs.Common.{◌≡◌, take}
use Rattle.kilim_class_code.specs.Code.{code_text}
use Rattle.kilim_class_code.proofs.writing.encode.Given as goal

abbrev pub invariant-loop-at : goal.invariant-loop-at
invariant-loop-at l = l.bytes.items ≡ code_text (take l.at-index l.at-items)
