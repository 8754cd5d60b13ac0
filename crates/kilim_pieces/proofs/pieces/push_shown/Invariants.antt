use Rattle.std.proofs.Common.{◌≡◌, ◌++◌, take}
use Rattle.kilim_pieces.specs.Texts.{shown_text}
use Rattle.kilim_pieces.proofs.pieces.push_shown.Given as goal

abbrev pub invariant-loop-byte : goal.invariant-loop-byte
invariant-loop-byte l = l.out.items ≡ l.fn.out.items ++ shown_text (take l.byte-index l.bytes)
