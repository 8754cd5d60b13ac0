use Rattle.std.proofs.Common.{◌++◌, ℕ, List, ap, ◌∙◌}
use Rattle.std.proofs.lemmas.List.{take_all}
use Rattle.std.specs.Char.Escape.{encode_utf16}
use Rattle.std.specs.List.{flat_map}
use Rattle.kilim_command.proofs.Loops.{joined}
use Rattle.kilim_command.proofs.report.encoded.Goals as goal

pub loop-c-preserved : goal.loop-c-preserved
loop-c-preserved c =
    joined encode_utf16 c.loop-c.units.items c.extend_from_slice.new.self.items c.args.chars.now c.loop-c.c-index c.c-item.result c.loop-c-test.true c.c-item.is c.loop-c.invariant
    (c.in-Ok.ensures.items ∙ ap (λ (xs : List ℕ). c.loop-c.units.items ++ xs) c.encode_utf16.ensures.value)

pub returns : goal.returns
returns c = c.loop-c.invariant ∙ ap (flat_map encode_utf16) (take_all c.loop-c.c-index c.args.chars.now c.loop-c-test.false)
