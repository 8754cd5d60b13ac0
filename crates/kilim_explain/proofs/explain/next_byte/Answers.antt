use Rattle.std.proofs.Common.{Some, ap, ◌∙◌}
use Rattle.kilim_explain.proofs.Lines.{said_more}
use Rattle.kilim_explain.proofs.explain.next_byte.Goals as goal

pub returns-in-Ok-push_block : goal.returns-in-Ok-push_block
returns-in-Ok-push_block g c =
    said_more c.args.report.now c.args.places.0 c.args.places.1 c.args.out.now.items _ _ c.push_block.new.out.items c.requires.below c.requires.so_far (c.byte_in.ensures ∙ ap Some c.if-byte_in-ne10.false) c.between-line.ensures
    c.in-Ok-push_block.ensures
