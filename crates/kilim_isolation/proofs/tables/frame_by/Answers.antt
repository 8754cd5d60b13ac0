use Rattle.std.proofs.Common.{◌∙◌, arith, sym, refl, length}
use Rattle.std.proofs.lemmas.Option.{slice_get_read, slice_get_past}
use Rattle.kilim_isolation.proofs.Numbered.{frame_here, frame_past}
use Rattle.kilim_isolation.proofs.tables.frame_by.Goals as goal

pub returns-then-at-len : goal.returns-then-at-len
returns-then-at-len c = frame_past c.args.method.now.code c.args.frames.now c.args.place c.number_at-at.result (c.number_at-at.ensures _ _ c.requires.table c.requires.place) (omega arith)

pub returns-then-at-frames : goal.returns-then-at-frames
returns-then-at-frames c =
    sym (slice_get_past c.args.frames.now c.number_at-at.result (omega arith))
    ∙ frame_here c.args.method.now.code c.args.frames.now c.args.place c.number_at-at.result (c.number_at-at.ensures _ _ c.requires.table c.requires.place) (omega arith)

pub returns : goal.returns
returns c =
    sym (slice_get_read c.args.frames.now (length c.args.frames.now) c.number_at-at.result c.index-frames-at.result refl (omega arith) c.index-frames-at.is)
    ∙ frame_here c.args.method.now.code c.args.frames.now c.args.place c.number_at-at.result (c.number_at-at.ensures _ _ c.requires.table c.requires.place) (omega arith)
