use Rattle.std.proofs.Common.{◌∙◌, sym}
use Rattle.kilim_type_verify.proofs.Framed.{frame_passes}
use Rattle.kilim_type_verify.proofs.frames.frame_fault.Goals as goal

pub loop-index-preserved : goal.loop-index-preserved
loop-index-preserved c =
    frame_passes c.args.method.now c.as_slice-frames.result.now c.loop-index.index c.entry_at-entry.result.now c.entry_at-entry.ensures (sym c.if-not-frame_fits.ensures) ∙ c.loop-index.invariant
