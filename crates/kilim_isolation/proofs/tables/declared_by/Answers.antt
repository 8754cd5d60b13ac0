use Rattle.std.proofs.Common.{◌≡◌, ◌∙◌, ap, refl, sym, Some, arith, List, ℕ, length, slice_get}
use Rattle.std.proofs.lemmas.Option.{slice_get_read}
use Rattle.kilim_program.specs.declared.verified.Frame.{Frame}
use Rattle.kilim_type_spec.specs.Typed.{frame_types}
use Rattle.kilim_isolation.proofs.Numbered.{declared_here, declared_past}
use Rattle.kilim_isolation.proofs.tables.declared_by.Goals as goal

pub returns-then-at-frames : goal.returns-then-at-frames
returns-then-at-frames c =
    ap (λ (e : ℕ × Frame). Some (frame_types e.1)) (sym c.index-frames-at.is)
    ∙ declared_here c.args.method.now.frames c.args.place c.number_at-at.result c.index-frames-at.result (c.number_at-at.ensures _ _ c.requires.table c.requires.place)
    (ap (λ (es : List (ℕ × Frame)). slice_get es c.number_at-at.result) (sym c.as_slice-frames.ensures) ∙ slice_get_read c.as_slice-frames.result.now (length c.as_slice-frames.result.now) c.number_at-at.result c.index-frames-at.result refl (omega arith) c.index-frames-at.is)

pub returns-else-at-frames : goal.returns-else-at-frames
returns-else-at-frames c =
    let same : length c.as_slice-frames.result.now ≡ length c.args.method.now.frames = ap length c.as_slice-frames.ensures in
    declared_past c.args.method.now.frames c.args.place c.number_at-at.result (c.number_at-at.ensures _ _ c.requires.table c.requires.place) (omega arith)
