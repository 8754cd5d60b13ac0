use Rattle.std.proofs.Common.{ℕ, refl}
use Rattle.std.specs.List.{flat_map}
use Rattle.kilim_lemmas.proofs.Walks.{ahead, all_made}
use Rattle.kilim_program.specs.declared.verified.Frame.{Frame}
use Rattle.kilim_class_builder.specs.Frames.{frame_names, frames_names}
use Rattle.kilim_class_builder.proofs.frames.frames_names.Goals as goal

pub loop-entry-preserved : goal.loop-entry-preserved
unfolding frames_names
loop-entry-preserved c =
    let f = λ (e : ℕ × Frame). frame_names c.args.pool.now e.1 in
    ahead f c.loop-entry.names.items c.push_frame_names.new.names.items (flat_map f c.args.frames.now) c.args.frames.now c.loop-entry.entry-index c.entry-item.result _
    c.loop-entry-test.true c.entry-item.is c.loop-entry.invariant c.in_ok-push_frame_names.ensures

pub returns : goal.returns
unfolding frames_names
returns c =
    let f = λ (e : ℕ × Frame). frame_names c.args.pool.now e.1 in
    all_made (flat_map f) c.loop-entry.names.items (flat_map f c.args.frames.now) c.args.frames.now c.loop-entry.entry-index refl c.loop-entry-test.false c.loop-entry.invariant
