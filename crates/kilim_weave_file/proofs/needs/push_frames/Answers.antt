use Rattle.std.proofs.Common.{ℕ, ◌++◌, refl}
use Rattle.std.specs.List.{flat_map}
use Rattle.kilim_lemmas.proofs.Walks.{ahead, all_made}
use Rattle.kilim_program.specs.declared.verified.Frame.{Frame}
use Rattle.kilim_weave_file_spec.specs.FullFrames.{frame_needs}
use Rattle.kilim_weave_file.proofs.needs.push_frames.Goals as goal

pub loop-entry-preserved : goal.loop-entry-preserved
loop-entry-preserved c =
    let f = λ (e : ℕ × Frame). frame_needs c.args.program.now e.1 in
    ahead f c.loop-entry.into c.push_frame.new.into (c.args.into.now ++ flat_map f c.args.frames.now) c.args.frames.now c.loop-entry.entry-index c.entry-item.result _
    c.loop-entry-test.true c.entry-item.is c.loop-entry.invariant c.in-Ok.ensures

pub returns : goal.returns
returns c =
    let f = λ (e : ℕ × Frame). frame_needs c.args.program.now e.1 in
    all_made (flat_map f) c.loop-entry.into (c.args.into.now ++ flat_map f c.args.frames.now) c.args.frames.now c.loop-entry.entry-index refl c.loop-entry-test.false c.loop-entry.invariant
