use Rattle.std.proofs.Common.{◌≡◌, ◌∙◌, ℕ, ap, arith}
use Rattle.std.proofs.lemmas.List.{take_all}
use Rattle.kilim_program.specs.declared.verified.Frame.{Frame}
use Rattle.kilim_weave_method.proofs.Listing.{copied_more}
use Rattle.kilim_weave_method.proofs.copy.copy_frames.Goals as goal

pub loop-at-preserved : goal.loop-at-preserved
loop-at-preserved c =
    copied_more c.args.frames.now c.loop-at.at c.frame_at-entry.result.now (c.frame_at-entry.result.now.0, c.in-Ok.frame) c.loop-at.all c.push.new.self c.frame_at-entry.ensures c.loop-at.invariant
    (ap (λ (f : Frame). let e : ℕ × Frame = (c.frame_at-entry.result.now.0, f) in e) c.in-Ok.ensures) c.in-Ok-push.ensures.ok

pub returns : goal.returns
returns c = c.loop-at.invariant ∙ take_all c.loop-at.at c.args.frames.now (omega arith)
