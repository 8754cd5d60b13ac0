use Rattle.std.proofs.Common.{◌≡◌, ◌∙◌}
use Rattle.kilim_weave_method.proofs.copy.copy_body.Goals as goal

pub returns : goal.returns
returns c =
    let code : c.in-Ok.code ≡ c.args.method.now.code = c.in-Ok.ensures ∙ c.as_slice.ensures in
    let frames : c.in-Ok-copy_frames.frames ≡ c.args.method.now.frames = c.in-Ok-copy_frames.ensures ∙ c.as_slice-2.ensures in
    λ i. record { code = code i; frames = frames i }
