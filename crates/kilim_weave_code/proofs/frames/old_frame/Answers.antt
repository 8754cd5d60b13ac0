use Rattle.std.proofs.Common.{◌∙◌, ◌++◌, List, ap, map}
use Rattle.kilim_program.specs.declared.verified.VType.{VType}
use Rattle.kilim_weave_spec.specs.Woven.{added_types, moved_type}
use Rattle.kilim_weave_pieces.specs.Meant.{meant}
use Rattle.kilim_weave_code.proofs.Showing.{frame_is}
use Rattle.kilim_weave_code.proofs.frames.old_frame.Goals as goal

pub returns : goal.returns
returns c =
    let x = meant c.args.plan.now in
    frame_is x c.args.place c.args.frame.now (record { locals = c.from_vec-kept.result; stack = c.from_vec-stack.result })
    (c.from_vec-kept.ensures ∙ (c.in-Ok-push_added.ensures ∙ ap (λ (ts : List VType). ts ++ added_types x) c.in-Ok.ensures))
    (c.from_vec-stack.ensures ∙ (c.in-Ok-moved_types.ensures ∙ ap (map (moved_type x.at)) c.as_slice-types.ensures))
    c.requires
