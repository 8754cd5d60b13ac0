use Rattle.std.proofs.Common.{refl, ◌∙◌, subst}
use Rattle.kilim_program.specs.Keeps.{Keeps}
use Rattle.kilim_type_verify.proofs.Verified.{well_typed}
use Rattle.kilim_type_verify.proofs.programs.verify.Goals as goal

pub invariant_of-result : goal.invariant_of-result
invariant_of-result c =
    let walked = c.in-Ok-Frames.ensures in
    let frames = rw c.in-Ok-Frames.field-0-is at walked in
    let keeps = subst Keeps c.program.view_is c.program.invariant in
    record { typed = well_typed c.args.program keeps frames.0; frames = c.from_vec.ensures ∙ frames.1 }

pub returns-in-Ok-Frames : goal.returns-in-Ok-Frames
returns-in-Ok-Frames c =
    let walked = c.in-Ok-Frames.ensures in
    let frames = rw c.in-Ok-Frames.field-0-is at walked in
    let keeps = subst Keeps c.program.view_is c.program.invariant in
    (refl, frames.0, well_typed c.args.program keeps frames.0, c.from_vec.ensures ∙ frames.1)
