use Rattle.kilim_weave_method.proofs.woven_each.OfKind.{frames_are}
use Rattle.kilim_weave_method.proofs.woven_each.methods.frames_of.Goals as goal

pub returns : goal.returns
returns c = λ code.
    frames_are c.typed_by_place.ensures (record { program = c.args.program.now; frames = c.args.frames.now }) c.keeps.ensures c.requires.typed c.args.id c.args.method.now c.requires.there code c.frames_at.result.now c.frames_at.ensures
