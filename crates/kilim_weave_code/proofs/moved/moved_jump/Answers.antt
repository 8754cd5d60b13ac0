use Rattle.std.proofs.Common.{◌∙◌, ap, sym}
use Rattle.kilim_weave_pieces.specs.Places.{at_in}
use Rattle.kilim_weave_code.proofs.Unmoved.{moved_by}
use Rattle.kilim_weave_code.proofs.moved.moved_jump.Goals as goal

pub returns : goal.returns
returns c =
    let at = at_in c.args.places.now in
    let goes = sym (c.in-Ok.ensures ∙ ap at c.target_of.ensures) in
    moved_by c.jump_to.result at c.in-Ok.to c.args.instr.now goes c.jump_to.ensures
