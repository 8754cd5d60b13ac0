use Rattle.std.proofs.Common.{◌≡◌, ◌∙◌, subst, sym}
use Rattle.std.specs.Prelude.{IfOk}
use Rattle.kilim_program.specs.declared.instr.Instr.{Instr}
use Rattle.kilim_weave_pieces.specs.Places.{at_in}
use Rattle.kilim_weave_code.proofs.Unmoved.{unmoved}
use Rattle.kilim_weave_code.proofs.moved.moved.Goals as goal

pub returns : goal.returns
returns c =
    let stays = unmoved (at_in c.args.places.now) c.args.instr.now (sym c.has_target.ensures ∙ c.if-has_target.false) in
    subst (λ (j : Instr). IfOk c.copied.result (λ i. i ≡ j)) (sym stays) c.copied.ensures
