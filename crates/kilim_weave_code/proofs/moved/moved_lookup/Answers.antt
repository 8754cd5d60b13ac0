use Rattle.std.proofs.Common.{◌∙◌, ℕ, ℤ, List, ap}
use Rattle.kilim_program.specs.declared.instr.Instr.TheVariants.{Lookupswitch}
use Rattle.kilim_weave_pieces.specs.Places.{at_in}
use Rattle.kilim_weave_pieces.proofs.Saving.{pairs_are}
use Rattle.kilim_weave_code.proofs.moved.moved_lookup.Goals as goal

pub returns : goal.returns
returns c =
    let at = at_in c.args.places.now in
    let e = c.in-Ok-moved_pairs.ensures ∙ pairs_are at c.args.pairs.now in
    ap (λ (n : ℕ). Lookupswitch n c.in-Ok-moved_pairs.all) c.in-Ok.ensures ∙ ap (λ (ps : List (ℤ × ℕ)). Lookupswitch (at c.args.default) ps) e
