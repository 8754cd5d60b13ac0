use Rattle.std.proofs.Common.{◌∙◌, ◌++◌, ◌∷◌, [], List, ap, map, take, arith}
use Rattle.std.proofs.lemmas.List.{take_all}
use Rattle.kilim_program.specs.declared.verified.VType.{VType}
use Rattle.kilim_weave_spec.specs.Woven.{moved_type}
use Rattle.kilim_weave_pieces.specs.Places.{at_in}
use Rattle.kilim_weave_pieces.proofs.Lists.{map_next}
use Rattle.kilim_weave_code.proofs.frames.moved_types.Goals as goal

pub loop-at-preserved : goal.loop-at-preserved
loop-at-preserved c =
    let f : VType → VType = moved_type (at_in c.args.places.now) in
    let done = map f (take c.loop-at.at c.args.types.now) in
    c.in-Ok-push.ensures.items
    ∙ (ap (λ (ts : List VType). ts ++ c.in-Ok.new ∷ []) c.loop-at.invariant
    ∙ (ap (λ (t : VType). done ++ t ∷ []) c.in-Ok.ensures ∙ map_next f c.args.types.now c.loop-at.at c.type_at-ty.result c.type_at-ty.ensures))

pub returns : goal.returns
returns c = c.loop-at.invariant ∙ ap (λ (ts : List VType). map (moved_type (at_in c.args.places.now)) ts) (take_all c.loop-at.at c.args.types.now (omega arith))
