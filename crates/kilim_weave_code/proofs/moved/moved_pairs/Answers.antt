use Rattle.std.proofs.Common.{◌∙◌, ◌++◌, ◌∷◌, [], List, ap, arith, map, take, ℕ, ℤ}
use Rattle.std.proofs.lemmas.List.{take_all}
use Rattle.kilim_weave_pieces.specs.Places.{at_in}
use Rattle.kilim_weave_pieces.proofs.Lists.{map_next}
use Rattle.kilim_weave_code.proofs.moved.moved_pairs.Goals as goal

pub loop-at-preserved : goal.loop-at-preserved
loop-at-preserved c =
    let f : ℤ × ℕ → ℤ × ℕ = λ (pair : ℤ × ℕ). (pair.0, at_in c.args.places.now pair.1) in
    let done = map f (take c.loop-at.at c.args.pairs.now) in
    c.in-Ok-push.ensures.ok
    ∙ (ap (λ (ps : List (ℤ × ℕ)). ps ++ c.in-Ok.moved ∷ []) c.loop-at.invariant
    ∙ (ap (λ (p : ℤ × ℕ). done ++ p ∷ []) c.in-Ok.ensures ∙ map_next f c.args.pairs.now c.loop-at.at c.pair_at-pair.result c.pair_at-pair.ensures))

pub returns : goal.returns
returns c =
    let f : ℤ × ℕ → ℤ × ℕ = λ (pair : ℤ × ℕ). (pair.0, at_in c.args.places.now pair.1) in
    c.loop-at.invariant ∙ ap (map f) (take_all c.loop-at.at c.args.pairs.now (omega arith))
