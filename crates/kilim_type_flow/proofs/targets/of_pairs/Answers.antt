use Rattle.std.proofs.Common.{◌∙◌, ◌∷◌, ℤ, ℕ, List, pos, ap, map, refl, arith}
use Rattle.std.proofs.lemmas.List.{take_all}
use Rattle.kilim_type_flow.proofs.Loops.{mapped_behind}
use Rattle.kilim_type_flow.proofs.targets.of_pairs.Goals as goal

pub loop-pair-init : goal.loop-pair-init
loop-pair-init c = c.in-Ok.ensures

pub loop-pair-preserved : goal.loop-pair-preserved
loop-pair-preserved c =
    mapped_behind (λ (pair : ℤ × ℕ). pair.1) c.args.first c.loop-pair.all.items c.push.new.self.items c.args.pairs.now c.loop-pair.pair-index _ (pos 0, 0) _ c.loop-pair-test.true refl c.loop-pair.invariant refl c.in-Ok-push.ensures.items

pub returns : goal.returns
returns c = c.loop-pair.invariant ∙ ap (λ (ps : List (ℤ × ℕ)). c.args.first ∷ map (λ (pair : ℤ × ℕ). pair.1) ps) (take_all c.loop-pair.pair-index c.args.pairs.now (omega arith))
