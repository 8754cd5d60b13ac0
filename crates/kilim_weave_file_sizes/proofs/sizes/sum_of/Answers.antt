use Rattle.std.proofs.Common.{◌≡◌, ℕ, ap, arith, drop, get_or, refl, ◌+◌, ◌∙◌}
use Rattle.std.proofs.lemmas.List.{drop_all}
use Rattle.std.proofs.lemmas.List.Sums.{sum_by-cons}
use Rattle.std.specs.Prelude.{sum_by}
use Rattle.kilim_weave_file_sizes.specs.Parts.{product}
use Rattle.kilim_weave_file_sizes.proofs.Loops.{summed}
use Rattle.kilim_weave_file_sizes.proofs.sizes.sum_of.Goals as goal

pub loop-factors-preserved : goal.loop-factors-preserved
loop-factors-preserved c =
    summed product (sum_by product) (sum_by-cons product) c.args.products.now c.loop-factors.factors-index (get_or c.args.products.now c.loop-factors.factors-index _) _ c.loop-factors.sum c.in-Ok-plus.more (sum_by product c.args.products.now)
    c.loop-factors-test.true refl (c.in-Ok-plus.ensures ∙ ap (λ (n : ℕ). c.loop-factors.sum + n) c.in-Ok.ensures) c.loop-factors.invariant

pub returns : goal.returns
returns c =
    let left : sum_by product (drop c.loop-factors.factors-index c.args.products.now) ≡ 0 = ap (sum_by product) (drop_all c.loop-factors.factors-index c.args.products.now c.loop-factors-test.false) in
    omega (arith, left, c.loop-factors.invariant)
