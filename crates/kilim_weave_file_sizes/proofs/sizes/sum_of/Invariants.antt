use Rattle.std.proofs.Common.{◌≡◌, ◌+◌, drop}
use Rattle.std.specs.Prelude.{sum_by}
use Rattle.kilim_weave_file_sizes.specs.Parts.{product}
use Rattle.kilim_weave_file_sizes.proofs.sizes.sum_of.Given as goal

abbrev pub invariant-loop-factors : goal.invariant-loop-factors
invariant-loop-factors l = l.sum + sum_by product (drop l.factors-index l.products) ≡ sum_by product l.products
