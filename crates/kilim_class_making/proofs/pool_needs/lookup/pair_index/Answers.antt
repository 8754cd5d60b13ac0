use Rattle.std.proofs.Common.{◌≡◌, ◌<◌, true, refl, sym, ap, ◌∙◌, arith}
use Rattle.kilim_class_pool.specs.Entries.{count_of, entry_at}
use Rattle.kilim_class_making.specs.pool_needs.Adding.{is_pair}
use Rattle.kilim_class_making.proofs.pool_needs.Places.{is_first, is_nowhere}
use Rattle.kilim_class_making.proofs.pool_needs.lookup.pair_index.Goals as goal

pub returns-then-is_pair : goal.returns-then-is_pair
returns-then-is_pair c =
    let h : is_pair c.args.name c.args.descriptor (entry_at c.args.pool.now c.loop-index.index) ≡ true = ap (is_pair c.args.name c.args.descriptor) (sym c.entry.ensures) ∙ (sym c.is_pair.ensures ∙ c.if-is_pair.true) in
    let within : c.loop-index.index < count_of c.args.pool.now = omega arith in
    is_first (is_pair c.args.name c.args.descriptor) c.args.pool.now c.loop-index.index refl c.loop-index.invariant c.loop-index.auto.index within h

pub returns : goal.returns
returns c = is_nowhere (is_pair c.args.name c.args.descriptor) c.args.pool.now (λ k least lt. c.loop-index.invariant k least (omega arith))
