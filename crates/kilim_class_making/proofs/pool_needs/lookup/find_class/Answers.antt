use Rattle.std.proofs.Common.{◌≡◌, ◌<◌, true, refl, sym, ap, ◌∙◌, arith}
use Rattle.kilim_class_pool.specs.Entries.{count_of, entry_at}
use Rattle.kilim_class_making.specs.pool_needs.Adding.{is_class_of}
use Rattle.kilim_class_making.proofs.pool_needs.Places.{is_first, is_nowhere}
use Rattle.kilim_class_making.proofs.pool_needs.lookup.find_class.Goals as goal

pub returns-then-is_class_of : goal.returns-then-is_class_of
returns-then-is_class_of c =
    let h : is_class_of c.args.pool.now c.args.name.now (entry_at c.args.pool.now c.loop-index.index) ≡ true = ap (is_class_of c.args.pool.now c.args.name.now) (sym c.entry.ensures) ∙ (sym c.is_class_of.ensures ∙ c.if-is_class_of.true) in
    let within : c.loop-index.index < count_of c.args.pool.now = omega arith in
    is_first (is_class_of c.args.pool.now c.args.name.now) c.args.pool.now c.loop-index.index refl c.loop-index.invariant c.loop-index.auto.index within h

pub returns : goal.returns
returns c = is_nowhere (is_class_of c.args.pool.now c.args.name.now) c.args.pool.now (λ k least lt. c.loop-index.invariant k least (omega arith))
