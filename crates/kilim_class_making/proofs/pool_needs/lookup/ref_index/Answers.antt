use Rattle.std.proofs.Common.{◌≡◌, ◌<◌, true, refl, sym, ap, ◌∙◌, arith}
use Rattle.kilim_class_pool.specs.Entries.{count_of, entry_at}
use Rattle.kilim_class_making.specs.pool_needs.Adding.{is_ref}
use Rattle.kilim_class_making.proofs.pool_needs.Places.{is_first, is_nowhere}
use Rattle.kilim_class_making.proofs.pool_needs.lookup.ref_index.Goals as goal

pub returns-then-is_ref : goal.returns-then-is_ref
returns-then-is_ref c =
    let h : is_ref c.args.class c.args.member (entry_at c.args.pool.now c.loop-index.index) ≡ true = ap (is_ref c.args.class c.args.member) (sym c.entry.ensures) ∙ (sym c.is_ref.ensures ∙ c.if-is_ref.true) in
    let within : c.loop-index.index < count_of c.args.pool.now = omega arith in
    is_first (is_ref c.args.class c.args.member) c.args.pool.now c.loop-index.index refl c.loop-index.invariant c.loop-index.auto.index within h

pub returns : goal.returns
returns c = is_nowhere (is_ref c.args.class c.args.member) c.args.pool.now (λ k least lt. c.loop-index.invariant k least (omega arith))
