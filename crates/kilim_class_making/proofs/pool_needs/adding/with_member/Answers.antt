use Rattle.std.proofs.Common.{ℕ, List, ap, ◌∙◌}
use Rattle.kilim_class_pool.specs.declared.entry.Entry.{Entry}
use Rattle.kilim_class_making.specs.pool_needs.Adding.{pair_index, with_ref}
use Rattle.kilim_class_making.proofs.pool_needs.Places.{on_ok}
use Rattle.kilim_class_making.proofs.pool_needs.adding.with_member.Goals as goal

pub returns : goal.returns
returns c =
    on_ok c.with_ref.result
    (λ named.
    named
    ∙ (ap (λ (k : ℕ). with_ref c.args.class k c.with_pair.new.pool) c.pair_index-pair.ensures ∙ ap (λ (p : List Entry). with_ref c.args.class (pair_index p c.args.name c.args.descriptor) p) c.in-Ok.ensures))
    c.with_ref.ensures
