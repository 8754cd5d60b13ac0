use Rattle.std.proofs.Common.{◌∷◌, ◌++◌, [], sym, ◌∙◌}
use Rattle.kilim_class_pool.specs.declared.entry.Entry.TheVariants.{NameAndType}
use Rattle.kilim_class_making.specs.pool_needs.Adding.{is_pair, with_pair}
use Rattle.kilim_class_making.proofs.pool_needs.Places.{kept, on_ok, put, same_numbers}
use Rattle.kilim_class_making.proofs.pool_needs.adding.with_pair.Goals as goal

pub returns-then-pair_index-ne0 : goal.returns-then-pair_index-ne0
unfolding with_pair
returns-then-pair_index-ne0 c =
    sym (kept (is_pair c.args.name c.args.descriptor) c.args.pool.now (c.args.pool.now ++ NameAndType c.args.name c.args.descriptor ∷ []) (λ h. c.if-pair_index-ne0.true (c.pair_index.ensures ∙ h)))

pub returns : goal.returns
unfolding with_pair
returns c =
    on_ok c.append.result
    (λ added. put (is_pair c.args.name c.args.descriptor) c.args.pool.now c.append.new.pool (NameAndType c.args.name c.args.descriptor) (sym c.pair_index.ensures ∙ c.if-pair_index-ne0.false) added (same_numbers c.args.name c.args.descriptor))
    c.append.ensures
