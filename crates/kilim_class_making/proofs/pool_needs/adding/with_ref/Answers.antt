use Rattle.std.proofs.Common.{◌∷◌, ◌++◌, [], sym, ◌∙◌}
use Rattle.kilim_class_pool.specs.declared.entry.Entry.TheVariants.{Methodref}
use Rattle.kilim_class_making.specs.pool_needs.Adding.{is_ref, with_ref}
use Rattle.kilim_class_making.proofs.pool_needs.Places.{kept, on_ok, put, same_numbers}
use Rattle.kilim_class_making.proofs.pool_needs.adding.with_ref.Goals as goal

pub returns-then-ref_index-ne0 : goal.returns-then-ref_index-ne0
unfolding with_ref
returns-then-ref_index-ne0 c =
    sym (kept (is_ref c.args.class c.args.member) c.args.pool.now (c.args.pool.now ++ Methodref c.args.class c.args.member ∷ []) (λ h. c.if-ref_index-ne0.true (c.ref_index.ensures ∙ h)))

pub returns : goal.returns
unfolding with_ref
returns c =
    on_ok c.append.result
    (λ added. put (is_ref c.args.class c.args.member) c.args.pool.now c.append.new.pool (Methodref c.args.class c.args.member) (sym c.ref_index.ensures ∙ c.if-ref_index-ne0.false) added (same_numbers c.args.class c.args.member))
    c.append.ensures
