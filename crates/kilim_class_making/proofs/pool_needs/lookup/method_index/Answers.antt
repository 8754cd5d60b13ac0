use Rattle.std.proofs.Common.{ap, ◌∙◌}
use Rattle.kilim_class_making.specs.pool_needs.Adding.{class_index, member_index, text_index}
use Rattle.kilim_class_making.proofs.pool_needs.lookup.method_index.Goals as goal

pub returns : goal.returns
returns c =
    c.call_index.ensures
    ∙ (ap (λ k. member_index c.args.pool.now k c.text_index-text.result (text_index c.args.pool.now c.args.descriptor.now)) c.class_index-class.ensures
    ∙ ap (λ n. member_index c.args.pool.now (class_index c.args.pool.now c.args.owner.now) n (text_index c.args.pool.now c.args.descriptor.now)) c.text_index-text.ensures)
