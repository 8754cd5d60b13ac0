use Rattle.std.proofs.Common.{ap, ◌∙◌}
use Rattle.kilim_class_making.specs.pool_needs.Adding.{member_index}
use Rattle.kilim_class_making.proofs.pool_needs.lookup.call_index.Goals as goal

pub returns : goal.returns
returns c = c.member_index.ensures ∙ ap (λ d. member_index c.args.pool.now c.args.class c.args.name d) c.text_index.ensures
