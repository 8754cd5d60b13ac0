use Rattle.kilim_class_attributes.specs.declared.attribute.Attribute.{Attribute}
use Rattle.kilim_link_spec.specs.World.{lists_pausable}
use Rattle.kilim_link_views.proofs.Any.{found_at, passed_at}
use Rattle.std.proofs.Common.{sym, ◌∙◌}
use Rattle.kilim_link_views.proofs.Loops.{dropped_in}
use Rattle.std.specs.List.{list_any}
use Rattle.kilim_link_views.proofs.members.is_pausable.Goals as goal

pub returns-then-lists_pausable : goal.returns-then-lists_pausable
returns-then-lists_pausable c = found_at (λ (a : Attribute). lists_pausable c.args.pool.now a.info) c.as_slice-attribute-items.result.now c.args.method.now.attributes c.loop-attribute.attribute-index c.attribute-item.result _ c.lists_pausable.result c.as_slice-attribute-items.ensures c.loop-attribute-test.true c.attribute-item.is c.lists_pausable.ensures c.loop-attribute.invariant c.if-lists_pausable.true

pub loop-attribute-preserved : goal.loop-attribute-preserved
loop-attribute-preserved c = passed_at (λ (a : Attribute). lists_pausable c.args.pool.now a.info) c.as_slice-attribute-items.result.now c.args.method.now.attributes c.loop-attribute.attribute-index c.attribute-item.result _ c.lists_pausable.result c.as_slice-attribute-items.ensures c.loop-attribute-test.true c.attribute-item.is c.lists_pausable.ensures c.loop-attribute.invariant c.if-lists_pausable.false

pub returns : goal.returns
returns c = sym (dropped_in (list_any (λ (a : Attribute). lists_pausable c.args.pool.now a.info)) c.as_slice-attribute-items.result.now c.args.method.now.attributes c.loop-attribute.attribute-index c.as_slice-attribute-items.ensures c.loop-attribute-test.false) ∙ c.loop-attribute.invariant
