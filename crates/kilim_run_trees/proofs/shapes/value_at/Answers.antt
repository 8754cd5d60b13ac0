use Rattle.std.proofs.Common.{arith, refl, ap, length}
use Rattle.kilim_run_trees.proofs.Emitting.{field_found, element_found, none_found, none_out}
use Rattle.kilim_run_trees.proofs.shapes.value_at.Goals as goal

pub returns-then-at-objects : goal.returns-then-at-objects
returns-then-at-objects c = none_out _ _ _ c.if-at-objects.true

pub returns-then-next-fields : goal.returns-then-next-fields
returns-then-next-fields c = field_found _ _ _ _ _ _ _ c.if-at-objects.false c.index-objects-at.is c.as_slice-fields.ensures c.if-next-fields.true refl

pub returns-then-rest-elements : goal.returns-then-rest-elements
returns-then-rest-elements c = element_found _ _ _ _ _ _ _ c.if-at-objects.false c.index-objects-at.is c.as_slice-elements.ensures (omega (arith, ap length c.as_slice-fields.ensures, c.if-next-fields.false)) c.if-rest-elements.true c.index-elements-rest.is

pub returns-else-rest-elements : goal.returns-else-rest-elements
returns-else-rest-elements c = none_found _ _ _ _ c.if-at-objects.false c.index-objects-at.is (omega (arith, ap length c.as_slice-fields.ensures, c.if-next-fields.false, ap length c.as_slice-elements.ensures, c.if-rest-elements.false))
