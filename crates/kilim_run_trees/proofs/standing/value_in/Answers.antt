use Rattle.std.proofs.Common.{arith, ap, length, refl}
use Rattle.kilim_run_trees.proofs.Remaining.{field_found, element_found, none_found}
use Rattle.kilim_run_trees.proofs.standing.value_in.Goals as goal

pub returns-then-next-fields : goal.returns-then-next-fields
returns-then-next-fields c = field_found c.args.object.now _ _ _ _ c.as_slice-fields.ensures c.if-next-fields.true refl

pub returns-then-rest-elements : goal.returns-then-rest-elements
returns-then-rest-elements c = element_found c.args.object.now _ _ _ _ c.as_slice-elements.ensures (omega (arith, ap length c.as_slice-fields.ensures, c.if-next-fields.false)) c.if-rest-elements.true c.index-elements-rest.is

pub returns-else-rest-elements : goal.returns-else-rest-elements
returns-else-rest-elements c = none_found c.args.object.now _ (omega (arith, ap length c.as_slice-fields.ensures, c.if-next-fields.false, ap length c.as_slice-elements.ensures, c.if-rest-elements.false))
