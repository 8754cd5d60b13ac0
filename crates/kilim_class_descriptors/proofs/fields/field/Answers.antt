use Rattle.kilim_class_descriptors.proofs.Spelled as spelled
use Rattle.kilim_class_descriptors.proofs.Places.{place, whole_halts}
use Rattle.kilim_class_descriptors.proofs.fields.field.Goals as goal

pub overflow_sub-result : goal.overflow_sub-result
overflow_sub-result c = spelled.few spelled.whole c.as_slice-units.result.now c.args.text.now c.as_slice-units.ensures c.in-Err-Left.field-0 c.in-Err-Left.left c.in-Err-Left.field-0-is c.in-Err-Left.ensures

pub returns-in-Ok-clause-found : goal.returns-in-Ok-clause-found
returns-in-Ok-clause-found c = spelled.found spelled.whole c.as_slice-units.result.now c.args.text.now c.as_slice-units.ensures c.in-Ok.found c.in-Ok.ensures

pub returns-in-Ok-clause-only : goal.returns-in-Ok-clause-only
returns-in-Ok-clause-only c = spelled.only spelled.whole c.as_slice-units.result.now c.args.text.now c.as_slice-units.ensures c.in-Ok.found c.in-Ok.ensures

pub returns-in-Err-Left-clause-only : goal.returns-in-Err-Left-clause-only
returns-in-Err-Left-clause-only c = λ f fits e. absurd (spelled.never spelled.whole c.as_slice-units.result.now c.args.text.now c.as_slice-units.ensures c.in-Err-Left.field-0 c.in-Err-Left.left c.in-Err-Left.field-0-is c.in-Err-Left.ensures f fits e)

pub returns-in-Err-Left-clause-exact : goal.returns-in-Err-Left-clause-exact
returns-in-Err-Left-clause-exact c = spelled.stops spelled.whole c.as_slice-units.result.now c.args.text.now c.as_slice-units.ensures c.in-Err-Left.field-0 c.in-Err-Left.left c.in-Err-Left.field-0-is c.in-Err-Left.ensures

pub returns-in-Err-Left-clause-place : goal.returns-in-Err-Left-clause-place
returns-in-Err-Left-clause-place c = place spelled.whole whole_halts c.as_slice-units.result.now c.args.text.now c.as_slice-units.ensures c.in-Err-Left.field-0 c.in-Err-Left.left c.in-Err-Left.field-0-is c.in-Err-Left.ensures
