use Rattle.std.proofs.Common.{◌≡◌, ap, ◌∙◌, arith, inr}
use Rattle.kilim_class_descriptors.specs.declared.fault.DescriptorFault.TheVariants.{TooManySlots}
use Rattle.std.specs.Prelude.{sum_by}
use Rattle.kilim_class_descriptors.specs.Text.{slots, slots_of}
use Rattle.kilim_class_descriptors.proofs.Spelled as spelled
use Rattle.kilim_class_descriptors.proofs.SpelledMethods.{whole}
use Rattle.kilim_class_descriptors.proofs.Places.{place}
use Rattle.kilim_class_descriptors.proofs.PlacesMethods.{method_halts}
use Rattle.kilim_class_descriptors.proofs.methods.method.Goals as goal

pub returns-then-slots-gt255-clause-only : goal.returns-then-slots-gt255-clause-only
returns-then-slots-gt255-clause-only c = λ m fits e le.
    let same = spelled.only whole c.as_slice-units.result.now c.args.text.now c.as_slice-units.ensures c.in-Ok.found c.in-Ok.ensures m fits e in
    let counted : c.slots_of-slots.result ≡ slots_of c.in-Ok.found = c.slots_of-slots.ensures ∙ ap (sum_by slots) c.as_slice.ensures in
    absurd (omega (arith, le, counted, ap slots_of same, c.if-slots-gt255.true))

pub overflow_sub-result : goal.overflow_sub-result
overflow_sub-result c = spelled.few whole c.as_slice-units.result.now c.args.text.now c.as_slice-units.ensures c.in-Err-Left.field-0 c.in-Err-Left.left c.in-Err-Left.field-0-is c.in-Err-Left.ensures

pub returns-else-slots-gt255-clause-found : goal.returns-else-slots-gt255-clause-found
returns-else-slots-gt255-clause-found c =
    let t = spelled.found whole c.as_slice-units.result.now c.args.text.now c.as_slice-units.ensures c.in-Ok.found c.in-Ok.ensures in
    let counted : c.slots_of-slots.result ≡ slots_of c.in-Ok.found = c.slots_of-slots.ensures ∙ ap (sum_by slots) c.as_slice.ensures in
    (t.0, t.1, omega (arith, counted, c.if-slots-gt255.false))

pub returns-else-slots-gt255-clause-only : goal.returns-else-slots-gt255-clause-only
returns-else-slots-gt255-clause-only c = λ m fits e le. spelled.only whole c.as_slice-units.result.now c.args.text.now c.as_slice-units.ensures c.in-Ok.found c.in-Ok.ensures m fits e

pub returns-in-Err-Left-clause-only : goal.returns-in-Err-Left-clause-only
returns-in-Err-Left-clause-only c = λ m fits e le. absurd (spelled.never whole c.as_slice-units.result.now c.args.text.now c.as_slice-units.ensures c.in-Err-Left.field-0 c.in-Err-Left.left c.in-Err-Left.field-0-is c.in-Err-Left.ensures m fits e)

pub returns-in-Err-Left-clause-exact : goal.returns-in-Err-Left-clause-exact
returns-in-Err-Left-clause-exact c = spelled.stops whole c.as_slice-units.result.now c.args.text.now c.as_slice-units.ensures c.in-Err-Left.field-0 c.in-Err-Left.left c.in-Err-Left.field-0-is c.in-Err-Left.ensures

pub returns-then-slots-gt255-clause-many : goal.returns-then-slots-gt255-clause-many
returns-then-slots-gt255-clause-many c = λ m fits e gt.
    let same = spelled.only whole c.as_slice-units.result.now c.args.text.now c.as_slice-units.ensures c.in-Ok.found c.in-Ok.ensures m fits e in
    let counted : c.slots_of-slots.result ≡ slots_of c.in-Ok.found = c.slots_of-slots.ensures ∙ ap (sum_by slots) c.as_slice.ensures in
    inr (ap TooManySlots (counted ∙ ap slots_of same))

pub returns-else-slots-gt255-clause-many : goal.returns-else-slots-gt255-clause-many
returns-else-slots-gt255-clause-many c = λ m fits e gt.
    let same = spelled.only whole c.as_slice-units.result.now c.args.text.now c.as_slice-units.ensures c.in-Ok.found c.in-Ok.ensures m fits e in
    let counted : c.slots_of-slots.result ≡ slots_of c.in-Ok.found = c.slots_of-slots.ensures ∙ ap (sum_by slots) c.as_slice.ensures in
    absurd (omega (arith, gt, counted, ap slots_of same, c.if-slots-gt255.false))

pub returns-in-Err-Left-clause-many : goal.returns-in-Err-Left-clause-many
returns-in-Err-Left-clause-many c = λ m fits e gt. absurd (spelled.never whole c.as_slice-units.result.now c.args.text.now c.as_slice-units.ensures c.in-Err-Left.field-0 c.in-Err-Left.left c.in-Err-Left.field-0-is c.in-Err-Left.ensures m fits e)

pub returns-in-Err-Left-clause-place : goal.returns-in-Err-Left-clause-place
returns-in-Err-Left-clause-place c = place whole method_halts c.as_slice-units.result.now c.args.text.now c.as_slice-units.ensures c.in-Err-Left.field-0 c.in-Err-Left.left c.in-Err-Left.field-0-is c.in-Err-Left.ensures
