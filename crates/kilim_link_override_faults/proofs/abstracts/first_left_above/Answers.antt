use Rattle.std.proofs.Common.{get_or, take, filter, sym, ap, ◌∙◌}
use Rattle.std.specs.Option.{option_copied}
use Rattle.std.proofs.lemmas.List.{get_or_default}
use Rattle.kilim_program.specs.BuiltIn.{class_id}
use Rattle.kilim_program.specs.Keeps.{ancestors_of}
use Rattle.kilim_link_spec.specs.Faults.{left_above}
use Rattle.kilim_link_spec.specs.Linked.{first_of}
use Rattle.kilim_link_spec.specs.World.{declared_methods}
use Rattle.kilim_link_override_faults.specs.Parts.{is_left_over}
use Rattle.kilim_link_override_faults.proofs.Leaving.{stands_behind}
use Rattle.kilim_link_override_faults.proofs.Places.{stops_at}
use Rattle.kilim_link_override_faults.proofs.abstracts.first_left_above.Goals as goal

pub returns-in-Ok-Some : goal.returns-in-Ok-Some
returns-in-Ok-Some c =
    let w = c.args.world.now in
    let ds = c.args.ancestors.now in
    let d = get_or ds c.loop-i.i (class_id 0) in
    let found = sym (ap option_copied c.in-Ok-Some.field-0-is) ∙ (c.in-Ok-Some.ensures ∙ ap (λ ms. first_of (filter (is_left_over w c.args.class (take c.loop-i.i ds)) ms)) c.methods_of-methods.ensures) in
    stops_at w c.args.class ds c.loop-i.i d (first_of (left_above w (declared_methods w c.args.class) ds)) c.loop-i-test.true (get_or_default ds c.loop-i.i (class_id 0) d c.loop-i-test.true) c.loop-i.invariant c.in-Ok-Some.method.now found

pub first_left_over-requires-clause-behind : goal.first_left_over-requires-clause-behind
first_left_over-requires-clause-behind c =
    let w = c.args.world.now in
    let ds = c.args.ancestors.now in
    let d = get_or ds c.loop-i.i (class_id 0) in
    stands_behind (ancestors_of w.outline c.args.class) ds c.loop-i.i d c.requires.all c.loop-i-test.true (get_or_default ds c.loop-i.i (class_id 0) d c.loop-i-test.true)
