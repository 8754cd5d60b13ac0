use Rattle.kilim_link.proofs.There.{classes_there, fields_there, methods_there}
use Rattle.kilim_link.proofs.linking.parts_of.Goals as goal

pub unreachable-requires : goal.unreachable-requires
unreachable-requires c =
    classes_there c.no_fault_is_a_program.ensures c.linked_in_parts.ensures c.args.files.now c.args.form c.requires.few c.requires.fit c.requires.none c.args.world.now c.requires.whole c.in_ok-classes.field-0 c.in_ok-classes.ensures c.in_default.is

pub unreachable-requires-in_default-2 : goal.unreachable-requires-in_default-2
unreachable-requires-in_default-2 c =
    fields_there c.no_fault_is_a_program.ensures c.linked_in_parts.ensures c.args.files.now c.args.form c.requires.few c.requires.fit c.requires.none c.args.world.now c.requires.whole c.in_ok-fields.field-0 c.in_ok-fields.ensures c.in_default-2.is

pub unreachable-requires-in_default-3 : goal.unreachable-requires-in_default-3
unreachable-requires-in_default-3 c =
    methods_there c.no_fault_is_a_program.ensures c.linked_in_parts.ensures c.args.files.now c.args.form c.requires.few c.requires.fit c.requires.none c.args.world.now c.requires.whole c.in_ok-methods.field-0 c.in_ok-methods.ensures c.in_default-3.is
