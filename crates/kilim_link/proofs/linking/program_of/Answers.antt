use Rattle.std.proofs.Common.{ℕ, ◌++◌, length, ap, ◌∙◌, arith}
use Rattle.kilim_program.specs.BuiltIn.{built_in_classes_in}
use Rattle.kilim_link.proofs.Whole.{classes_are_files, methods_are_few, is_linked}
use Rattle.kilim_link.proofs.linking.program_of.Goals as goal

pub overflow_cast-count : goal.overflow_cast-count
overflow_cast-count c = let few = methods_are_few c.args.files.now c.args.form c.in-Ok.parts c.in-Ok.ensures c.requires.fit in omega (arith, c.requires.few, c.len-count.ensures)

pub all_classes-requires-clause-few : goal.all_classes-requires-clause-few
all_classes-requires-clause-few c = omega (arith, c.requires.few, classes_are_files c.args.files.now c.args.form c.in-Ok.parts c.in-Ok.ensures)

pub all_classes-requires-clause-bounded : goal.all_classes-requires-clause-bounded
all_classes-requires-clause-bounded c = let few = methods_are_few c.args.files.now c.args.form c.in-Ok.parts c.in-Ok.ensures c.requires.fit in omega (arith, c.requires.few, c.len-count.ensures)

pub invariant_of-result : goal.invariant_of-result
invariant_of-result c =
    let linked = is_linked c.args.files.now c.args.form c.in-Ok.parts c.in-Ok.ensures c.in-Ok-all_classes.classes c.in-Ok-all_methods.methods c.in-Ok-all_fields.fields (c.in-Ok-all_classes.ensures ∙ ap (λ (n : ℕ). c.in-Ok.parts.classes ++ built_in_classes_in c.args.form (length c.in-Ok.parts.classes) n) c.len-count.ensures) c.in-Ok-all_methods.ensures c.in-Ok-all_fields.ensures in
    c.links_keep.ensures c.args.files.now c.args.form _ (record { few = c.requires.few; fit = c.requires.fit; none = c.requires.none; linked = linked })

pub returns : goal.returns
returns c = is_linked c.args.files.now c.args.form c.in-Ok.parts c.in-Ok.ensures c.in-Ok-all_classes.classes c.in-Ok-all_methods.methods c.in-Ok-all_fields.fields (c.in-Ok-all_classes.ensures ∙ ap (λ (n : ℕ). c.in-Ok.parts.classes ++ built_in_classes_in c.args.form (length c.in-Ok.parts.classes) n) c.len-count.ensures) c.in-Ok-all_methods.ensures c.in-Ok-all_fields.ensures
