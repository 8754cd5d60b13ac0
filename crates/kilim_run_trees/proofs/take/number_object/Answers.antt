use Rattle.std.proofs.Common.{arith, length-append, ap, length, reverse}
use Rattle.std.proofs.lemmas.List.{length-reverse}
use Rattle.kilim_run_trees.specs.Walk.{value_refs, field_refs, element_refs}
use Rattle.kilim_run_trees.specs.Steps.{AlikeField}
use Rattle.kilim_run_trees.proofs.Numbering.{pair_refs, same_many_field}
use Rattle.kilim_run_trees.proofs.take.number_object.Goals as goal

pub number_in_elements-requires : goal.number_in_elements-requires
number_in_elements-requires c = omega (arith, c.requires, length-append (field_refs c.args.object.now.fields) (element_refs c.args.object.now.elements), pair_refs (λ e. value_refs e.1) AlikeField same_many_field c.args.object.now.fields c.number_in_fields.new.fields c.number_in_fields.ensures.alike, ap length c.number_in_fields.ensures.refs, length-append (field_refs c.number_in_fields.new.fields) (reverse c.number_in_fields.new.stack.items), length-reverse c.number_in_fields.new.stack.items, length-reverse c.args.stack.now.items)
