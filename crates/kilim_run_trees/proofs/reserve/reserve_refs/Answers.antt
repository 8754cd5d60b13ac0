use Rattle.std.proofs.Common.{arith, length-append}
use Rattle.kilim_run_trees.specs.Walk.{field_refs, element_refs}
use Rattle.kilim_run_trees.proofs.Stacks.{refs_few, field_refs_few}
use Rattle.kilim_run_trees.proofs.Sizes.{ok_then}
use Rattle.kilim_run_trees.proofs.reserve.reserve_refs.Goals as goal

pub returns-in-Some-clause-room : goal.returns-in-Some-clause-room
returns-in-Some-clause-room c ok =
    let made = ok_then _ _ _ c.is_ok.ensures.value ok c.reserve.ensures.ok in
    omega (arith, made, c.len.ensures, c.len-2.ensures, c.in-Some.ensures, refs_few c.args.object.now.elements, field_refs_few c.args.object.now.fields, length-append (field_refs c.args.object.now.fields) (element_refs c.args.object.now.elements))
