use Rattle.std.proofs.Common.{◌≡◌, sym, subst, List, Some}
use Rattle.std.specs.List.{AllByRecursion}
use Rattle.kilim_run_state.specs.declared.value.Object.{Object}
use Rattle.kilim_run_state.specs.declared.value.Token.{Token}
use Rattle.kilim_run_state.specs.Shapes.{shape_of}
use Rattle.kilim_run_trees.specs.Moved.{tree_heap}
use Rattle.kilim_run_trees.specs.Shaping.{Suits}
use Rattle.kilim_run_trees.specs.Emitted.{AreTokens}
use Rattle.kilim_run_trees.proofs.Emitting.{shape_there, shape_is, ok_as}
use Rattle.kilim_run_trees.proofs.shapes.shape.Goals as goal

pub emit_all-requires : goal.emit_all-requires
emit_all-requires c = shape_there c.args.program.now c.tree.inside.objects.items c.as_slice-objects.result.now c.tree.invariant (subst (AllByRecursion (Suits c.args.program.now)) (sym c.tree.view_is) c.requires) c.as_slice-objects.ensures.value

pub returns : goal.returns
returns c =
    ok_as c.emit_all.result (AreTokens c.args.program.now c.as_slice-objects.result.now) (λ (shape : List Token). shape_of c.args.program.now (tree_heap c.args.tree.now) 0 ≡ Some shape) c.emit_all.ensures
    (λ shape are. subst (λ (os : List Object). shape_of c.args.program.now (tree_heap os) 0 ≡ Some shape) c.tree.view_is
    (shape_is c.args.program.now c.tree.inside.objects.items c.as_slice-objects.result.now shape c.tree.invariant (subst (AllByRecursion (Suits c.args.program.now)) (sym c.tree.view_is) c.requires) c.as_slice-objects.ensures.value are))
