use Rattle.std.proofs.Common.{◌∙◌, subst, List}
use Rattle.kilim_run_state.specs.declared.value.Object.{Object}
use Rattle.kilim_run_trees.specs.Moved.{PutIn}
use Rattle.kilim_run_trees.proofs.Filling.{can_fill, put_in}
use Rattle.kilim_run_trees.proofs.put.put_in.Goals as goal

pub fill-requires : goal.fill-requires
fill-requires c = can_fill _ _ _ _ c.tree.invariant.preorder c.in-Some.ensures.some.0 (c.in-Some.ensures.some.1 ∙ (c.len.ensures ∙ c.tree.inside.objects.ok.0))

pub returns-clause-ok : goal.returns-clause-ok
returns-clause-ok c = subst (λ (os : List Object). PutIn c.args.heap.now os c.fill.new.heap c.index.result.now) c.tree.view_is (put_in _ _ _ _ _ _ c.tree.invariant.preorder c.in-Some.ensures.some.0 (c.in-Some.ensures.some.1 ∙ (c.len.ensures ∙ c.tree.inside.objects.ok.0)) c.fill.ensures c.index.ensures)
