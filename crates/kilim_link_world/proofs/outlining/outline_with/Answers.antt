use Rattle.std.proofs.Common.{◌≡◌, List, length, ap, ◌∙◌, subst, arith}
use Rattle.kilim_program.specs.declared.class.Class.{Class}
use Rattle.kilim_program.specs.BuiltIn.{class_id}
use Rattle.kilim_program.specs.Names.{is_task}
use Rattle.kilim_link_world.specs.Agrees.{each_below}
use Rattle.kilim_link_world.specs.Outlining.{bare, mark_at}
use Rattle.kilim_link_world.proofs.Outlines.{length_outlined}
use Rattle.kilim_link_world.proofs.outlining.outline_with.Goals as goal

pub task_marks-requires : goal.task_marks-requires
task_marks-requires c =
    let vs = c.args.classes.now in
    let len : length c.as_slice.result.now ≡ length vs = ap length c.as_slice.ensures ∙ (ap length c.in-Ok.ensures ∙ length_outlined vs (λ d v. mark_at c.args.marks.now d) 0 vs) in
    let few = c.requires.few in
    omega arith

pub invariant_of-result : goal.invariant_of-result
invariant_of-result c =
    subst (λ (cs : List Class). c.in-Ok-task_marks.tasks ≡ each_below (λ k. is_task (bare cs c.args.form) (class_id k)) (length cs)) c.as_slice.ensures (c.in-Ok-task_marks.ensures c.args.form)
