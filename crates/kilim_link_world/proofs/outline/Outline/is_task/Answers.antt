use Rattle.std.proofs.Common.{ap, ◌∙◌}
use Rattle.kilim_program.specs.Names.{is_task}
use Rattle.kilim_link_world.specs.Outlining.{bare}
use Rattle.kilim_link_world.proofs.Marked.{task_is}
use Rattle.kilim_link_world.proofs.outline.Outline.is_task.Goals as goal

pub returns : goal.returns
returns c =
    let o = c.self.inside in
    c.mark_in.ensures ∙ (task_is (bare o.classes o.form) o.tasks c.args.class c.self.invariant ∙ ap (λ p. is_task p c.args.class) c.self.view_is)
