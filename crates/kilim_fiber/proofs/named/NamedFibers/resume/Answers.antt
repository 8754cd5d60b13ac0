use Rattle.std.proofs.Common.{◌≤◌, ap, subst, sym, ◌∙◌}
use Rattle.kilim_run_board.specs.fibers.Fibers.{RestsRightly, StartsAtNone, StartsFresh}
use Rattle.kilim_run_board.specs.declared.fibers.Wants.{Wants}
use Rattle.kilim_fiber.specs.Fiber.{task_of, course_of}
use Rattle.kilim_fiber.specs.declared.fiber.Fiber.{Fiber}
use Rattle.kilim_fiber.proofs.named.Naming.{run_named, wants_named}
use Rattle.kilim_fiber.proofs.named.NamedFibers.resume.Goals as goal

pub returns-clause-task : goal.returns-clause-task
returns-clause-task g c = c.in-Ok.ensures.gives.task ∙ ap task_of c.self.view_is

pub returns-clause-course : goal.returns-clause-course
returns-clause-course g c = c.in-Ok.ensures.gives.course ∙ ap course_of c.self.view_is

pub returns-clause-counted : goal.returns-clause-counted
returns-clause-counted g c = subst (λ (f : Fiber). f.body.count ≤ c.resume.new.self.body.count) c.self.view_is c.in-Ok.ensures.gives.counted

pub resume-requires : goal.resume-requires
resume-requires g c = run_named g.K.Woven.program g.K.Woven.counted c.args.code.now c.args.limits.now c.self.inside.fiber c.args.self.now c.self.view_is c.requires

pub returns-clause-wants : goal.returns-clause-wants
returns-clause-wants g c =
    wants_named g.K.Woven.program g.K.Woven.counted c.args.code.now c.args.limits.now c.self.inside.fiber c.args.self.now c.resume.new.self c.in-Ok.wants c.with_program.result c.self.view_is c.with_program.ensures c.in-Ok.ensures.gives.wants

pub returns-clause-rest : goal.returns-clause-rest
returns-clause-rest g c =
    subst (λ (w : Wants Fiber). RestsRightly c.resume.new.self.rests c.args.self.now.refused c.args.self.now.body.count c.resume.new.self.body.count w) (sym c.with_program.ensures)
    (subst (λ (f : Fiber). RestsRightly c.resume.new.self.rests f.refused f.body.count c.resume.new.self.body.count c.in-Ok.wants) c.self.view_is c.in-Ok.ensures.gives.rest)

pub returns-clause-fresh : goal.returns-clause-fresh
returns-clause-fresh g c = subst (λ (w : Wants Fiber). StartsFresh (λ (f : Fiber). f.rests) (λ (f : Fiber). f.refused) w) (sym c.with_program.ensures) c.in-Ok.ensures.gives.fresh

pub returns-clause-none : goal.returns-clause-none
returns-clause-none g c = subst (λ (w : Wants Fiber). StartsAtNone (λ (f : Fiber). f.body.count) w) (sym c.with_program.ensures) c.in-Ok.ensures.gives.none
