use Rattle.std.proofs.Common.{ap, ◌∙◌}
use Rattle.kilim_fiber.specs.Fiber.{task_of, course_of}
use Rattle.kilim_fiber.specs.declared.fiber.Fiber.{Fiber}
use Rattle.kilim_fiber.proofs.named.Naming.{boot_named}
use Rattle.kilim_fiber.proofs.named.NamedFibers.boot.Goals as goal

pub returns-clause-task : goal.returns-clause-task
returns-clause-task g c = ap task_of c.name_program.ensures ∙ c.in-Ok.ensures.task

pub returns-clause-course : goal.returns-clause-course
returns-clause-course g c = ap course_of c.name_program.ensures ∙ c.in-Ok.ensures.course

pub returns-clause-rests : goal.returns-clause-rests
returns-clause-rests g c = ap (λ (f : Fiber). f.rests) c.name_program.ensures ∙ c.in-Ok.ensures.rests

pub returns-clause-refused : goal.returns-clause-refused
returns-clause-refused g c = ap (λ (f : Fiber). f.refused) c.name_program.ensures ∙ c.in-Ok.ensures.refused

pub returns-clause-stands : goal.returns-clause-stands
returns-clause-stands g c = λ set run.
    boot_named g.K.Woven.program g.K.Woven.counted set c.args.code.now c.in-Ok.fiber c.name_program.result c.name_program.ensures run.served (c.in-Ok.ensures.stands set run.served.serves run.is-main)
