use Rattle.std.proofs.Common.{◌∙◌}
use Rattle.kilim_fiber.proofs.Beginning.{boot_stands}
use Rattle.kilim_fiber.proofs.fiber.Fiber.boot.Goals as goal

pub returns-clause-task : goal.returns-clause-task
returns-clause-task c = c.new_fiber.ensures.task

pub returns-clause-course : goal.returns-clause-course
returns-clause-course c = λ i. record { beginning = (c.new_fiber.ensures.beginning ∙ c.of.ensures) i; deeds = c.new_fiber.ensures.past i }

pub returns-clause-rests : goal.returns-clause-rests
returns-clause-rests c = c.new_fiber.ensures.rests

pub returns-clause-refused : goal.returns-clause-refused
returns-clause-refused c = c.new_fiber.ensures.refused

pub returns-clause-stands : goal.returns-clause-stands
returns-clause-stands c = λ set served is-main. boot_stands set c.args.code.now served c.args.main _ c.in-Ok.body c.new_fiber.result c.of.ensures c.if-body.false c.in-Ok.ensures c.new_fiber.ensures is-main
