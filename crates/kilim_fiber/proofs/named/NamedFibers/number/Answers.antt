use Rattle.std.proofs.Common.{ap, ◌∙◌}
use Rattle.kilim_fiber.specs.Fiber.{course_of}
use Rattle.kilim_fiber.proofs.named.Naming.{number_named}
use Rattle.kilim_fiber.proofs.named.NamedFibers.number.Goals as goal

pub returns-clause-stands : goal.returns-clause-stands
returns-clause-stands g c = λ set stands.
    number_named g.K.Woven.program g.K.Woven.counted set c.self.inside.fiber c.args.self.now c.number.new.self c.args.task c.self.view_is c.requires.course c.requires.none c.number.ensures.same stands

pub returns-clause-course : goal.returns-clause-course
returns-clause-course g c = ap course_of c.number.ensures.same ∙ ap course_of c.self.view_is
