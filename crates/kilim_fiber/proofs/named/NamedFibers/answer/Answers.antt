use Rattle.std.proofs.Common.{◌≡◌, subst}
use Rattle.std.specs.Prelude.{OnOk}
use Rattle.kilim_fiber.specs.Fiber.{task_of}
use Rattle.kilim_fiber.specs.declared.fiber.Fiber.{Fiber}
use Rattle.kilim_fiber.proofs.named.Naming.{answer_named, asked_named, went_named}
use Rattle.kilim_fiber.proofs.named.NamedFibers.answer.Goals as goal

pub answer-requires : goal.answer-requires
answer-requires g c = answer_named g.K.Woven.program g.K.Woven.counted c.args.code.now c.self.inside.fiber c.args.self.now c.args.answer c.self.view_is c.requires

pub returns-clause-task : goal.returns-clause-task
returns-clause-task g c = subst (λ (f : Fiber). OnOk c.answer.result (task_of c.answer.new.self ≡ task_of f)) c.self.view_is c.answer.ensures.task

pub returns-clause-goes : goal.returns-clause-goes
returns-clause-goes g c = λ set wish deed s asks fits.
    went_named g.K.Woven.program g.K.Woven.counted c.answer.result c.args.code.now set c.self.inside.fiber c.args.self.now c.answer.new.self wish deed c.self.view_is s
    (c.answer.ensures.goes set wish deed s.serves (asked_named g.K.Woven.program g.K.Woven.counted set c.args.code.now c.self.inside.fiber c.args.self.now wish c.self.view_is s asks) fits)
