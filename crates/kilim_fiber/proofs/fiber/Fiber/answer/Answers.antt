use Rattle.kilim_fiber.proofs.Answered.{answers_asked, goes}
use Rattle.kilim_fiber.proofs.fiber.Fiber.answer.Goals as goal

pub returns-clause-goes : goal.returns-clause-goes
returns-clause-goes c = goes c.args.code.now c.args.answer c.args.self.now _ c.answered.new.self c.answered.result _ c.replace-asked.ensures.value c.answered.ensures

pub answered-requires-clause-few : goal.answered-requires-clause-few
answered-requires-clause-few c = c.requires.asks.is-asked.room

pub answered-requires-clause-fits : goal.answered-requires-clause-fits
answered-requires-clause-fits c = answers_asked c.args.code.now c.args.self.now c.args.answer _ c.replace-asked.ensures.value c.requires
