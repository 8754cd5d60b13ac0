use Rattle.kilim_fiber_body.specs.Body.{behind_at}
use Rattle.kilim_fiber_body.proofs.Asking.{name_by, wait_known, wait_same}
use Rattle.kilim_fiber_body.proofs.asks.ask_of_three.Goals as goal

pub put_or_wait-requires-clause-can : goal.put_or_wait-requires-clause-can
put_or_wait-requires-clause-can c = wait_known c.args.plain.now c.args.program.now c.args.limits.now c.args.body.now c.args.native c.args.first.now c.args.second.now c.args.third.now c.in-PutWait.is c.in-Fiber.is c.requires.can

pub returns-clause-comes : goal.returns-clause-comes
returns-clause-comes c = λ set is-program is-limits.
    name_by c.args.body.now.heap c.put_or_wait.new.body c.put_or_wait.result _ _ (c.put_or_wait.ensures.comes set is-program is-limits)
    (λ x. wait_same set c.args.program.now (behind_at x c.args.body.now) c.args.native c.args.first.now c.args.second.now c.args.third.now c.in-PutWait.is c.in-Fiber.is)
