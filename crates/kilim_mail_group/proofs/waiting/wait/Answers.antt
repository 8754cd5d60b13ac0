use Rattle.std.proofs.Common.{◌≡◌, ℕ, suc, ◌+◌, List, ◌++◌, ◌∷◌, refl, sym, ap, subst, ◌∙◌, arith}
use Rattle.kilim_run_board.specs.waiting.Parked.{StandsBehind}
use Rattle.kilim_mail_group.proofs.Serving.{waits_on}
use Rattle.kilim_mail_group.proofs.Waiters.{Waiting}
use Rattle.kilim_mail_group.proofs.waiting.wait.Goals as goal

pub returns-clause-stands : goal.returns-clause-stands
returns-clause-stands g c = waits_on g.F.Fibers.task_of g.F.Fibers.course_of g.F.Fibers.asked g.K.Run.of c.args.seat c.args.boxes.now _ c.args.waits c.args.sleeper refl refl refl refl (let e = c.in-Some.ensures in omega arith)
    (subst (λ (ws : List (Waiting _)). StandsBehind (record { waits = c.args.waits; fiber = c.args.sleeper }) ws c.park.new.self.items) (c.in-Ok-reserve.ensures.items ∙ c.in-Ok.ensures.items) c.park.ensures.items)
    c.came.ensures.others c.came.ensures.accounts c.came.ensures.balances c.requires.mine c.requires.asks c.requires.waits c.requires.stands
