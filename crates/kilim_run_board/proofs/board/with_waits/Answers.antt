use Rattle.std.proofs.Common.{arith, ◌≡◌, ◌++◌, ap, ◌∙◌}
use Rattle.kilim_run_board.specs.Board.{closing}
use Rattle.kilim_run_board.proofs.Closing.{closes_none, closes_some}
use Rattle.kilim_run_board.proofs.board.with_waits.Goals as goal
use Rattle.kilim_run_board.proofs.board.with_waits.Goals.{in-Some+in-Ok-push, in-None}

pub loop-t-preserved : goal.loop-t-preserved
loop-t-preserved g c =
    let is = c.parked_at.ensures ∙ c.in-Ok.ensures.at c.loop-t.t (omega arith) in
    elim c.match-parked_at.branch [
      | in-Some+in-Ok-push w ↦ closes_some g.F.Fibers.task_of c.args.journal.items c.loop-t.entries _ c.args.waiters.now c.loop-t.t c.parked_at.result w.in-Some.mailbox is w.in-Some.is c.loop-t.invariant (w.entries-is ∙ w.in-Ok-push.ensures.ok)
      | in-None w ↦ closes_none g.F.Fibers.task_of c.args.journal.items c.loop-t.entries _ c.args.waiters.now c.loop-t.t c.parked_at.result is w.in-None.is c.loop-t.invariant w.entries-is
    ]

pub returns : goal.returns
returns g c =
    let t : c.loop-t.t ≡ c.args.tasks = let e = c.loop-t.auto.t-end in let f = c.loop-t-test.false in omega arith in
    c.into_vec.ensures ∙ (c.loop-t.invariant ∙ ap (λ n. c.args.journal.items ++ closing g.F.Fibers.task_of c.args.waiters.now 0 n) t)
