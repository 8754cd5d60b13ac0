use Rattle.std.proofs.Common.{◌≤◌, ℕ, List, Option, Some, ap, refl, subst, sym, length}
use Rattle.std.specs.Prelude.{slice_set}
use Rattle.kilim_run_board.specs.Seen.{seen}
use Rattle.kilim_run_follow.proofs.Orders.{lends, lent_fits, task_lent}
use Rattle.kilim_run_follow.proofs.lending.lend_task.Goals as goal

pub returns-in-Some-clause-stands : goal.returns-in-Some-clause-stands
returns-in-Some-clause-stands g c = λ set st.
    task_lent g.F.Fibers.task_of g.F.Fibers.course_of g.F.Fibers.holds set (seen c.args.board.now) _ c.args.task c.in-Some.fiber c.requires.free
    (lends g.F.Fibers.task_of (seen c.args.board.now) _ c.args.task c.in-Some.fiber c.in-Some.ensures.some c.requires.free refl refl refl (λ box. refl) refl refl) st

pub returns-in-Some-clause-roomy : goal.returns-in-Some-clause-roomy
returns-in-Some-clause-roomy g c = record {
  fits = lent_fits c.args.board.now.ready.items c.take_out.new.ready.items c.in-Some.fiber c.args.board.now.cells.items _ c.args.task (length c.args.board.now.parked.items) c.args.board.now.tasks c.in-Some.ensures.some.parts c.requires.free
      (ap (λ (cs : List (Option ℕ)). slice_set cs 0 (Some c.args.task)) c.requires.free) c.requires.roomy.fits;
  ready = subst (λ (n : ℕ). c.args.board.now.tasks ≤ n) (sym c.take_out.ensures.room) c.requires.roomy.ready;
  parked = c.requires.roomy.parked;
  few = c.requires.roomy.few;
  counted = c.requires.roomy.counted;
}
