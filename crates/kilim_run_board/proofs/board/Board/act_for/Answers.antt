use Rattle.std.proofs.Common.{subst, sym}
use Rattle.kilim_run_board.specs.declared.fibers.Answer.TheVariants as answer
use Rattle.kilim_run_board.specs.declared.board.Acted.TheVariants as acted
use Rattle.kilim_run_board.specs.Seen.{seen, ActAnswers, IsNumbered}
use Rattle.kilim_run_board.proofs.board.Board.act_for.Goals as goal

pub returns-in-Put-clause-effect : goal.returns-in-Put-clause-effect
returns-in-Put-clause-effect g c =
    subst (λ w. ActAnswers (IsNumbered g.F.Fibers.task_of g.F.Fibers.course_of g.F.Fibers.count_of g.F.Fibers.refused g.F.Fibers.holds) (seen c.args.self.now) c.args.seat c.args.task (seen c.put_or_end.new.self) w c.put_or_end.result)
    (sym c.in-Put.is) c.put_or_end.ensures.effect

pub returns-in-Put-clause-roomy : goal.returns-in-Put-clause-roomy
returns-in-Put-clause-roomy g c = c.put_or_end.ensures.roomy

pub returns-in-PutWait-clause-effect : goal.returns-in-PutWait-clause-effect
returns-in-PutWait-clause-effect g c =
    subst (λ w. ActAnswers (IsNumbered g.F.Fibers.task_of g.F.Fibers.course_of g.F.Fibers.count_of g.F.Fibers.refused g.F.Fibers.holds) (seen c.args.self.now) c.args.seat c.args.task (seen c.put_or_wait.new.self) w c.put_or_wait.result)
    (sym c.in-PutWait.is) c.put_or_wait.ensures.effect

pub returns-in-PutWait-clause-roomy : goal.returns-in-PutWait-clause-roomy
returns-in-PutWait-clause-roomy g c = c.put_or_wait.ensures.roomy

pub returns-in-Bound-clause-effect : goal.returns-in-Bound-clause-effect
returns-in-Bound-clause-effect g c =
    subst (λ w. ActAnswers (IsNumbered g.F.Fibers.task_of g.F.Fibers.course_of g.F.Fibers.count_of g.F.Fibers.refused g.F.Fibers.holds) (seen c.args.self.now) c.args.seat c.args.task (seen c.bound.new.self) w (acted.Answer answer.Done))
    (sym c.in-Bound.is) c.bound.ensures.effect

pub returns-in-Bound-clause-roomy : goal.returns-in-Bound-clause-roomy
returns-in-Bound-clause-roomy g c = c.bound.ensures.roomy

pub returns-in-Some-clause-effect : goal.returns-in-Some-clause-effect
returns-in-Some-clause-effect g c =
    subst (λ w. ActAnswers (IsNumbered g.F.Fibers.task_of g.F.Fibers.course_of g.F.Fibers.count_of g.F.Fibers.refused g.F.Fibers.holds) (seen c.args.self.now) c.args.seat c.args.task (seen c.take.new.self) w (acted.Answer (answer.Message c.in-Some.tree c.in-Some.number)))
    (sym c.in-Take.is) c.in-Some.ensures.effect

pub returns-in-Some-clause-roomy : goal.returns-in-Some-clause-roomy
returns-in-Some-clause-roomy g c = c.take.ensures.roomy

pub returns-in-None-clause-effect : goal.returns-in-None-clause-effect
returns-in-None-clause-effect g c =
    subst (λ w. ActAnswers (IsNumbered g.F.Fibers.task_of g.F.Fibers.course_of g.F.Fibers.count_of g.F.Fibers.refused g.F.Fibers.holds) (seen c.args.self.now) c.args.seat c.args.task (seen c.take.new.self) w (acted.Answer answer.Nothing))
    (sym c.in-Take.is) c.in-None.ensures.effect

pub returns-in-None-clause-roomy : goal.returns-in-None-clause-roomy
returns-in-None-clause-roomy g c = c.take.ensures.roomy

pub returns-in-Start-clause-effect : goal.returns-in-Start-clause-effect
returns-in-Start-clause-effect g c =
    subst (λ w. ActAnswers (IsNumbered g.F.Fibers.task_of g.F.Fibers.course_of g.F.Fibers.count_of g.F.Fibers.refused g.F.Fibers.holds) (seen c.args.self.now) c.args.seat c.args.task (seen c.start_or_end.new.self) w c.start_or_end.result)
    (sym c.in-Start.is) c.start_or_end.ensures.effect

pub returns-in-Start-clause-roomy : goal.returns-in-Start-clause-roomy
returns-in-Start-clause-roomy g c = c.start_or_end.ensures.roomy

pub returns-in-End-clause-effect : goal.returns-in-End-clause-effect
returns-in-End-clause-effect g c =
    subst (λ w. ActAnswers (IsNumbered g.F.Fibers.task_of g.F.Fibers.course_of g.F.Fibers.count_of g.F.Fibers.refused g.F.Fibers.holds) (seen c.args.self.now) c.args.seat c.args.task (seen c.end.new.self) w (acted.Answer answer.Done))
    (sym c.in-End.is) c.end.ensures.effect

pub returns-in-End-clause-roomy : goal.returns-in-End-clause-roomy
returns-in-End-clause-roomy g c = c.end.ensures.roomy
