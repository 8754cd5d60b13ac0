use Rattle.std.proofs.Common.{◌≡◌, ℕ, ◌+◌, ◌<◌, None, Some, refl, sym, ap, subst, ◌∙◌, arith}
use Rattle.kilim_run_state.specs.declared.cause.EndCause.TheVariants as cause
use Rattle.kilim_run_state.specs.declared.value.Token.{Token}
use Rattle.kilim_run_journal.specs.declared.entry.Act.TheVariants as act
use Rattle.kilim_run_model.specs.Course.{plain}
use Rattle.kilim_run_board.specs.declared.fibers.Answer.TheVariants as answer
use Rattle.kilim_run_board.specs.fibers.Fibers.{Fits}
use Rattle.kilim_run_board.specs.fibers.Wishes.{ToPut, ToBound, ToProbe}
use Rattle.kilim_mail_ledger.specs.declared.items.Dated.{Dated}
use Rattle.kilim_mail_ledger.specs.Mailboxes.{Box}
use Rattle.kilim_mail_posts.specs.Posts.{box_at}
use Rattle.kilim_mail_group.proofs.Acting.{acts_on, writes_same, marks_write, empty_allowed, full_allowed, none_left}
use Rattle.kilim_mail_group.proofs.Bodies.{answered, ended}
use Rattle.kilim_mail_group.proofs.Entries.{puts_counted, taken_deed}
use Rattle.kilim_mail_group.proofs.steps.find_empty.Goals as goal

pub returns-clause-acts : goal.returns-clause-acts
returns-clause-acts g c = acts_on g.F.Fibers.task_of g.F.Fibers.course_of g.F.Fibers.asked g.K.Run.of c.args.seat c.args.name c.args.boxes.now c.note.new.boxes c.mark.new.self c.args.body c.note.new.body
    (record { stamp = c.in-Ok.stamp; full = None; deed = plain (act.Empty c.args.name) }) (act.Empty c.args.name) c.requires.stands c.requires.mine refl
    (marks_write c.args.boxes.now.posts c.reserve.new.self c.mark.new.self c.args.name (act.Empty c.args.name) c.in-Ok.stamp c.reserve.ensures.same (empty_allowed (box_at c.args.boxes.now.posts c.args.name).mail c.args.name c.requires.empty) c.mark.ensures.marks)
    (subst (λ (n : ℕ). n < c.in-Ok.stamp) c.clock.ensures c.in-Ok.ensures.other) (λ set is. c.mark.ensures.messages set.program (c.reserve.ensures.messages set.program (c.requires.stands.messages set is))) c.in-Ok-note.ensures.noted (record { act-is = refl; plain = refl }) (refl)

pub returns-clause-body : goal.returns-clause-body
returns-clause-body g c = λ set is. answered g.F.Fibers.task_of g.F.Fibers.course_of g.F.Fibers.asked set c.args.body c.note.new.body (record { stamp = c.in-Ok.stamp; full = None; deed = plain (act.Empty c.args.name) }) c.in-Ok.ensures.mine c.in-Ok-note.ensures.noted.history g.F.Fibers.holds (answer.Nothing)
    (record { wish = ToProbe c.args.name; asks = c.requires.may set is; fits = refl }) c.in-Ok-note.ensures.noted.fiber c.in-Ok-note.ensures.noted.clock c.in-Ok-note.ensures.noted.task
