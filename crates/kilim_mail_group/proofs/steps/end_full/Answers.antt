use Rattle.std.proofs.Common.{◌≡◌, ℕ, ◌+◌, ◌<◌, None, Some, refl, sym, ap, subst, ◌∙◌, arith}
use Rattle.kilim_run_state.specs.declared.cause.EndCause.TheVariants as cause
use Rattle.kilim_run_state.specs.declared.value.Token.{Token}
use Rattle.kilim_run_journal.specs.declared.entry.Act.TheVariants as act
use Rattle.kilim_run_model.specs.Course.{plain}
use Rattle.kilim_run_board.specs.declared.fibers.Answer.TheVariants as answer
use Rattle.kilim_run_board.specs.fibers.Fibers.{Fits}
use Rattle.kilim_run_board.specs.fibers.Wishes.{ToPut, ToBound, ToProbe}
use Rattle.kilim_mail_ledger.specs.declared.items.Dated.{Dated}
use Rattle.kilim_mail_ledger.specs.Mailboxes.{Box}
use Rattle.kilim_mail_posts.specs.Posts.{box_at}
use Rattle.kilim_mail_group.proofs.Acting.{acts_on, writes_same, marks_write, empty_allowed, full_allowed, none_left}
use Rattle.kilim_mail_group.proofs.Bodies.{answered, ended}
use Rattle.kilim_mail_group.proofs.Entries.{puts_counted, taken_deed}
use Rattle.kilim_mail_posts.specs.declared.posts.Posts.{Posts}
use Rattle.kilim_program.specs.declared.names.BoxName.{BoxName}
use Rattle.kilim_mail_group.proofs.Serving.{marked_mail, all_wait_on}
use Rattle.kilim_mail_group.proofs.steps.end_full.Goals as goal

pub returns-clause-acts : goal.returns-clause-acts
returns-clause-acts g c = acts_on g.F.Fibers.task_of g.F.Fibers.course_of g.F.Fibers.asked g.K.Run.of c.args.seat c.args.name c.args.boxes.now c.note.new.boxes c.mark.new.self c.args.body c.note.new.body
    (record { stamp = c.in-Ok.stamp; full = (Some c.args.name); deed = plain (act.End cause.Full) }) (act.End cause.Full) c.requires.stands c.requires.mine refl
    (marks_write c.args.boxes.now.posts c.reserve.new.self c.mark.new.self c.args.name (act.End cause.Full) c.in-Ok.stamp c.reserve.ensures.same (full_allowed (box_at c.args.boxes.now.posts c.args.name).mail c.requires.full) c.mark.ensures.marks)
    (subst (λ (n : ℕ). n < c.in-Ok.stamp) c.clock.ensures c.in-Ok.ensures.other) (λ set is. c.mark.ensures.messages set.program (c.reserve.ensures.messages set.program (c.requires.stands.messages set is))) c.in-Ok-note.ensures.noted (record { act-is = refl; plain = refl }) (refl)

pub returns-clause-trace : goal.returns-clause-trace
returns-clause-trace g c = λ set is. (ended g.F.Fibers.task_of g.F.Fibers.course_of g.F.Fibers.asked set c.args.body c.note.new.body (record { stamp = c.in-Ok.stamp; full = (Some c.args.name); deed = plain (act.End cause.Full) }) c.in-Ok.ensures.mine c.in-Ok-note.ensures.noted.history (ToPut c.args.name c.args.shape) (c.requires.may set is) (refl, refl)).0

pub returns-clause-over : goal.returns-clause-over
returns-clause-over g c = λ set is. (ended g.F.Fibers.task_of g.F.Fibers.course_of g.F.Fibers.asked set c.args.body c.note.new.body (record { stamp = c.in-Ok.stamp; full = (Some c.args.name); deed = plain (act.End cause.Full) }) c.in-Ok.ensures.mine c.in-Ok-note.ensures.noted.history (ToPut c.args.name c.args.shape) (c.requires.may set is) (refl, refl)).1

pub returns-clause-rest : goal.returns-clause-rest
returns-clause-rest g c = λ all. all_wait_on (box_at c.args.boxes.now.posts) (box_at c.note.new.boxes.posts) c.args.boxes.now.parked.items c.note.new.boxes.parked.items
    (λ x. ap (λ (q : Posts). (box_at q x).mail) c.in-Ok-note.ensures.noted.posts ∙ marked_mail c.args.boxes.now.posts c.reserve.new.self c.mark.new.self c.args.name c.in-Ok.stamp c.reserve.ensures.same c.mark.ensures.marks x)
    c.in-Ok-note.ensures.noted.parked all
