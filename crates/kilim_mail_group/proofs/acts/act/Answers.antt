use Rattle.std.proofs.Common.{◌≡◌, ℕ, ◌+◌, [], ◌++◌, refl, sym, ap, subst, arith}
use Rattle.kilim_run_model.specs.State.{Setting}
use Rattle.kilim_run_turn.specs.Views.{cell_at}
use Rattle.kilim_mail_stamps.specs.Merging.{weigh}
use Rattle.kilim_mail_stamps.proofs.Weights.{weigh_append}
use Rattle.kilim_mail_ledger.specs.Ledger.{items_of}
use Rattle.kilim_mail_notes.specs.Histories.{trace_of}
use Rattle.kilim_mail_notes.specs.Notes.{ledger_cells, Accounts}
use Rattle.kilim_mail_notes.proofs.Cells.{accounts_then}
use Rattle.kilim_mail_posts.specs.Posts.{box_at}
use Rattle.kilim_mail_group.specs.declared.boxes.Ask.{Ask}
use Rattle.kilim_mail_group.specs.Group.{AskMeets, bodies_items, came_items}
use Rattle.kilim_mail_group.proofs.Serving.{if_ok_map, accounts_more, others_of}
use Rattle.kilim_mail_group.proofs.acts.act.Goals as goal

pub put_or_end-requires-clause-asks : goal.put_or_end-requires-clause-asks
put_or_end-requires-clause-asks g c = λ set is. (subst (λ (a : Ask). AskMeets g.F.Fibers.task_of g.F.Fibers.course_of g.F.Fibers.asked set c.args.name c.args.body a) c.in-Put.is (c.requires.meets set is)).0

pub put_or_end-requires-clause-message : goal.put_or_end-requires-clause-message
put_or_end-requires-clause-message g c = λ set is. (subst (λ (a : Ask). AskMeets g.F.Fibers.task_of g.F.Fibers.course_of g.F.Fibers.asked set c.args.name c.args.body a) c.in-Put.is (c.requires.meets set is)).1

pub put_or_wait-requires-clause-asks : goal.put_or_wait-requires-clause-asks
put_or_wait-requires-clause-asks g c = λ set is. (subst (λ (a : Ask). AskMeets g.F.Fibers.task_of g.F.Fibers.course_of g.F.Fibers.asked set c.args.name c.args.body a) c.in-PutWait.is (c.requires.meets set is)).0

pub put_or_wait-requires-clause-message : goal.put_or_wait-requires-clause-message
put_or_wait-requires-clause-message g c = λ set is. (subst (λ (a : Ask). AskMeets g.F.Fibers.task_of g.F.Fibers.course_of g.F.Fibers.asked set c.args.name c.args.body a) c.in-PutWait.is (c.requires.meets set is)).1

pub take_or_wait-requires-clause-asks : goal.take_or_wait-requires-clause-asks
take_or_wait-requires-clause-asks g c = λ set is. subst (λ (a : Ask). AskMeets g.F.Fibers.task_of g.F.Fibers.course_of g.F.Fibers.asked set c.args.name c.args.body a) c.in-Take.is (c.requires.meets set is)

pub take_or_not-requires-clause-asks : goal.take_or_not-requires-clause-asks
take_or_not-requires-clause-asks g c = λ set is. subst (λ (a : Ask). AskMeets g.F.Fibers.task_of g.F.Fibers.course_of g.F.Fibers.asked set c.args.name c.args.body a) c.in-Probe.is (c.requires.meets set is)

pub bound_it-requires-clause-asks : goal.bound_it-requires-clause-asks
bound_it-requires-clause-asks g c = λ set is. subst (λ (a : Ask). AskMeets g.F.Fibers.task_of g.F.Fibers.course_of g.F.Fibers.asked set c.args.name c.args.body a) c.in-Bound.is (c.requires.meets set is)
