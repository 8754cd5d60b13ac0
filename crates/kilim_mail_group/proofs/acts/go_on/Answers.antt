use Rattle.std.proofs.Common.{◌≡◌, ℕ, ◌+◌, [], ◌++◌, refl, sym, ap, subst, arith}
use Rattle.kilim_run_model.specs.State.{Setting}
use Rattle.kilim_run_turn.specs.Views.{cell_at}
use Rattle.kilim_mail_stamps.specs.Merging.{weigh}
use Rattle.kilim_mail_stamps.proofs.Weights.{weigh_append}
use Rattle.kilim_mail_ledger.specs.Ledger.{items_of}
use Rattle.kilim_mail_notes.specs.Histories.{trace_of}
use Rattle.kilim_mail_notes.specs.Notes.{ledger_cells, Accounts}
use Rattle.kilim_mail_notes.proofs.Cells.{accounts_then}
use Rattle.kilim_mail_posts.specs.Posts.{box_at}
use Rattle.kilim_mail_group.specs.declared.boxes.Ask.{Ask}
use Rattle.kilim_mail_group.specs.Group.{AskMeets, bodies_items, came_items}
use Rattle.kilim_mail_group.proofs.Serving.{if_ok_map, accounts_more, others_of}
use Rattle.kilim_mail_group.proofs.acts.go_on.Goals as goal

pub returns-in-Ok-clause-accounts : goal.returns-in-Ok-clause-accounts
returns-in-Ok-clause-accounts g c = accounts_more (cell_at (ledger_cells c.args.boxes.now.ledger) c.args.seat) (cell_at (ledger_cells c.serve.new.boxes.ledger) c.args.seat) [] (bodies_items c.in-Ok.woken.items) (items_of (trace_of c.args.body.history)) (items_of (trace_of c.args.body.history) ++ bodies_items c.in-Ok.woken.items) c.in-Ok.ensures.acts.accounts
    (λ h. let a = weigh_append h (items_of (trace_of c.args.body.history)) (bodies_items c.in-Ok.woken.items) in omega arith)

pub returns-in-Ok-clause-came : goal.returns-in-Ok-clause-came
returns-in-Ok-clause-came g c = λ set is. (c.requires.body set is, c.in-Ok.ensures.bodies set is)
