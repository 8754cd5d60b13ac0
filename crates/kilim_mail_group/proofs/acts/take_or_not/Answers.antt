use Rattle.std.proofs.Common.{◌≡◌, ℕ, ◌+◌, [], ◌++◌, refl, sym, ap, subst, arith}
use Rattle.kilim_run_model.specs.State.{Setting}
use Rattle.kilim_run_turn.specs.Views.{cell_at}
use Rattle.kilim_mail_stamps.specs.Merging.{weigh}
use Rattle.kilim_mail_stamps.proofs.Weights.{weigh_append}
use Rattle.kilim_mail_ledger.specs.Ledger.{items_of}
use Rattle.kilim_mail_notes.specs.Histories.{trace_of}
use Rattle.kilim_mail_notes.specs.Notes.{ledger_cells, Accounts}
use Rattle.kilim_mail_notes.proofs.Cells.{accounts_then}
use Rattle.kilim_mail_posts.specs.Posts.{box_at}
use Rattle.kilim_mail_group.specs.declared.boxes.Ask.{Ask}
use Rattle.kilim_mail_group.specs.Group.{AskMeets, bodies_items, came_items}
use Rattle.kilim_mail_group.proofs.Serving.{if_ok_map, accounts_more, others_of}
use Rattle.kilim_mail_group.proofs.acts.take_or_not.Goals as goal

pub go_on-requires-clause-rest : goal.go_on-requires-clause-rest
go_on-requires-clause-rest g c = c.in-Ok.ensures.acts.rest (others_of c.args.name (box_at c.args.boxes.now.posts) c.args.boxes.now.parked.items c.requires.stands.rest)

pub returns-in-Ok-clause-accounts : goal.returns-in-Ok-clause-accounts
returns-in-Ok-clause-accounts g c = if_ok_map c.go_on.result (λ r. Accounts (cell_at (ledger_cells c.take_or_find.new.boxes.ledger) c.args.seat) (cell_at (ledger_cells c.go_on.new.boxes.ledger) c.args.seat) (items_of (trace_of c.in-Ok.body.history)) (came_items r)) (λ r. Accounts (cell_at (ledger_cells c.args.boxes.now.ledger) c.args.seat) (cell_at (ledger_cells c.go_on.new.boxes.ledger) c.args.seat) (items_of (trace_of c.args.body.history)) (came_items r))
    (λ r two. accounts_then (cell_at (ledger_cells c.args.boxes.now.ledger) c.args.seat) (cell_at (ledger_cells c.take_or_find.new.boxes.ledger) c.args.seat) (cell_at (ledger_cells c.go_on.new.boxes.ledger) c.args.seat) (items_of (trace_of c.args.body.history)) (items_of (trace_of c.in-Ok.body.history)) (items_of (trace_of c.in-Ok.body.history)) (came_items r) (items_of (trace_of c.args.body.history)) (came_items r) c.in-Ok.ensures.acts.accounts two (λ h. omega arith)) c.go_on.ensures.accounts
