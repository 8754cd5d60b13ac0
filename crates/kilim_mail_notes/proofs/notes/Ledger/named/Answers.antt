use Rattle.std.proofs.Common.{◌≡◌, refl, ap}
use Rattle.kilim_mail_notes.specs.declared.notes.Notes.{Notes}
use Rattle.kilim_mail_notes.specs.Notes.{notes_of, named_from, moves_in}
use Rattle.kilim_mail_notes.proofs.Cells.{new_cells, new_named, new_balances}
use Rattle.kilim_mail_notes.proofs.notes.Ledger.named.Goals as goal

pub returns-clause-cells : goal.returns-clause-cells
returns-clause-cells c = new_cells (record { seats = c.args.seats; notes = c.of.result }) c.args.seats refl

pub returns-clause-named : goal.returns-clause-named
returns-clause-named c = new_named (record { seats = c.args.seats; notes = c.of.result }) c.args.number c.args.turns (ap notes_of c.of.ensures)

pub returns-clause-balances : goal.returns-clause-balances
returns-clause-balances c = new_balances (record { seats = c.args.seats; notes = c.of.result }) c.args.number c.args.turns (ap notes_of c.of.ensures)
