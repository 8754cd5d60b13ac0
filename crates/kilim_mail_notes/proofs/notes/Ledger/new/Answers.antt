use Rattle.std.proofs.Common.{refl}
use Rattle.kilim_mail_notes.proofs.Cells.{new_cells}
use Rattle.kilim_mail_notes.proofs.notes.Ledger.new.Goals as goal

pub returns-clause-cells : goal.returns-clause-cells
returns-clause-cells c = new_cells (record { seats = c.args.seats; notes = c.no_notes.result }) c.args.seats refl
