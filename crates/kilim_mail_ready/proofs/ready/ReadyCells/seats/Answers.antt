use Rattle.std.proofs.Common.{refl, sym, ap, ◌∙◌, length}
use Rattle.kilim_mail_notes.proofs.Cells.{new_cells}
use Rattle.kilim_mail_ready.specs.Ready.{ready_cells}
use Rattle.kilim_mail_ready.proofs.ready.ReadyCells.seats.Goals as goal

pub returns : goal.returns
returns g c = sym (new_cells c.self.inside.queue.ledger c.self.inside.queue.ledger.seats refl) ∙ ap (λ q. length (ready_cells q)) c.self.view_is
