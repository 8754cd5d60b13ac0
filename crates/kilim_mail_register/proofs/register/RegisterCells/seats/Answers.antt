use Rattle.std.proofs.Common.{refl, sym, ap, ◌∙◌, length}
use Rattle.kilim_mail_notes.proofs.Cells.{new_cells}
use Rattle.kilim_mail_register.specs.Register.{register_cells}
use Rattle.kilim_mail_register.proofs.register.RegisterCells.seats.Goals as goal

pub returns : goal.returns
returns c = sym (new_cells c.self.inside.starts.ledger c.self.inside.starts.ledger.seats refl) ∙ ap (λ r. length (register_cells r)) c.self.view_is
