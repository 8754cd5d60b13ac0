use Rattle.std.proofs.Common.{refl, sym, ap, ◌∙◌, length}
use Rattle.kilim_mail_notes.proofs.Cells.{new_cells}
use Rattle.kilim_mail_group.specs.Group.{group_cells}
use Rattle.kilim_mail_group.proofs.group.GroupCells.seats.Goals as goal

pub returns : goal.returns
returns g c = sym (new_cells c.self.inside.boxes.ledger c.self.inside.boxes.ledger.seats refl) ∙ ap (λ b. length (group_cells b)) c.self.view_is
