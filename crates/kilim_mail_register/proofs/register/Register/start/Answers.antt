use Rattle.std.proofs.Common.{◌<◌, sym, subst}
use Rattle.kilim_mail_notes.specs.declared.notes.Ledger.{Ledger}
use Rattle.kilim_mail_register.proofs.Registers.{there_now}
use Rattle.kilim_mail_register.proofs.register.Register.start.Goals as goal

pub begin-requires-clause-there : goal.begin-requires-clause-there
begin-requires-clause-there c = subst (λ (l : Ledger). c.args.seat < l.seats) (sym c.reserve.ensures.ledger) (there_now c.self.inside.starts c.args.self.now c.args.seat c.self.view_is c.requires.there)

pub refuse-requires-clause-there : goal.refuse-requires-clause-there
refuse-requires-clause-there c = subst (λ (l : Ledger). c.args.seat < l.seats) (sym c.reserve.ensures.ledger) (there_now c.self.inside.starts c.args.self.now c.args.seat c.self.view_is c.requires.there)
