use Rattle.std.proofs.Common.{◌≡◌, ℕ, ◌+◌, List, [], ◌∷◌, ◌++◌, refl, sym, ap, ◌∙◌, arith}
use Rattle.kilim_mail_stamps.specs.declared.stamped.Stamped.{Stamped}
use Rattle.kilim_mail_stamps.specs.Stamps.{is_starting}
use Rattle.kilim_mail_ledger.specs.Ledger.{Trace, items_of}
use Rattle.kilim_mail_notes.specs.Histories.{dated_of, trace_of}
use Rattle.kilim_mail_register.proofs.Registers.{longer_weighs}
use Rattle.kilim_mail_group.proofs.Entries.{made_weighs}
use Rattle.kilim_mail_group.proofs.steps.note.Goals as goal

pub returns-clause-noted : goal.returns-clause-noted
returns-clause-noted g c = record {
  number = refl;
  turns = refl;
  log = c.push_reserved.ensures.items ∙ ap (λ (ss : List Stamped). ss ++ record { stamp = c.args.mark.stamp; full = c.args.mark.full; entry = record { task = c.args.body.now.history.task; act = c.args.act } } ∷ []) c.in-Ok.ensures.items;
  posts = refl;
  parked = refl;
  many = refl;
  others = c.made.ensures.others;
  seats = c.made.ensures.seats;
  accounts = c.made.ensures.accounts (items_of (trace_of c.args.body.now.history)) (items_of (trace_of c.note.new.self))
      (λ h.
      let a = longer_weighs h (trace_of c.args.body.now.history) (trace_of c.note.new.self) (dated_of c.args.mark) c.note.ensures in
      let b = made_weighs h c.args.body.now.history.task (dated_of c.args.mark) (ap is_starting c.requires.deed.act-is ∙ c.requires.deed.plain) in
      omega arith);
  balances = c.made.ensures.balances;
  fiber = refl;
  clock = refl;
  task = ap (λ (t : Trace). t.task) c.note.ensures;
  history = c.note.ensures;
}
