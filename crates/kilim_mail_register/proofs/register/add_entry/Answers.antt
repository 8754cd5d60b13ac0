use Rattle.std.proofs.Common.{◌≡◌, ◌+◌, None, sym, ap, ◌∙◌}
use Rattle.kilim_run_model.specs.declared.deed.Deed.{Deed}
use Rattle.kilim_mail_stamps.specs.Merging.{weigh}
use Rattle.kilim_mail_ledger.specs.Goings.{longer}
use Rattle.kilim_mail_notes.specs.Histories.{trace_of}
use Rattle.kilim_mail_notes.specs.Notes.{made_items}
use Rattle.kilim_mail_register.proofs.register.add_entry.Goals as goal

pub returns-clause-history : goal.returns-clause-history
returns-clause-history c = c.note.ensures ∙ ap (λ (d : Deed). longer (trace_of c.args.history.now) (record { stamp = c.args.stamp; full = None; deed = d })) c.requires.same

pub returns-clause-accounts : goal.returns-clause-accounts
returns-clause-accounts c = λ before after e. c.made.ensures.accounts before after (λ h. e h ∙ ap (λ (d : Deed). weigh h before + weigh h (made_items c.args.history.now.task (record { stamp = c.args.stamp; full = None; deed = d }))) (sym c.requires.same))

pub returns-clause-balances : goal.returns-clause-balances
returns-clause-balances c = λ held made made' b e. c.made.ensures.balances held made made' b (λ h. e h ∙ ap (λ (d : Deed). weigh h made + weigh h (made_items c.args.history.now.task (record { stamp = c.args.stamp; full = None; deed = d }))) (sym c.requires.same))
