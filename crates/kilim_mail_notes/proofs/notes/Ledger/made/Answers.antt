use Rattle.std.proofs.Common.{◌≡◌, ◌+◌, List, [], refl, ap, arith}
use Rattle.kilim_mail_stamps.specs.Merging.{weigh}
use Rattle.kilim_mail_notes.specs.declared.histories.Mark.{Mark}
use Rattle.kilim_mail_notes.specs.Histories.{dated_of}
use Rattle.kilim_mail_notes.specs.Notes.{Made, made_items}
use Rattle.kilim_mail_notes.proofs.Cells.{keeps_in, accounts_in, balances_in}
use Rattle.kilim_mail_notes.proofs.notes.Ledger.made.Goals as goal

pub returns-clause-others : goal.returns-clause-others
returns-clause-others c = keeps_in c.args.self.now (record { seats = c.args.self.now.seats; notes = c.add.new.notes }) c.args.seat (Made (made_items c.args.task (dated_of c.of.result.value))) refl c.add.ensures

pub returns-clause-accounts : goal.returns-clause-accounts
returns-clause-accounts c = λ before after e. accounts_in c.args.self.now (record { seats = c.args.self.now.seats; notes = c.add.new.notes }) c.args.seat (Made (made_items c.args.task (dated_of c.of.result.value))) refl c.add.ensures c.requires.there before after (λ h. let f : weigh h (made_items c.args.task (dated_of c.of.result.value)) ≡ weigh h (made_items c.args.task (dated_of c.args.mark.now)) = ap (λ (x : Mark). weigh h (made_items c.args.task (dated_of x))) c.of.ensures in let g = e h in omega arith)

pub returns-clause-balances : goal.returns-clause-balances
returns-clause-balances c = λ held made made' b e. balances_in c.args.self.now (record { seats = c.args.self.now.seats; notes = c.add.new.notes }) c.args.seat (Made (made_items c.args.task (dated_of c.of.result.value))) refl c.add.ensures c.requires.there held made held made' b (λ h. let f : weigh h (made_items c.args.task (dated_of c.of.result.value)) ≡ weigh h (made_items c.args.task (dated_of c.args.mark.now)) = ap (λ (x : Mark). weigh h (made_items c.args.task (dated_of x))) c.of.ensures in let g = e h in omega arith)
