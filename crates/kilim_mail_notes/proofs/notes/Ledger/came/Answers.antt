use Rattle.std.proofs.Common.{◌≡◌, ◌+◌, List, [], refl, ap, arith}
use Rattle.kilim_mail_stamps.specs.Merging.{weigh}
use Rattle.kilim_mail_ledger.specs.Ledger.{items_of}
use Rattle.kilim_mail_notes.specs.declared.histories.History.{History}
use Rattle.kilim_mail_notes.specs.Histories.{trace_of}
use Rattle.kilim_mail_notes.specs.Notes.{Came}
use Rattle.kilim_mail_notes.proofs.Cells.{keeps_in, accounts_in, balances_in}
use Rattle.kilim_mail_notes.proofs.notes.Ledger.came.Goals as goal

pub returns-clause-others : goal.returns-clause-others
returns-clause-others c = keeps_in c.args.self.now (record { seats = c.args.self.now.seats; notes = c.add.new.notes }) c.args.seat (Came (items_of (trace_of c.of.result.value))) refl c.add.ensures

pub returns-clause-accounts : goal.returns-clause-accounts
returns-clause-accounts c = accounts_in c.args.self.now (record { seats = c.args.self.now.seats; notes = c.add.new.notes }) c.args.seat (Came (items_of (trace_of c.of.result.value))) refl c.add.ensures c.requires.there (items_of (trace_of c.args.history.now)) [] (λ h. let f : weigh h (items_of (trace_of c.of.result.value)) ≡ weigh h (items_of (trace_of c.args.history.now)) = ap (λ (x : History). weigh h (items_of (trace_of x))) c.of.ensures in omega arith)

pub returns-clause-balances : goal.returns-clause-balances
returns-clause-balances c = λ held held' made b e. balances_in c.args.self.now (record { seats = c.args.self.now.seats; notes = c.add.new.notes }) c.args.seat (Came (items_of (trace_of c.of.result.value))) refl c.add.ensures c.requires.there held made held' made b (λ h. let f : weigh h (items_of (trace_of c.of.result.value)) ≡ weigh h (items_of (trace_of c.args.history.now)) = ap (λ (x : History). weigh h (items_of (trace_of x))) c.of.ensures in let g = e h in omega arith)
