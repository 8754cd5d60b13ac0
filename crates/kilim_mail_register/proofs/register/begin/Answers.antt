use Rattle.std.proofs.Common.{◌≡◌, ℕ, ◌+◌, List, None, refl, sym, ap, ◌∙◌, arith}
use Rattle.kilim_run_state.specs.declared.value.Token.{Token}
use Rattle.kilim_run_journal.specs.declared.entry.Act.TheVariants.{Start}
use Rattle.kilim_run_model.specs.Course.{plain}
use Rattle.kilim_mail_ledger.specs.Ledger.{items_of}
use Rattle.kilim_mail_ledger.specs.Goings.{longer}
use Rattle.kilim_mail_notes.specs.Histories.{trace_of}
use Rattle.kilim_mail_register.proofs.Registers.{begun_weighs, noted_stands}
use Rattle.kilim_mail_register.proofs.register.begin.Goals as goal

pub add_entry-requires-clause-same : goal.add_entry-requires-clause-same
add_entry-requires-clause-same c = ap (λ (s : List Token). plain (Start c.args.starts.now.tasks s)) c.of.ensures

pub returns-clause-accounts : goal.returns-clause-accounts
returns-clause-accounts c = c.add_entry.ensures.accounts _ _ (λ h. begun_weighs h (trace_of c.args.history.now) (trace_of c.add_entry.new.history) (trace_of c.begun-born.result.0) c.args.starts.now.tasks c.args.stamp c.args.shape c.begun-born.result.1 c.add_entry.ensures.history c.begun-born.ensures.history c.begun-born.ensures.shape)

pub returns-clause-started : goal.returns-clause-started
returns-clause-started c = λ clock lt. (lt, c.add_entry.ensures.history ∙ ap (λ (s : List Token). longer (trace_of c.args.history.now) (record { stamp = c.args.stamp; full = None; deed = plain (Start c.args.starts.now.tasks s) })) c.begun-born.ensures.shape, c.begun-born.ensures.history)

pub returns-clause-stands : goal.returns-clause-stands
returns-clause-stands c = λ old.
    noted_stands c.args.starts.now (record { ledger = c.add_entry.new.starts.ledger; tasks = c.args.starts.now.tasks + 1; clock = c.add_entry.new.starts.clock; log = c.add_entry.new.starts.log }) old c.args.stamp c.args.history.now.task (Start c.args.starts.now.tasks c.begun-born.result.1)
    c.requires.later c.add_entry.ensures.log c.add_entry.ensures.clock c.add_entry.ensures.balances (λ h. refl) refl (refl, c.requires.few, (let e : c.args.starts.now.tasks + 1 ≡ c.args.starts.now.tasks + 1 = refl in omega arith)) (let few = c.requires.few in omega arith)
