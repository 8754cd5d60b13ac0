use Rattle.std.proofs.Common.{◌≡◌, ℕ, ◌≤◌, refl, sym, subst, arith}
use Rattle.kilim_run_state.specs.declared.cause.EndCause.TheVariants as cause
use Rattle.kilim_run_journal.specs.declared.entry.Act.TheVariants.{End}
use Rattle.kilim_run_model.specs.Turn.{task_limit}
use Rattle.kilim_mail_notes.specs.Histories.{trace_of}
use Rattle.kilim_mail_register.proofs.Registers.{ended_weighs, noted_stands}
use Rattle.kilim_mail_register.proofs.register.refuse.Goals as goal

pub returns-clause-accounts : goal.returns-clause-accounts
returns-clause-accounts c = c.add_entry.ensures.accounts _ _ (λ h. ended_weighs h (trace_of c.args.history.now) (trace_of c.add_entry.new.history) c.args.stamp c.add_entry.ensures.history)

pub returns-clause-started : goal.returns-clause-started
returns-clause-started c = λ clock shape lt. (lt, c.add_entry.ensures.history)

pub returns-clause-stands : goal.returns-clause-stands
returns-clause-stands c = λ old.
    noted_stands c.args.starts.now c.add_entry.new.starts old c.args.stamp c.args.history.now.task (End cause.Tasks) c.requires.later c.add_entry.ensures.log c.add_entry.ensures.clock c.add_entry.ensures.balances (λ h. refl) refl
    (c.requires.many, sym c.add_entry.ensures.tasks) (subst (λ (n : ℕ). n ≤ task_limit) (sym c.add_entry.ensures.tasks) old.few)
