-- What is to be done for a demo.
use Rattle.std.proofs.Common.{◌≡◌, inr, ℕ, List, Result, Ok, Err, refl, sym, subst}
use Rattle.std.specs.Prelude.{IfOk}
use Rattle.kilim_units.specs.declared.memory.NoMemory.{NoMemory}
use Rattle.kilim_run_state.specs.declared.run.Limits.{Limits}
use Rattle.kilim_program.specs.declared.names.ClassId.{ClassId}
use Rattle.kilim_program.specs.Program.{Program}
use Rattle.kilim_weave.specs.declared.weaving.Woven.{Woven}
use Rattle.kilim_run.specs.Runs.{setting_of}
use Rattle.kilim_stages.specs.declared.refusal.Refusal.{Refusal}
use Rattle.kilim_stages.specs.declared.refusal.Refusal.TheVariants as refusal
use Rattle.kilim_stages.specs.Parts.{Refused}
use Rattle.kilim_command.specs.grammar.Words.{Demo}
use Rattle.kilim_top.specs.declared.answer.Ready.{Ready}
use Rattle.kilim_top.specs.declared.answer.Ready.TheVariants as ready
use Rattle.kilim_top.specs.demo.Demo.{demo_limits, IsDemoReport}
use Rattle.kilim_top.specs.demo.Ready.{IsReady}
use Rattle.kilim_top.specs.Inside.Answer.{IsDemoReady, IsReadyFor, IsRefusedBy, IsToRun}
use Rattle.kilim_top.proofs.demo.Served.{line_is, served_by}

-- the report of the stage that has a fault
refused_in : (number : ℕ) (r : Refusal) (d : Ready) → Refused r (IsDemoReport number) → IsRefusedBy r d → IsDemoReady number d
refused_in number refusal.NoMemory d said by = absurd by
refused_in number (refusal.Report t) (ready.Reply reply) said by = (by.0, (by.1.0, subst (λ (s : List ℕ). IsDemoReport number s) (sym by.1.1) said))
refused_in number (refusal.Report t) (ready.Run plain woven class limits) said by = absurd by
refused_in number (refusal.Report t) (ready.Resume stopped) said by = absurd by

pub demo_refused : (number : ℕ) (r : Refusal) (d : Result Ready NoMemory) → Refused r (IsDemoReport number) → IfOk d (IsRefusedBy r) → IfOk d (IsDemoReady number)
demo_refused number r (Ok d) said by = refused_in number r d said by
demo_refused number r (Err e) said by = tt

-- with the line of its run the work is done
to_demo : (number workers : ℕ) (files : List (List ℕ)) (p : Program) (w : Woven) (main : ClassId) (limits : Limits) → IsReady number p w main → limits ≡ demo_limits → IsToRun (Demo number workers) files (setting_of p main limits) w
to_demo number workers files p w main limits is e = record {
  served = served_by number p w main limits is e;
  done = λ text run. (refl, line_is number p w main limits run.journal text is e run.is run.is_text);
}

pub demo_prepared : (number workers : ℕ) (files : List (List ℕ)) (r : Result Ready NoMemory) → IfOk r (IsDemoReady number) → IfOk r (IsReadyFor (Demo number workers) files)
demo_prepared number workers files (Ok (ready.Reply reply)) h = inr h
demo_prepared number workers files (Ok (ready.Run plain woven class limits)) h = to_demo number workers files plain woven class limits h.0 h.1
demo_prepared number workers files (Ok (ready.Resume stopped)) h = absurd h
demo_prepared number workers files (Err e) h = tt
