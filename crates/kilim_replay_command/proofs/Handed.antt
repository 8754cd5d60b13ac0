-- What is so of the text of a journal, for the bytes of the class files.
use Rattle.std.proofs.Common.{◌≡◌, ℕ, List, Result, Ok, Err, inl, inr, Vec}
use Rattle.std.specs.declared.alloc.Global.{Global}
use Rattle.std.specs.Prelude.{IfOk}
use Rattle.kilim_program.specs.Program.{Program}
use Rattle.kilim_run_journal.specs.declared.entry.Entry.{Entry}
use Rattle.kilim_run_state.specs.declared.run.Limits.{Limits}
use Rattle.kilim_stages.proofs.Parts.{reported}
use Rattle.kilim_stages.specs.Accepted.{IsTypedOf}
use Rattle.kilim_stages.specs.Parts.{IfReport}
use Rattle.kilim_stages.specs.declared.refusal.Refusal.{Refusal}
use Rattle.kilim_replay_command.specs.Parts.{IsMainLine, IsTextLine, IsTextOf, IsWholeText}
use Rattle.kilim_replay_command.specs.Replay.{IsReplayReport, IsReplayed}

said_as : {P Q : List ℕ → Type 0} (r : Result (Vec ℕ Global) Refusal) → ((line : List ℕ) → P line → Q line) → IfOk r (λ line. P line.items) → IfOk r (λ line. Q line.items)
said_as (Ok line) f said = f line.items said
said_as (Err e) f said = tt

module _ (name : List ℕ) (limits : Limits) (names files : List (List ℕ)) (text : List ℕ) (p : Program) (of : IsTypedOf files p) where
  replayed_line : (line : List ℕ) → IsWholeText p name limits text line → IsReplayed name limits files text line
  replayed_line line is = record {
    whole = record {
      program = p;
      journal = is.journal;
      replayed = record { typed = of; few = is.is.0; is = is.is.1 };
      main = is.whole.main;
      is_main = is.whole.is_main;
      whole = is.whole.whole.0;
    };
    is_line = is.whole.whole.1;
  }

  fault_line : (line : List ℕ) (es : List Entry) → IsTextOf text es → IsMainLine p name limits es line → IsReplayReport names name limits files text line
  fault_line line es is (inl none) = inr (inr (inl (record { program = p; journal = es; replayed = record { typed = of; few = is.0; is = is.1 }; none = none.none; is_text = none.is_text })))
  fault_line line es is (inr wrong) =
      let w = wrong.wrong in
      inr (inr (inr (record {
        program = p;
        journal = es;
        replayed = record { typed = of; few = is.0; is = is.1 };
        main = wrong.main;
        is_main = wrong.is_main;
        found = w.found;
        is = w.is;
        wrong = w.wrong;
        is_text = w.is_text;
      })))

  report_line : (line : List ℕ) → IsTextLine p name limits text line → IsReplayReport names name limits files text line
  report_line line (inl read) = inr (inl (record { program = p; typed = of; is_text = read }))
  report_line line (inr said) = fault_line line said.journal said.is said.fault

  pub replayed : (r : Result (Vec ℕ Global) Refusal) → IfOk r (λ line. IsWholeText p name limits text line.items) → IfOk r (λ line. IsReplayed name limits files text line.items)
  replayed r said = said_as r replayed_line said

  pub replay_reported : (r : Result (Vec ℕ Global) Refusal) → IfReport r (IsTextLine p name limits text) → IfReport r (IsReplayReport names name limits files text)
  replay_reported r said = reported r report_line said
