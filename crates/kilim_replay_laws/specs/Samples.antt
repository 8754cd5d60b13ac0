-- What is said of journals of the program that prints 7.
use Rattle.std.specs.Prelude.{List, [], ◌∷◌, pos}
use Rattle.kilim_run_journal.specs.declared.entry.Act.TheVariants.{Wait}
use Rattle.kilim_run_journal.specs.declared.entry.Entry.{Entry}
use Rattle.kilim_run_model.specs.Small.{print_entry, done_entry}
use Rattle.kilim_run_model.specs.Examples.{seven_setting, print_seven}
use Rattle.kilim_replay_laws.specs.declared.verdict.Verdict.{Verdict}
use Rattle.kilim_replay_laws.specs.declared.verdict.Verdict.TheVariants as verdict
use Rattle.kilim_replay_laws.specs.Verdicts.{IsVerdict}

abbrev pub of_seven : List Entry → Verdict → Type 0
of_seven journal v = IsVerdict seven_setting journal v

abbrev pub waits_entry : Entry
waits_entry = record { task = 0; act = Wait (record { task = 0; number = 0 }) }

pub record Samples : Type 0 where
  pub nothing : of_seven [] (verdict.Goes 1 0)
  pub no_end : of_seven (print_seven ∷ []) (verdict.Goes 2 0)
  pub waits_early : of_seven (print_seven ∷ waits_entry ∷ done_entry ∷ []) (verdict.Goes 2 0)
  pub whole : of_seven (print_seven ∷ done_entry ∷ []) verdict.Whole
  pub other_number : of_seven (print_entry (pos 8) ∷ done_entry ∷ []) (verdict.Made 1 print_seven)
  pub no_print : of_seven (done_entry ∷ []) (verdict.Made 1 print_seven)
  pub absent : of_seven (print_seven ∷ record { task = 1; act = print_seven.act } ∷ []) (verdict.Absent 2)
  pub ended : of_seven (print_seven ∷ done_entry ∷ done_entry ∷ []) (verdict.Ended 3)
  pub waits_more : of_seven (print_seven ∷ done_entry ∷ waits_entry ∷ []) (verdict.Rest 3)
