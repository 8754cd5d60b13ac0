-- What is said of journals of the program that prints 7.
use Rattle.std.proofs.Common.{[], ◌∷◌, refl, pos}
use Rattle.kilim_run_state.specs.declared.cause.EndCause.TheVariants.{Done}
use Rattle.kilim_run_model.specs.State.{State, first_state}
use Rattle.kilim_run_model.specs.Lone.{next_move}
use Rattle.kilim_run_model.specs.Turn.{moved}
use Rattle.kilim_run_model.specs.Runs.{acted_within, before_action, Whole}
use Rattle.kilim_run_machine.specs.Does.{does}
use Rattle.kilim_run_machine.specs.Moves.{moves}
use Rattle.kilim_run_model.specs.Small.{done_entry, print_entry}
use Rattle.kilim_run_model.specs.Examples.{seven_setting, print_seven}
use Rattle.kilim_replay_laws.specs.declared.verdict.Verdict.TheVariants as verdict
use Rattle.kilim_replay_laws.specs.Verdicts.{GoesOn, Stops, RestsBut}
use Rattle.kilim_replay_laws.specs.Samples.{Samples, waits_entry}

abbrev start : State
start = first_state seven_setting

nothing : GoesOn seven_setting [] 1 0
unfolding moved next_move moves does before_action
nothing = record { last = start; replays = refl; number = refl; going = refl }

no_end : GoesOn seven_setting (print_seven ∷ []) 2 0
unfolding acted_within moved next_move moves does before_action
no_end = record { last = _; replays = (5, _, refl, refl); number = refl; going = refl }

waits_early : GoesOn seven_setting (print_seven ∷ waits_entry ∷ done_entry ∷ []) 2 0
unfolding acted_within moved next_move moves does before_action
waits_early = record { last = _; replays = (5, _, refl, refl); number = refl; going = refl }

whole : Whole seven_setting (print_seven ∷ done_entry ∷ [])
unfolding acted_within moved next_move moves does before_action
whole = record { fit = refl; acts = print_seven ∷ done_entry ∷ []; waits = []; parts = refl; last = _; replays = (5, _, refl, (1, _, refl, refl)); at_rest = record { moves = 0; rest = refl; waiting = refl } }

other_number : Stops seven_setting (print_entry (pos 8) ∷ done_entry ∷ []) (verdict.Made 1 print_seven)
unfolding acted_within moved next_move moves does
other_number = record { before = []; entry = print_entry (pos 8); behind = done_entry ∷ []; parts = refl; last = start; replays = refl; fault = (refl, refl, (λ e. cc), 5, _, refl) }

no_print : Stops seven_setting (done_entry ∷ []) (verdict.Made 1 print_seven)
unfolding acted_within moved next_move moves does
no_print = record { before = []; entry = done_entry; behind = []; parts = refl; last = start; replays = refl; fault = (refl, refl, (λ e. cc), 5, _, refl) }

absent : Stops seven_setting (print_seven ∷ record { task = 1; act = print_seven.act } ∷ []) (verdict.Absent 2)
unfolding acted_within moved next_move moves does
absent = record { before = print_seven ∷ []; entry = record { task = 1; act = print_seven.act }; behind = []; parts = refl; last = _; replays = (5, _, refl, refl); fault = (refl, refl) }

ended : Stops seven_setting (print_seven ∷ done_entry ∷ done_entry ∷ []) (verdict.Ended 3)
unfolding acted_within moved next_move moves does
ended = record { before = print_seven ∷ done_entry ∷ []; entry = done_entry; behind = []; parts = refl; last = _; replays = (5, _, refl, (1, _, refl, refl)); fault = (refl, Done, refl) }

waits_more : RestsBut seven_setting (print_seven ∷ done_entry ∷ waits_entry ∷ []) 3
unfolding acted_within moved next_move moves does before_action
waits_more = record {
  last = _;
  replays = (5, _, refl, (1, _, refl, refl));
  waits = [];
  at_rest = record { moves = 0; rest = refl; waiting = refl };
  common = 0;
  differ = record { common = []; mine = waits_entry ∷ []; other = []; here = refl; there = refl; differ = λ e. cc; number = refl };
  number = refl;
}

pub samples : Samples
samples = record { nothing = nothing; no_end = no_end; waits_early = waits_early; whole = whole; other_number = other_number; no_print = no_print; absent = absent; ended = ended; waits_more = waits_more }
