-- A run in which task 0 alone acts has one journal; the runs of the program that prints 7.
use Rattle.std.proofs.Common.{◌≡◌, ℕ, zero, suc, Bool, false, pos, List, [], ◌∷◌, ◌++◌, Option, Some, None, refl, sym, ap, ◌∙◌, subst, arith}
use Rattle.std.specs.Prelude.{slice_get}
use Rattle.kilim_run_state.specs.declared.cause.EndCause.{EndCause}
use Rattle.kilim_run_state.specs.declared.cause.EndCause.TheVariants.{Done, Spent}
use Rattle.kilim_run_state.specs.declared.value.Token.TheVariants as token
use Rattle.kilim_program.specs.declared.value.Value.TheVariants.{Int}
use Rattle.kilim_run_journal.specs.declared.entry.Act.{Act}
use Rattle.kilim_run_journal.specs.declared.entry.Act.TheVariants.{Print, End}
use Rattle.kilim_run_journal.specs.declared.entry.Entry.{Entry}
use Rattle.kilim_run_machine.specs.Does.{does}
use Rattle.kilim_run_machine.specs.Moves.{moves}
use Rattle.kilim_run_model.specs.State.{Setting, Ended, State, first_state}
use Rattle.kilim_run_model.specs.Lone.{next_move}
use Rattle.kilim_run_model.specs.Turn.{moved, quiet, thread_moved}
use Rattle.kilim_run_model.specs.Runs.{acted_within, unless_acted, before_action, Replays, settled, all_at_rest, waits_from, AtRest, Whole}
use Rattle.kilim_run_model.specs.Small.{done_entry}
use Rattle.kilim_run_model.specs.Examples.{seven, seven_setting, short_setting, print_seven, spent_entry, Wrong, ExamplesHold}
use Rattle.kilim_run_model.proofs.Steps.{same_action, ended_settles}
use Rattle.kilim_run_model.proofs.SmallRun.{running, is_whole}

-- ---- one thread

-- a thread that doesn't move never acts
still : (set : Setting) (s : State) (t : ℕ) → moved set s t ≡ quiet s → (n : ℕ) → acted_within set n s t ≡ None
unfolding acted_within
still set s t e zero = refl
still set s t e (suc n) = rw e (still set s t e n)

-- nor does one that isn't there, or one that has ended
absent : (set : Setting) (s : State) (t : ℕ) → slice_get s.threads t ≡ None → (n : ℕ) → acted_within set n s t ≡ None
unfolding moved
absent set s t e = still set s t (ap (thread_moved set s t) e)

ended : (set : Setting) (s : State) (t : ℕ) (cause : EndCause) → slice_get s.threads t ≡ Some (Ended cause) → (n : ℕ) → acted_within set n s t ≡ None
unfolding moved next_move
ended set s t cause e = still set s t (ap (thread_moved set s t) e)

-- right before its next action a thread makes no more moves without it
stays : (set : Setting) (s : State) (t : ℕ) (act : Act) → (moved set s t).act ≡ Some act → (n : ℕ) → before_action set n s t ≡ s
unfolding before_action
stays set s t act e zero = refl
stays set s t act e (suc n) = ap (λ (a : Option Act). unless_acted s a (before_action set n (moved set s t).state t)) e

-- ---- the one journal from a state

-- all threads are at rest
abbrev rests : Setting → State → Bool
rests set s = all_at_rest set s 0 s.threads

-- only task 0 acts next: it makes this entry and comes to that state, and until then it doesn't wait
record Acts (set : Setting) (s : State) (e : Entry) (next : State) : Type 0 where
  enough : ℕ
  does_act : acted_within set enough s 0 ≡ Some (e.act, next)
  no_others : (t n : ℕ) → acted_within set n s (suc t) ≡ None
  is_busy : (n : ℕ) → rests set (settled set n s) ≡ false

-- nothing acts any more, and nothing waits
record Stops (set : Setting) (s : State) : Type 0 where
  none_acts : (t n : ℕ) → acted_within set n s t ≡ None
  none_waits : (n : ℕ) → waits_from set (settled set n s) 0 (settled set n s).threads ≡ []

-- the one way to go on from a state to the end of a whole run
Only : Setting → State → List Entry → Type 0
Only set s journal = (acts waits : List Entry) (last : State) → Replays set s acts last → AtRest set last waits → acts ++ waits ≡ journal

at_rest_at : (set : Setting) (s last : State) (waits : List Entry) → s ≡ last → AtRest set last waits → AtRest set s waits
at_rest_at set s last waits r rest = let P : State → Type 0 = λ (u : State). AtRest set u waits in subst P (sym r) rest

stops_only : (set : Setting) (s : State) → Stops set s → Only set s []
unfolding Only
stops_only set s stops [] waits last r rest = let here = at_rest_at set s last waits r rest in here.waiting ∙ stops.none_waits here.moves
stops_only set s stops (e ∷ es) waits last r rest = absurd (cc (r.2, stops.none_acts e.task r.0))

abbrev action : Act → State → Act × State
action act s = (act, s)

-- the next action and the state after it are those, whoever's it is said to be
next_is : (set : Setting) (s next mid : State) (e : Entry) (act : Act) (t n : ℕ) → Acts set s e next → acted_within set n s t ≡ Some (act, mid) → action e.act next ≡ action act mid
next_is set s next mid e act zero n acts is = same_action set acts.enough n s (action e.act next) (action act mid) 0 acts.does_act is
next_is set s next mid e act (suc t) n acts is = absurd (cc (is, acts.no_others t n))

-- and the task is the one that acts
same_task : (set : Setting) (s next mid : State) (e : Entry) (act : Act) (t n : ℕ) → Acts set s e next → acted_within set n s t ≡ Some (act, mid) → t ≡ 0
same_task set s next mid e act zero n acts is = refl
same_task set s next mid e act (suc t) n acts is = absurd (cc (is, acts.no_others t n))

acts_only : (set : Setting) (s next : State) (e : Entry) (es : List Entry) → e.task ≡ 0 → Acts set s e next → Only set next es → Only set s (e ∷ es)
unfolding Only
acts_only set s next e es first acts only [] waits last r rest =
    let here = at_rest_at set s last waits r rest in absurd (cc (here.rest, acts.is_busy here.moves))
acts_only set s next e es first acts only (e' ∷ es') waits last r rest =
    let same = next_is set s next r.1 e e'.act e'.task r.0 acts r.2 in
    let task = same_task set s next r.1 e e'.act e'.task r.0 acts r.2 in
    let P : State → Type 0 = λ (u : State). Replays set u es' last in
    let others = only es' waits last (subst P (sym (ap (λ (x : Act × State). x.1) same)) r.3) rest in
    let act : e'.act ≡ e.act = sym (ap (λ (x : Act × State). x.0) same) in
    let entry : e' ≡ e = ap (λ (k : ℕ). record { task = k; act = e'.act }) (task ∙ sym first) ∙ ap (λ (a : Act). record { task = e.task; act = a }) act in
    cc

whole_only : (set : Setting) (journal others : List Entry) → Only set (first_state set) others → Whole set journal → journal ≡ others
unfolding Only
whole_only set journal others only whole = whole.parts ∙ only whole.acts whole.waits whole.last whole.replays whole.at_rest

-- ---- the program that prints 7

-- right before the print, after it, and at the end
abbrev asking : ℕ → State
asking steps = running seven steps 2 4 (Int (pos 7) ∷ []) []

abbrev printed : ℕ → State
printed steps = running seven steps 5 5 [] (print_seven ∷ [])

abbrev over : ℕ → EndCause → State
over steps cause = record (printed steps) { threads = Ended cause ∷ []; journal = print_seven ∷ record { task = 0; act = End cause } ∷ [] }

over_stops : (set : Setting) (steps : ℕ) (cause : EndCause) → Stops set (over steps cause)
unfolding next_move
over_stops set steps cause = record {
  none_acts = λ t. elim t as (λ (k : ℕ). (n : ℕ) → acted_within set n (over steps cause) k ≡ None) [ zero ↦ ended set (over steps cause) 0 cause refl | suc t' ↦ absent set (over steps cause) (suc t') refl ];
  none_waits = λ n. ap (λ (u : State). waits_from set u 0 u.threads) (ended_settles set n (over steps cause) 0 cause refl);
}

-- the constructor, and the push of the number
busy_first : (n : ℕ) → rests seven_setting (settled seven_setting n (first_state seven_setting)) ≡ false
unfolding moved next_move moves does before_action
busy_first zero = refl
busy_first (suc zero) = refl
busy_first (suc (suc zero)) = refl
busy_first (suc (suc (suc zero))) = refl
busy_first (suc (suc (suc (suc n)))) = ap (rests seven_setting) (stays seven_setting (asking 10) 0 (Print (token.Int (pos 7) ∷ [])) refl n)

busy_short : (n : ℕ) → rests short_setting (settled short_setting n (first_state short_setting)) ≡ false
unfolding moved next_move moves does before_action
busy_short zero = refl
busy_short (suc zero) = refl
busy_short (suc (suc zero)) = refl
busy_short (suc (suc (suc zero))) = refl
busy_short (suc (suc (suc (suc n)))) = ap (rests short_setting) (stays short_setting (asking 5) 0 (Print (token.Int (pos 7) ∷ [])) refl n)

seven_prints : Acts seven_setting (first_state seven_setting) print_seven (printed 10)
unfolding acted_within moved next_move moves does
seven_prints = record {
  enough = 5;
  does_act = refl;
  no_others = λ t. absent seven_setting (first_state seven_setting) (suc t) refl;
  is_busy = busy_first;
}

short_prints : Acts short_setting (first_state short_setting) print_seven (printed 5)
unfolding acted_within moved next_move moves does
short_prints = record {
  enough = 5;
  does_act = refl;
  no_others = λ t. absent short_setting (first_state short_setting) (suc t) refl;
  is_busy = busy_short;
}

seven_ends : Acts seven_setting (printed 10) done_entry (over 10 Done)
unfolding acted_within moved next_move moves does
seven_ends = record {
  enough = 1;
  does_act = refl;
  no_others = λ t. absent seven_setting (printed 10) (suc t) refl;
  is_busy = λ n. ap (rests seven_setting) (stays seven_setting (printed 10) 0 (End Done) refl n);
}

short_ends : Acts short_setting (printed 5) spent_entry (over 5 Spent)
unfolding acted_within moved next_move moves does
short_ends = record {
  enough = 1;
  does_act = refl;
  no_others = λ t. absent short_setting (printed 5) (suc t) refl;
  is_busy = λ n. ap (rests short_setting) (stays short_setting (printed 5) 0 (End Spent) refl n);
}

only_seven : (journal : List Entry) → Whole seven_setting journal → journal ≡ print_seven ∷ done_entry ∷ []
only_seven journal =
    whole_only seven_setting journal _ (acts_only _ _ _ _ _ refl seven_prints (acts_only _ _ _ _ _ refl seven_ends (stops_only _ _ (over_stops seven_setting 10 Done))))

only_short : (journal : List Entry) → Whole short_setting journal → journal ≡ print_seven ∷ spent_entry ∷ []
only_short journal =
    whole_only short_setting journal _ (acts_only _ _ _ _ _ refl short_prints (acts_only _ _ _ _ _ refl short_ends (stops_only _ _ (over_stops short_setting 5 Spent))))

short_is_whole : Whole short_setting (print_seven ∷ spent_entry ∷ [])
unfolding before_action next_move short_prints short_ends
short_is_whole = record {
  fit = refl;
  acts = print_seven ∷ spent_entry ∷ [];
  waits = [];
  parts = refl;
  last = over 5 Spent;
  replays = (5, printed 5, short_prints.does_act, (1, over 5 Spent, short_ends.does_act, refl));
  at_rest = record { moves = 0; rest = refl; waiting = refl };
}

-- a journal that differs from the only one isn't that of a whole run
refused : (journal : List Entry) → (journal ≡ print_seven ∷ done_entry ∷ [] → ⊥) → Wrong journal
refused journal differs w = differs (only_seven journal w)

refused_short : (journal : List Entry) → (journal ≡ print_seven ∷ spent_entry ∷ [] → ⊥) → Whole short_setting journal → ⊥
refused_short journal differs w = differs (only_short journal w)

-- journals that begin with different acts
differ : (e e' : Entry) (es es' : List Entry) → (e.act ≡ e'.act → ⊥) → e ∷ es ≡ e' ∷ es' → ⊥
differ e e' es es' acts same = let heads : e ≡ e' = cc in acts (ap (λ (x : Entry). x.act) heads)

pub examples : ExamplesHold
examples = record {
  seven_is_whole = is_whole seven 10 (omega arith);
  forgotten_end = refused _ (λ e. cc);
  forgotten_print = refused _ (λ e. cc);
  doubled_print = refused _ (λ e. cc);
  doubled_end = refused _ (λ e. cc);
  other_number = refused _ (differ _ _ _ _ (λ a. cc));
  reversed = refused _ (differ _ _ _ _ (λ a. cc));
  nothing = refused _ (λ e. cc);
  added_wait = λ box. refused _ (λ e. cc);
  no_other = only_seven;
  spent_on_the_way = (short_is_whole, refused_short _ (λ e. differ done_entry spent_entry [] [] (λ a. cc) (cc)));
  owners_agree = (refl, refl, (_, refl, refl, refl, refl, refl), (_, refl, refl, refl, refl, refl));
}
