-- How a replay begins, and its verdict from its parts.
use Rattle.std.proofs.Common.{◌≡◌, ◌+◌, ◌-◌, ◌≤◌, ℕ, zero, suc, true, List, [], ◌∷◌, ◌++◌, length, map, take, drop, refl, sym, ap, subst, ◌∙◌, arith}
use Rattle.kilim_program.specs.Program.{Program}
use Rattle.kilim_program.specs.Keeps.{Keeps}
use Rattle.kilim_program.specs.Members.{is_fit_main}
use Rattle.kilim_program.specs.declared.class.Form.TheVariants.{Plain}
use Rattle.kilim_program.specs.declared.names.ClassId.{ClassId}
use Rattle.kilim_run_state.specs.declared.run.Limits.{Limits}
use Rattle.kilim_run_journal.specs.declared.entry.Entry.{Entry}
use Rattle.kilim_run_model.specs.State.{Alive, Setting, State, Thread, first_state, new_thread}
use Rattle.kilim_run_model.specs.Runs.{Replays}
use Rattle.kilim_type_spec.specs.Typed.{IsWellTyped}
use Rattle.kilim_replay_laws.specs.Verdicts.{DifferAt, IsVerdict, Stops, acts_in, waits_in}
use Rattle.kilim_replay_laws.specs.declared.verdict.Verdict.{Verdict}
use Rattle.kilim_replay_laws.specs.declared.verdict.Verdict.TheVariants as verdict
use Rattle.kilim_replay_laws.proofs.shared.Going.{typed_runs_go}
use Rattle.kilim_replay_thread.specs.Live.{calls_in, thread_in}
use Rattle.kilim_replay_thread.specs.Reach.{setting_of}
use Rattle.kilim_replay_thread.specs.declared.task.Live.{Live}
use Rattle.kilim_replay.specs.Check.{BeginsAs, IsClosed}
use Rattle.kilim_replay.specs.Fold.{IsReadableVerdict, IsReplayed, StopsIn}
use Rattle.kilim_replay.specs.Machine.{IsAt, thread_of}
use Rattle.kilim_replay.specs.declared.machine.Machine.{Machine}
use Rattle.kilim_replay.proofs.Named.{no_mails}

alive_is : (l : Live) → l.done ≡ 0 → l.boxes ≡ 0 → Alive (calls_in l.frames) 0 0 ≡ thread_in l
alive_is l d b = λ i. Alive (calls_in l.frames) (sym d i) (sym b i)

pub first_at : (p : Program) (main : ClassId) (limits : Limits) → Keeps p → p.form ≡ Plain → IsWellTyped p → is_fit_main p main ≡ true → (m : Machine) → BeginsAs p main m → IsAt (setting_of p main limits) m (first_state (setting_of p main limits))
first_at p main limits keeps plain well fit m begins =
    let boots = begins.boots in
    record {
      typed = typed_runs_go.first (setting_of p main limits) keeps plain well fit;
      views = record {
        heap = sym boots.heap;
        next = sym boots.next;
        kept = sym boots.kept;
        threads = ap new_thread boots.frames ∙ (ap (λ (th : Thread). th ∷ []) (alive_is begins.live boots.done boots.boxes) ∙ ap (map thread_of) (sym begins.tasks));
        mailboxes = λ box. sym (no_mails m.mailboxes.by_name begins.mailboxes box);
      };
    }

-- ---- the verdict

split : (es : List Entry) (k : ℕ) → es ≡ take k es ++ drop k es
split es zero = refl
split [] (suc k) = refl
split (x ∷ xs) (suc k) = ap (λ ys. x ∷ ys) (split xs k)

module _ (set : Setting) (journal : List Entry) (acts : ℕ) (taken : take acts journal ≡ acts_in journal) (dropped : drop acts journal ≡ waits_in journal) where
  stops_in : (v : Verdict) → StopsIn set (take acts journal) v → Stops set journal v
  stops_in v s = record { before = s.before; entry = s.entry; behind = s.behind; parts = sym taken ∙ s.parts; last = s.last; replays = s.replays; fault = s.fault }

  pub stopped : (v : Verdict) → StopsIn set (take acts journal) v → IsVerdict set journal v
  stopped verdict.Whole s = absurd s.fault
  stopped (verdict.Goes n t) s = absurd s.fault
  stopped (verdict.Rest n) s = absurd s.fault
  stopped (verdict.Absent n) s = stops_in (verdict.Absent n) s
  stopped (verdict.Ended n) s = stops_in (verdict.Ended n) s
  stopped (verdict.Waits n) s = stops_in (verdict.Waits n) s
  stopped (verdict.Made n own) s = stops_in (verdict.Made n own) s

  module _ (fit : is_fit_main set.program set.main ≡ true) (m : Machine) (replayed : IsReplayed set (take acts journal) m) (many : acts ≡ length (acts_in journal)) where
    replays : Replays set (first_state set) (acts_in journal) replayed.last
    replays = subst (λ (es : List Entry). Replays set (first_state set) es replayed.last) taken replayed.replays

    pub closed : (v : Verdict) → IsClosed set replayed.last acts (drop acts journal) v → IsVerdict set journal v
    closed verdict.Whole c = record { fit = fit; acts = take acts journal; waits = drop acts journal; parts = split journal acts; last = replayed.last; replays = replayed.replays; at_rest = c }
    closed (verdict.Goes n t) c = record { last = replayed.last; replays = replays; number = c.0 ∙ ap (λ (k : ℕ). k + 1) many; going = c.1 }
    closed (verdict.Rest n) c = record {
      last = replayed.last;
      replays = replays;
      waits = c.own;
      at_rest = c.at_rest;
      common = c.common;
      differ = subst (λ (es : List Entry). DifferAt es c.own c.common) dropped c.differ;
      number = c.number ∙ ap (λ (k : ℕ). k + c.common + 1) many;
    }
    closed (verdict.Absent n) c = absurd c
    closed (verdict.Ended n) c = absurd c
    closed (verdict.Waits n) c = absurd c
    closed (verdict.Made n own) c = absurd c

pub closed_readable : (set : Setting) (s : State) (acts : ℕ) (waits : List Entry) (v : Verdict) → IsClosed set s acts waits v → IsReadableVerdict v
closed_readable set s acts waits verdict.Whole c = tt
closed_readable set s acts waits (verdict.Goes n t) c = tt
closed_readable set s acts waits (verdict.Rest n) c = tt
closed_readable set s acts waits (verdict.Absent n) c = tt
closed_readable set s acts waits (verdict.Ended n) c = tt
closed_readable set s acts waits (verdict.Waits n) c = tt
closed_readable set s acts waits (verdict.Made n own) c = absurd c

taken_length : (es : List Entry) (k : ℕ) → k ≤ length es → length (take k es) ≡ k
taken_length es zero le = refl
taken_length [] (suc k) le = absurd (omega (arith, le))
taken_length (x ∷ xs) (suc k) le = ap suc (taken_length xs k (omega (arith, le)))

pub counted_acts : (es : List Entry) (k : ℕ) → k ≤ length es → take k es ≡ acts_in es → k ≡ length (acts_in es)
counted_acts es k le e = sym (taken_length es k le) ∙ ap length e

-- ---- what a slice from a place on shows

whole : (es : List Entry) (k : ℕ) → length es ≤ k → take k es ≡ es
whole [] zero le = refl
whole [] (suc k) le = refl
whole (x ∷ xs) zero le = absurd (omega (arith, le))
whole (x ∷ xs) (suc k) le = ap (λ ys. x ∷ ys) (whole xs k (omega (arith, le)))

dropped_length : (es : List Entry) (k : ℕ) → length (drop k es) ≤ length es - k
dropped_length [] zero = omega arith
dropped_length [] (suc k) = omega arith
dropped_length (x ∷ xs) zero = omega arith
dropped_length (x ∷ xs) (suc k) = let z = dropped_length xs k in omega (arith, z)

pub rest_is : (es : List Entry) (k : ℕ) → take (length es - k) (drop k es) ≡ drop k es
rest_is es k = whole (drop k es) (length es - k) (dropped_length es k)
