-- Each thread of a verified program may go on by itself over the one heap.
use Rattle.std.proofs.Common.{◌≡◌, ℕ, true, Some, sym, subst}
use Rattle.std.specs.Prelude.{slice_get}
use Rattle.kilim_lemmas.proofs.Lists.{set_there}
use Rattle.kilim_program.specs.declared.class.Form.TheVariants.{Plain}
use Rattle.kilim_program.specs.Keeps.{Keeps}
use Rattle.kilim_type_spec.specs.Typed.{IsWellTyped}
use Rattle.kilim_type_laws.specs.Laws.{typing_at}
use Rattle.kilim_type_laws.proofs.ByPlace.{typed_by_place}
use Rattle.kilim_run_journal.specs.declared.entry.Act.{Act}
use Rattle.kilim_run_model.specs.State.{Setting, Thread, State, first_state, is_fit, noted}
use Rattle.kilim_run_model.specs.Lone.{Lone}
use Rattle.kilim_run_model.specs.Turn.{Moved, lone_of, with_lone, moved}
use Rattle.kilim_run_model.specs.Course.{Quiet, Stays, Moves}
use Rattle.kilim_type_sound.specs.Fits.{Wanted}
use Rattle.kilim_type_sound.proofs.Grounds.{are_verified, are_wanted}
use Rattle.kilim_isolation_laws.specs.typed_threads.fine.Typed.{IsVerified}
use Rattle.kilim_replay_laws.specs.shared.Shared.{IsTypedState, SharedStays, Serves}
use Rattle.kilim_replay_laws.specs.shared.Runs.{CanGo, IsTypedRun, TypedRunsGo}
use Rattle.kilim_replay_laws.proofs.shared.Shared.{verified_is_shared}
use Rattle.kilim_replay_laws.proofs.Leads.{led, quiet_is, same_state}

-- all locals may be wanted
abbrev wanted : Wanted
wanted = λ id at k. true

module _ (set : Setting) (s : State) (t : ℕ) (th : Thread) (run : IsTypedRun set s) (at : slice_get s.threads t ≡ Some th) where
  stays : SharedStays set run.typing run.live run.verified
  stays = verified_is_shared set run.typing run.live run.verified run.main

  typed_along : (l : Lone) → Quiet set t (lone_of s t th) l → IsTypedState set run.typing run.live run.verified (with_lone s t l)
  typed_along l (Stays same) = subst (λ (x : Lone). IsTypedState set run.typing run.live run.verified (with_lone s t x)) same (subst (λ (x : State). IsTypedState set run.typing run.live run.verified x) (sym (same_state set s t th at)) run.typed)
  typed_along l (Moves b quiet e) =
      let before = typed_along b quiet in
      let own = (led set s t th at b quiet).own in
      subst (λ (m : Moved). IsTypedState set run.typing run.live run.verified m.state) (quiet_is set s t th at b l own e) (stays.moves (with_lone s t b) t before)

  run_along : (l : Lone) → Quiet set t (lone_of s t th) l → IsTypedRun set (with_lone s t l)
  run_along l quiet = record { typing = run.typing; live = run.live; verified = run.verified; main = run.main; typed = typed_along l quiet }

  can_go : CanGo set t (lone_of s t th)
  can_go l quiet =
      let here = stays.serves (with_lone s t l) t l.thread (typed_along l quiet) (set_there s.threads t th l.thread at) in
      subst (λ (x : Lone). Serves set x) (led set s t th at l quiet).leads.stands here

moved_run : (set : Setting) (s : State) (t : ℕ) → IsTypedRun set s → IsTypedRun set (moved set s t).state
moved_run set s t run = record { typing = run.typing; live = run.live; verified = run.verified; main = run.main; typed = (verified_is_shared set run.typing run.live run.verified run.main).moves s t run.typed }

noted_run : (set : Setting) (s : State) (t : ℕ) (act : Act) → IsTypedRun set s → IsTypedRun set (noted s t act)
noted_run set s t act run =
    let f = run.typed.1 in
    record {
      typing = run.typing;
      live = run.live;
      verified = run.verified;
      main = run.main;
      typed = (run.typed.0, record { threads = f.threads; heap = f.heap; full = f.full; fresh = f.fresh; kept = f.kept; queued = f.queued });
    }

first_run : (set : Setting) → Keeps set.program → set.program.form ≡ Plain → IsWellTyped set.program → is_fit set ≡ true → IsTypedRun set (first_state set)
first_run set keeps form well main =
    let is : IsVerified set (typing_at set.program) wanted = record {
      keeps = keeps;
      form = form;
      verified = are_verified set.program (typing_at set.program) wanted keeps (λ id m is coded. typed_by_place set.program keeps well id m is coded) (λ id m is at found there. are_wanted.all m.handlers at found.1 found.0);
    } in
    record { typing = typing_at set.program; live = wanted; verified = is; main = main; typed = (verified_is_shared set (typing_at set.program) wanted is main).first }

pub typed_runs_go : TypedRunsGo
typed_runs_go = record {
  first = first_run;
  moves = moved_run;
  noted = noted_run;
  along = λ set s t th l run at quiet. run_along set s t th run at l quiet;
  goes = λ set s t th run at. can_go set s t th run at;
}
