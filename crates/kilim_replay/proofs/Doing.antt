-- What a task does is what its thread does in the shared machine.
use Rattle.std.proofs.Common.{◌≡◌, ◌<◌, ◌≤◌, ℕ, Bool, true, false, cond, List, [], ◌∷◌, ◌++◌, Option, Some, None, map, length, ◌⊎◌, inl, inr, sym, ap, subst, ◌∙◌, arith}
use Rattle.std.proofs.lemmas.Bool.Decides.{nat_tests}
use Rattle.std.specs.Prelude.{◌==◌, nat_lt, slice_set}
use Rattle.kilim_lemmas.proofs.Lists.{set_length}
use Rattle.kilim_program.specs.declared.names.BoxName.{BoxName}
use Rattle.kilim_program.specs.declared.value.Value.TheVariants.{Null, Ref}
use Rattle.kilim_run_state.specs.Machine.{Activation}
use Rattle.kilim_run_state.specs.declared.cause.EndCause.{EndCause}
use Rattle.kilim_run_state.specs.declared.cause.EndCause.TheVariants as cause
use Rattle.kilim_run_state.specs.declared.value.Token.{Token}
use Rattle.kilim_run_journal.specs.declared.entry.Act.{Act}
use Rattle.kilim_run_journal.specs.declared.entry.Act.TheVariants.{Put, Start, Print, End}
use Rattle.kilim_run_model.specs.State.{Alive, Mailbox, Setting, State, Thread, Ended, bounded, execute_frames, is_full, with_mailbox, with_message, with_queue}
use Rattle.kilim_run_model.specs.Lone.{Next, Puts, PutWaits, Bounds, Gets, Probes, Starts, Prints, Ends, ended, pushed_on}
use Rattle.kilim_run_model.specs.Turn.{acted, gets, moved_by, probes, puts, quiet, starts_with, takes, task_limit, with_lone}
use Rattle.kilim_replay_thread.specs.Live.{behind_at, behind_in, calls_in, ended_at, thread_in, with_thread}
use Rattle.kilim_replay_thread.specs.declared.task.Live.{Live}
use Rattle.kilim_replay_thread.specs.declared.task.World.{World}
use Rattle.kilim_replay.specs.Machine.{HasBounded, HasEnded, HasFoundNone, HasPrinted, HasPut, HasStarted, HasTaken, IsDone, Views, thread_of}
use Rattle.kilim_replay.specs.Mailboxes.{mail_of}
use Rattle.kilim_replay.specs.declared.machine.Machine.{Machine}
use Rattle.kilim_replay.specs.declared.machine.Task.TheVariants as a_task
use Rattle.kilim_replay.specs.declared.mailboxes.Mailboxes.{Mailboxes}
use Rattle.kilim_replay.proofs.Viewing.{in_world, mailed, map_length, map_more, of_boxes, set_again, stood_views, with_mails, map_set}

module _ (set : Setting) (t : ℕ) (old : Machine) (l : Live) (s : State) (views : Views old.world (slice_set old.tasks.items t (a_task.Live l)) old.mailboxes s) (new : Machine) (act : Act) where
  -- it was that next action
  by_next : (n m : Next) → n ≡ m → IsDone (moved_by set s t m) new act → IsDone (moved_by set s t n) new act
  by_next n m e done = subst (λ (x : Next). IsDone (moved_by set s t x) new act) (sym e) done

  some_act : (a : Act) → act ≡ a → Some a ≡ Some act
  some_act a e = ap (λ (x : Act). Some x) (sym e)

  full_as : (name : BoxName) (z : Bool) → is_full (mail_of old.mailboxes name) ≡ z → is_full (s.mailboxes name) ≡ z
  full_as name z e = ap (λ (m : Mailbox ℕ). is_full m) (views.mailboxes name) ∙ e

  put_into : (name : BoxName) (root : ℕ) (shape : List Token) → HasPut t name root shape l old new act → IsDone (puts (with_lone s t (behind_at t old.world l)) name root shape) new act
  put_into name root shape put = record {
    told = ap (λ (m : Mailbox ℕ). Some (Put name m.puts shape)) (views.mailboxes name) ∙ some_act _ put.told;
    views =
        with_mails new.world new.tasks.items old.mailboxes new.mailboxes (with_lone s t (behind_at t old.world l)) (with_mailbox s.mailboxes name (with_message (s.mailboxes name) root))
        (in_world old.world new.world new.tasks.items old.mailboxes (with_lone s t (behind_at t old.world l)) put.world (stood_views t old.world old.tasks.items old.mailboxes l s views (behind_in l) new.tasks.items put.stands))
        (λ box. mailed s.mailboxes (mail_of old.mailboxes) name (with_message (s.mailboxes name) root) (with_message (mail_of old.mailboxes name) root) views.mailboxes (ap (λ (m : Mailbox ℕ). with_message m root) (views.mailboxes name)) box ∙ sym (put.mails box));
  }

  pub did_put : (name : BoxName) (root : ℕ) (shape : List Token) (n : Next) → n ≡ Puts name root shape (behind_at t old.world l) → is_full (mail_of old.mailboxes name) ≡ false → HasPut t name root shape l old new act → IsDone (moved_by set s t n) new act
  did_put name root shape n e room put =
      by_next n _ e
      (subst (λ (z : Bool). IsDone (cond z (acted (with_lone s t (ended (behind_at t old.world l) cause.Full)) (End cause.Full)) (puts (with_lone s t (behind_at t old.world l)) name root shape)) new act) (sym (full_as name false room)) (put_into name root shape put))

  pub did_put_wait : (name : BoxName) (root : ℕ) (shape : List Token) (n : Next) → n ≡ PutWaits name root shape (behind_at t old.world l) → is_full (mail_of old.mailboxes name) ≡ false → HasPut t name root shape l old new act → IsDone (moved_by set s t n) new act
  did_put_wait name root shape n e room put =
      by_next n _ e (subst (λ (z : Bool). IsDone (cond z (quiet s) (puts (with_lone s t (behind_at t old.world l)) name root shape)) new act) (sym (full_as name false room)) (put_into name root shape put))

  pub did_bound : (name : BoxName) (most : ℕ) (n : Next) → n ≡ Bounds name most (behind_at t old.world l) → HasBounded t name most l old new act → IsDone (moved_by set s t n) new act
  did_bound name most n e is = by_next n _ e record {
    told = some_act _ is.told;
    views =
        with_mails new.world new.tasks.items old.mailboxes new.mailboxes (with_lone s t (behind_at t old.world l)) (with_mailbox s.mailboxes name (bounded (s.mailboxes name) most))
        (in_world old.world new.world new.tasks.items old.mailboxes (with_lone s t (behind_at t old.world l)) is.world (stood_views t old.world old.tasks.items old.mailboxes l s views (behind_in l) new.tasks.items is.stands))
        (λ box. mailed s.mailboxes (mail_of old.mailboxes) name (bounded (s.mailboxes name) most) (bounded (mail_of old.mailboxes name) most) views.mailboxes (ap (λ (m : Mailbox ℕ). bounded m most) (views.mailboxes name)) box ∙ sym (is.mails box));
  }

  pub did_print : (token : Token) (shape : List Token) (n : Next) → shape ≡ token ∷ [] → n ≡ Prints token (behind_at t old.world l) → HasPrinted t shape l old new act → IsDone (moved_by set s t n) new act
  did_print token shape n is e printed = by_next n _ e record {
    told = ap (λ (x : List Token). Some (Print x)) (sym is) ∙ some_act _ printed.told;
    views =
        of_boxes new.world new.tasks.items old.mailboxes new.mailboxes (with_lone s t (behind_at t old.world l)) printed.mailboxes
        (in_world old.world new.world new.tasks.items old.mailboxes (with_lone s t (behind_at t old.world l)) printed.world (stood_views t old.world old.tasks.items old.mailboxes l s views (behind_in l) new.tasks.items printed.stands));
  }

  -- a message was taken
  did_take : (name : BoxName) (taken : HasTaken t name l old new act) → IsDone (takes s t name (behind_at t old.world l) taken.first (mail_of new.mailboxes name).queue) new act
  did_take name taken = record {
    told = some_act _ taken.told;
    views =
        with_mails new.world new.tasks.items old.mailboxes new.mailboxes (with_lone s t (with_thread t old.world (pushed_on (Ref taken.first.1) (behind_in l)))) (with_mailbox s.mailboxes name (with_queue (s.mailboxes name) (mail_of new.mailboxes name).queue))
        (in_world old.world new.world new.tasks.items old.mailboxes (with_lone s t (with_thread t old.world (pushed_on (Ref taken.first.1) (behind_in l)))) taken.world
        (stood_views t old.world old.tasks.items old.mailboxes l s views (pushed_on (Ref taken.first.1) (behind_in l)) new.tasks.items taken.stands))
        (λ box.
        mailed s.mailboxes (mail_of old.mailboxes) name (with_queue (s.mailboxes name) (mail_of new.mailboxes name).queue) (with_queue (mail_of old.mailboxes name) (mail_of new.mailboxes name).queue) views.mailboxes
        (ap (λ (m : Mailbox ℕ). with_queue m (mail_of new.mailboxes name).queue) (views.mailboxes name)) box
        ∙ sym (taken.mails box));
  }

  queue_is : (name : BoxName) (q : List (ℕ × ℕ)) → (mail_of old.mailboxes name).queue ≡ q → (s.mailboxes name).queue ≡ q
  queue_is name q e = ap (λ (m : Mailbox ℕ). m.queue) (views.mailboxes name) ∙ e

  pub did_get : (name : BoxName) (n : Next) → n ≡ Gets name (behind_at t old.world l) → HasTaken t name l old new act → IsDone (moved_by set s t n) new act
  did_get name n e taken =
      by_next n _ e (subst (λ (q : List (ℕ × ℕ)). IsDone (gets s t name (behind_at t old.world l) q) new act) (sym (queue_is name _ taken.was)) (did_take name taken))

  pub did_probe : (name : BoxName) (n : Next) → n ≡ Probes name (behind_at t old.world l) → HasTaken t name l old new act ⊎ HasFoundNone t name l old new act → IsDone (moved_by set s t n) new act
  did_probe name n e (inl taken) = by_next n _ e (subst (λ (q : List (ℕ × ℕ)). IsDone (probes s t name (behind_at t old.world l) q) new act) (sym (queue_is name _ taken.was)) (did_take name taken))
  did_probe name n e (inr none) =
      by_next n _ e (subst (λ (q : List (ℕ × ℕ)). IsDone (probes s t name (behind_at t old.world l) q) new act) (sym (queue_is name _ none.none)) record {
        told = some_act _ none.told;
        views =
            with_mails new.world new.tasks.items old.mailboxes new.mailboxes (with_lone s t (with_thread t old.world (pushed_on Null (behind_in l)))) s.mailboxes
            (in_world old.world new.world new.tasks.items old.mailboxes (with_lone s t (with_thread t old.world (pushed_on Null (behind_in l)))) none.world
            (stood_views t old.world old.tasks.items old.mailboxes l s views (pushed_on Null (behind_in l)) new.tasks.items none.stands))
            (λ box. views.mailboxes box ∙ sym (none.mails box));
      })

  -- the task is over
  kept_over : (z : Bool) (a b : Option ℕ) → a ≡ b → cond z None a ≡ cond z None b
  kept_over z a b e = ap (λ (k : Option ℕ). cond z None k) e

  ended_views : (why : EndCause) → HasEnded t why old new act → Views new.world new.tasks.items new.mailboxes (with_lone s t (ended_at old.world why))
  ended_views why over = record {
    heap = sym over.heap;
    next = sym over.next;
    kept = kept_over (t == 0) s.kept old.world.kept views.kept ∙ sym over.kept;
    threads =
        ap (λ (ths : List Thread). slice_set ths t (Ended why)) (views.threads ∙ map_set old.tasks.items t (a_task.Live l))
        ∙ (set_again (map thread_of old.tasks.items) t (thread_in l) (Ended why) ∙ (sym (map_set old.tasks.items t (a_task.Ended why)) ∙ ap (map thread_of) (sym over.tasks)));
    mailboxes = λ box. views.mailboxes box ∙ ap (λ (b : Mailboxes). mail_of b box) (sym over.mailboxes);
  }

  pub did_end : (why : EndCause) (n : Next) → n ≡ Ends why (ended_at old.world why) → HasEnded t why old new act → IsDone (moved_by set s t n) new act
  did_end why n e over = by_next n _ e record { told = some_act _ over.told; views = ended_views why over }

  -- ---- a start

  tasks_are : length s.threads ≡ length old.tasks.items
  tasks_are = ap length views.threads ∙ (map_length (slice_set old.tasks.items t (a_task.Live l)) ∙ set_length old.tasks.items t (a_task.Live l))

  frames_in : (first : Live) → first.done ≡ 0 → first.boxes ≡ 0 → thread_in first ≡ Alive (calls_in first.frames) 0 0
  frames_in first d b = λ i. Alive (calls_in first.frames) (d i) (b i)

  started_views : (root : ℕ) (shape : List Token) (is : HasStarted set.program t root shape l old new act) → IsDone (starts_with s shape (with_lone s t (behind_at t old.world l)) (Some (calls_in is.first.frames))) new act
  started_views root shape is =
      let mid = stood_views t old.world old.tasks.items old.mailboxes l s views (behind_in l) is.mid is.stands in
      record {
        told = ap (λ (k : ℕ). Some (Start k shape)) tasks_are ∙ some_act _ is.told;
        views = record {
          heap = ap (λ (x : World). x.heap) (sym is.world);
          next = ap (λ (x : World). x.next) (sym is.world);
          kept = mid.kept ∙ ap (λ (x : World). x.kept) (sym is.world);
          threads =
              ap (λ (ths : List Thread). ths ++ Alive (calls_in is.first.frames) 0 0 ∷ []) mid.threads
              ∙ (ap (λ (th : Thread). map thread_of is.mid ++ th ∷ []) (sym (frames_in is.first is.done is.boxes)) ∙ (sym (map_more is.mid (a_task.Live is.first)) ∙ ap (map thread_of) (sym is.tasks)));
          mailboxes = λ box. views.mailboxes box ∙ ap (λ (b : Mailboxes). mail_of b box) (sym is.mailboxes);
        };
      }

  few_tasks : length old.tasks.items < 10000 → nat_lt (length s.threads) task_limit ≡ true
  few_tasks lt = ap (λ (k : ℕ). nat_lt k task_limit) tasks_are ∙ few (length old.tasks.items) lt
    where
      few : (k : ℕ) → k < 10000 → nat_lt k 10000 ≡ true
      few k h = grind (arith, nat_tests)

  many_tasks : 10000 ≤ length old.tasks.items → nat_lt (length s.threads) task_limit ≡ false
  many_tasks le = ap (λ (k : ℕ). nat_lt k task_limit) tasks_are ∙ many (length old.tasks.items) le
    where
      many : (k : ℕ) → 10000 ≤ k → nat_lt k 10000 ≡ false
      many k h = grind (arith, nat_tests)

  pub did_start : (root : ℕ) (shape : List Token) (n : Next) → n ≡ Starts root shape (behind_at t old.world l) → length old.tasks.items < 10000 → HasStarted set.program t root shape l old new act → IsDone (moved_by set s t n) new act
  did_start root shape n e lt is =
      by_next n _ e
      (subst (λ (z : Bool). IsDone (cond z (starts_with s shape (with_lone s t (behind_at t old.world l)) (execute_frames set.program old.world.heap root)) (acted (with_lone s t (ended (behind_at t old.world l) cause.Tasks)) (End cause.Tasks))) new act) (sym (few_tasks lt))
      (subst (λ (o : Option (List Activation)). IsDone (starts_with s shape (with_lone s t (behind_at t old.world l)) o) new act) (sym is.frames) (started_views root shape is)))

  pub did_start_none : (root : ℕ) (shape : List Token) (n : Next) → n ≡ Starts root shape (behind_at t old.world l) → 10000 ≤ length old.tasks.items → HasEnded t cause.Tasks old new act → IsDone (moved_by set s t n) new act
  did_start_none root shape n e le over =
      by_next n _ e
      (subst (λ (z : Bool). IsDone (cond z (starts_with s shape (with_lone s t (behind_at t old.world l)) (execute_frames set.program old.world.heap root)) (acted (with_lone s t (ended (behind_at t old.world l) cause.Tasks)) (End cause.Tasks))) new act) (sym (many_tasks le))
      record { told = some_act _ over.told; views = ended_views cause.Tasks over })

  pub did_put_full : (name : BoxName) (root : ℕ) (shape : List Token) (n : Next) → n ≡ Puts name root shape (behind_at t old.world l) → is_full (mail_of old.mailboxes name) ≡ true → HasEnded t cause.Full old new act → IsDone (moved_by set s t n) new act
  did_put_full name root shape n e full over =
      by_next n _ e
      (subst (λ (z : Bool). IsDone (cond z (acted (with_lone s t (ended (behind_at t old.world l) cause.Full)) (End cause.Full)) (puts (with_lone s t (behind_at t old.world l)) name root shape)) new act) (sym (full_as name true full))
      record { told = some_act _ over.told; views = ended_views cause.Full over })
