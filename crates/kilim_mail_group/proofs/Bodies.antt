-- A task that asked is answered, or has ended.
use Rattle.std.proofs.Common.{◌≡◌, ℕ, ◌<◌, true, List, [], ◌∷◌, ◌++◌, Option, Some, refl, sym, ap, subst, ◌∙◌, arith}
use Rattle.kilim_lemmas.proofs.Lists.{map_append}
use Rattle.kilim_program.specs.declared.names.BoxName.{BoxName}
use Rattle.kilim_run_model.specs.State.{Setting}
use Rattle.kilim_run_model.specs.Lone.{Lone}
use Rattle.kilim_run_model.specs.Course.{Course, has_ended}
use Rattle.kilim_run_model.specs.Moving.{further}
use Rattle.kilim_run_model.specs.declared.deed.Deed.{Deed}
use Rattle.kilim_run_board.specs.declared.fibers.Answer.{Answer}
use Rattle.kilim_run_board.specs.fibers.Fibers.{Asks}
use Rattle.kilim_run_board.specs.fibers.Wishes.{Wish, Wishes}
use Rattle.kilim_mail_ledger.specs.declared.items.Dated.{Dated}
use Rattle.kilim_mail_ledger.specs.Ledger.{Trace, trace_course, IsTrace}
use Rattle.kilim_mail_ledger.specs.Goings.{longer, latest, EndsBy}
use Rattle.kilim_mail_ledger.proofs.Goings.{histories_go_on, histories_end}
use Rattle.kilim_mail_notes.specs.Histories.{trace_of}
use Rattle.kilim_mail_ready.specs.declared.body.Body.{Body}
use Rattle.kilim_mail_ready.specs.Ready.{FiberStands, BodyStands}
use Rattle.kilim_mail_group.specs.Group.{BodyAsks}
use Rattle.kilim_mail_group.specs.Steps.{IsAsked}

latest_more : (n : ℕ) (past : List Dated) (d : Dated) → latest n (past ++ d ∷ []) ≡ d.stamp
latest_more n [] d = refl
latest_more n (x ∷ past) d = latest_more x.stamp past d

course_more : (t : Trace) (d : Dated) → trace_course (longer t d) ≡ further (trace_course t) d.deed
course_more t d = ap (λ (ds : List Deed). record { beginning = t.beginning; deeds = ds }) (map_append (λ (x : Dated). x.deed) t.past (d ∷ []))

module _ {F : Type 0} (task : F → ℕ) (course : F → Course) (asked : Setting → F → Lone → Type 0) (set : Setting) (b : Body F) where
  pub own_wishes : (wish : Wish) → BodyAsks task course asked set b wish → Wishes set b.history.task (trace_course (trace_of b.history)) wish
  own_wishes wish asks = subst (λ (t : ℕ). Wishes set t (trace_course (trace_of b.history)) wish) asks.task-is (subst (λ (c : Course). Wishes set (task b.fiber) c wish) asks.same asks.asks.wishes)

  later_than : (wish : Wish) (n : ℕ) → BodyAsks task course asked set b wish → b.clock < n → latest (trace_of b.history).stamp (trace_of b.history).past < n
  later_than wish n asks lt = let e = asks.clock in omega arith

  module _ (new : Body F) (d : Dated) (later : b.clock < d.stamp) (history : trace_of new.history ≡ longer (trace_of b.history) d) where
    pub answered : (holds : Setting → F → Lone → Type 0) (a : Answer) → IsAsked task course asked set b a d → new.fiber ≡ b.fiber → new.clock ≡ d.stamp → new.history.task ≡ b.history.task →
        BodyStands task course holds asked set (record { fiber = new.fiber; clock = new.clock; pending = Some a; history = new.history })
    answered holds a is fiber clock same_task = record {
      trace = subst (λ (t : Trace). IsTrace set t) (sym history)
          (histories_go_on set (trace_of b.history) is.wish a d is.asks.trace (own_wishes is.wish is.asks) is.fits (later_than is.wish d.stamp is.asks later));
      task-is = ap task fiber ∙ (is.asks.task-is ∙ sym same_task);
      clock = clock ∙ (sym (latest_more (trace_of b.history).stamp (trace_of b.history).past d) ∙ ap (λ (t : Trace). latest t.stamp t.past) (sym history));
      fiber = (
        is.wish,
        d.deed,
        ap trace_course history ∙ (course_more (trace_of b.history) d ∙ ap (λ (c : Course). further c d.deed) (sym is.asks.same ∙ ap course (sym fiber))),
        subst (λ (f : F). Asks task course asked set f is.wish) (sym fiber) is.asks.asks,
        is.fits,
      );
    }

    pub ended : (wish : Wish) → BodyAsks task course asked set b wish → EndsBy wish d.full d.deed → IsTrace set (trace_of new.history) × (has_ended (trace_course (trace_of new.history)) ≡ true)
    ended wish asks ends =
        subst (λ (t : Trace). IsTrace set t × (has_ended (trace_course t) ≡ true)) (sym history)
        (histories_end set (trace_of b.history) wish d asks.trace (own_wishes wish asks) ends (later_than wish d.stamp asks later))
