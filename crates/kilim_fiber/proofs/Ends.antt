-- No thread ends by itself as others decide: for want of tasks, or at a full mailbox.
use Rattle.std.proofs.Common.{◌≡◌, ℕ, zero, suc, false, Some, refl, ◌∙◌}
use Rattle.kilim_run_state.specs.declared.cause.EndCause.{EndCause}
use Rattle.kilim_run_state.specs.declared.cause.EndCause.TheVariants as cause
use Rattle.kilim_run_model.specs.Course.{next_action, next_or, next_within}
use Rattle.kilim_run_model.specs.Lone.{Lone, Next, Goes, Puts, PutWaits, Bounds, Gets, Probes, Starts, Prints, Ends, Stands, next_move}
use Rattle.kilim_run_model.specs.Moving.{is_others}
use Rattle.kilim_run_model.specs.State.{Setting}
use Rattle.kilim_run_model.proofs.one_heap.OwnEnds.{no_own_ends}
use Rattle.kilim_run_board.specs.fibers.Wishes.{ToEnd, end_wish}

or_own : (set : Setting) (t : ℕ) (l : Lone) (go : Lone → Next) (why : EndCause) (after : Lone) → ((m : Lone) → go m ≡ Ends why after → is_others why ≡ false) → (x : Next) → next_move set t l ≡ x → next_or x go ≡ Ends why after → is_others why ≡ false
or_own set t l go why after on (Goes m) d e = on m e
or_own set t l go why after on (Ends c m) d e = no_own_ends set t l why after (d ∙ e)
or_own set t l go why after on (Puts box root shape m) d e = absurd (cc)
or_own set t l go why after on (PutWaits box root shape m) d e = absurd (cc)
or_own set t l go why after on (Bounds box most m) d e = absurd (cc)
or_own set t l go why after on (Gets box m) d e = absurd (cc)
or_own set t l go why after on (Probes box m) d e = absurd (cc)
or_own set t l go why after on (Starts root shape m) d e = absurd (cc)
or_own set t l go why after on (Prints token m) d e = absurd (cc)
or_own set t l go why after on Stands d e = absurd (cc)

within_own : (set : Setting) (t n : ℕ) (l : Lone) (why : EndCause) (after : Lone) → next_within set t n l ≡ Ends why after → is_others why ≡ false
within_own set t zero l why after e = absurd (cc)
within_own set t (suc n) l why after e = or_own set t l (next_within set t n) why after (λ m. within_own set t n m why after) (next_move set t l) refl e

pub own_end : (set : Setting) (t : ℕ) (l : Lone) (why : EndCause) (after : Lone) → next_action set t l ≡ Ends why after → is_others why ≡ false
unfolding next_action
own_end set t l why after e = within_own set t (suc set.limits.steps) l why after e

pub own_wish : (why : EndCause) → is_others why ≡ false → end_wish why ≡ Some (ToEnd why)
own_wish cause.Tasks e = absurd (cc)
own_wish cause.Done e = refl
own_wish cause.Spent e = refl
own_wish cause.Depth e = refl
own_wish cause.Null e = refl
own_wish cause.Index e = refl
own_wish cause.Size e = refl
own_wish cause.Large e = refl
own_wish cause.Cast e = refl
own_wish cause.Store e = refl
own_wish cause.Zero e = refl
own_wish cause.Boxes e = refl
own_wish cause.Full e = absurd (cc)
own_wish cause.Thrown e = refl
