-- Each mailbox of a whole run has one history.
use Rattle.std.proofs.Common.{◌≡◌, ℕ, ◌+◌, false, true, List, [], ◌∷◌, ◌++◌, Option, Some, None, refl, sym, ap, subst, ◌∙◌, append_assoc}
use Rattle.std.specs.Prelude.{slice_get}
use Rattle.kilim_program.specs.Program.{Program}
use Rattle.kilim_program.specs.declared.names.BoxName.{BoxName}
use Rattle.kilim_run_journal.specs.declared.entry.Entry.{Entry}
use Rattle.kilim_run_model.specs.State.{Setting, State, Thread}
use Rattle.kilim_run_model.specs.Reach.{Liveness}
use Rattle.kilim_run_model.specs.Runs.{Whole, settled, wait_entry, waits_at, waits_from}
use Rattle.kilim_run_model.specs.one_heap.Laws.{OneHeapIsMany}
use Rattle.kilim_isolation_laws.specs.Laws.{IsRunOfAccepted}
use Rattle.kilim_isolation_laws.specs.kept.Laws.{AcceptedIsKept}
use Rattle.kilim_isolation_laws.specs.reached_objects.Laws.{AreLive}
use Rattle.kilim_new_bounds.specs.Laws.{AcceptedBoundsAreNew}
use Rattle.kilim_run_board.specs.Laws.{MailboxesAreThreads}
use Rattle.kilim_run_board.specs.OneThread.{AreOneThread, Note, notes_of, notes_of_act}
use Rattle.kilim_theorems.specs.mailbox_histories.Histories.{OneHistory}

-- ---- the lines of those who wait say nothing of a mailbox

module _ (box : BoxName) where
  joined : (xs ys : List Entry) → notes_of box (xs ++ ys) ≡ notes_of box xs ++ notes_of box ys
  joined [] ys = refl
  joined (x ∷ xs) ys = ap (λ (ns : List Note). notes_of_act box x.act ++ ns) (joined xs ys) ∙ sym (append_assoc (notes_of_act box x.act) (notes_of box xs) (notes_of box ys))

  none_waits : (t : ℕ) (o : Option BoxName) → notes_of box (wait_entry t o) ≡ []
  none_waits t None = refl
  none_waits t (Some b) = refl

  none_from : (set : Setting) (s : State) (t : ℕ) (ths : List Thread) → notes_of box (waits_from set s t ths) ≡ []
  none_from set s t [] = refl
  none_from set s t (th ∷ ths) =
      joined (wait_entry t (waits_at set s t th)) (waits_from set s (t + 1) ths)
      ∙ (ap (λ (ns : List Note). ns ++ notes_of box (waits_from set s (t + 1) ths)) (none_waits t (waits_at set s t th)) ∙ none_from set s (t + 1) ths)

  nothing : (ns : List Note) → ns ++ [] ≡ ns
  nothing [] = refl
  nothing (n ∷ ns) = ap (λ ms. n ∷ ms) (nothing ns)

  of_acts : (set : Setting) (journal : List Entry) (whole : Whole set journal) → notes_of box journal ≡ notes_of box whole.acts
  of_acts set journal whole =
      let last = settled set whole.at_rest.moves whole.last in
      ap (notes_of box) whole.parts
      ∙ (joined whole.acts whole.waits
      ∙ (ap (λ (ns : List Note). notes_of box whole.acts ++ ns) (ap (notes_of box) whole.at_rest.waiting ∙ none_from set last 0 last.threads) ∙ nothing (notes_of box whole.acts)))

-- ---- where no local is taken for live, none has to be

stacks_alone : Liveness
stacks_alone = record { top = λ id at k. false; below = λ id at k. false }

none_live : (q : Program) → AreLive q stacks_alone
unfolding stacks_alone
none_live q = (λ id m at k there e. absurd (let z : false ≡ true = e in cc), λ id m at k there e. absurd (let z : false ≡ true = e in cc))

pub one_history : AcceptedBoundsAreNew → AcceptedIsKept → OneHeapIsMany → MailboxesAreThreads → OneHistory
one_history new keep many threads set run journal whole box =
    let moved = (many stacks_alone set run.main (keep set run stacks_alone (none_live set.program)) whole.acts).0 whole.last whole.replays in
    subst AreOneThread (sym (of_acts box set journal whole)) (threads set whole.acts moved.0 box (new set run) moved.1)
