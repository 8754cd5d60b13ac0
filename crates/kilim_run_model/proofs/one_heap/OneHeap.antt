-- One shared heap is as many heaps.
use Rattle.std.proofs.Common.{List, refl, sym, subst, ◌∙◌}
use Rattle.kilim_run_journal.specs.declared.entry.Entry.{Entry}
use Rattle.kilim_run_model.specs.State.{first_state}
use Rattle.kilim_run_model.specs.Runs.{Replays}
use Rattle.kilim_run_model.specs.Moving.{MovedReplay, first_books}
use Rattle.kilim_run_model.specs.one_heap.Parted.{first_parted, played_from}
use Rattle.kilim_run_model.specs.one_heap.Laws.{OneHeapIsMany, MovedIsWhole, PlaysReplay}
use Rattle.kilim_run_model.proofs.one_heap.First.{first_there, first_booked}
use Rattle.kilim_run_model.proofs.one_heap.Beside.{first_beside, plays_beside, replays_parted, replays_shared}
use Rattle.kilim_run_model.proofs.one_heap.Same.{same_rests, replays_journal, moving_of}
use Rattle.kilim_run_model.proofs.one_heap.Back.{back}

pub one_heap_is_many : OneHeapIsMany
one_heap_is_many live set fit kept es =
    let l = first_there set fit in
    let first = first_beside set l.0 l.1 in (
      λ last replays.
          let w = replays_parted live set kept (first_parted set) (first_state set) es last first replays in
          let journal = replays_journal set (first_parted set) es w.0 w.1 in
          let v = moving_of set w.0 w.2.books w.0.journal w.2.full w.2.says w.2.booked in
          (v.0, subst (λ (j : List Entry). MovedReplay set j v.0) journal v.1, same_rests live set kept w.0 last w.2 v.0 v.1),
      λ v moved.
          let apart = back set es v moved es (first_parted set) first_books (first_booked set l.0 l.1) moved.full moved.books in
          let w = replays_shared live set kept (first_parted set) (first_state set) es apart.0 first apart.1 in
          let journal = replays_journal set (first_parted set) es apart.0 apart.1 in
          (w.0, w.1, same_rests live set kept apart.0 w.0 w.2 v (subst (λ (j : List Entry). MovedReplay set j v) (sym journal) moved)),
    )

pub moved_is_whole : MovedIsWhole
moved_is_whole live set fit kept es waits v moved rest =
    let w = (one_heap_is_many live set fit kept es).1 v moved in
    record { fit = fit; acts = es; waits = waits; parts = refl; last = w.0; replays = w.1; at_rest = (w.2 waits).1 rest }

pub plays_replay : PlaysReplay
plays_replay live set fit kept schedule =
    let l = first_there set fit in
    let b = plays_beside live set kept (first_parted set) (first_state set) schedule (first_beside set l.0 l.1) in
    let m = played_from set (first_parted set) schedule in
    let v = moving_of set m b.books m.journal b.full b.says b.booked in
    let apart = back set m.journal v.0 v.1 m.journal (first_parted set) first_books (first_booked set l.0 l.1) v.1.full v.1.books in
    let w = replays_shared live set kept (first_parted set) (first_state set) m.journal apart.0 (first_beside set l.0 l.1) apart.1 in
    let journal = replays_journal set (first_parted set) m.journal apart.0 apart.1 in (
      w.0,
      subst (λ (j : List Entry). Replays set (first_state set) j w.0) b.tied.by.journal w.1,
      sym w.2.tied.by.journal ∙ (journal ∙ b.tied.by.journal),
    )
