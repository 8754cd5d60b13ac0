use Rattle.std.proofs.Common.{[], ℕ, ◌≡◌, List, All, length, map, subst, sym, ap, ◌∙◌, arith}
use Rattle.std.specs.Prelude.{replicate}
use Rattle.kilim_run_turn.specs.declared.pass.Pass.{Pass}
use Rattle.kilim_run_turn.specs.Turns.{shows, AreAllOf}
use Rattle.kilim_run_turn.proofs.Passes.{all_stay, written_back}
use Rattle.kilim_run_workers.specs.Codes.{board_cells}
use Rattle.kilim_run_workers.proofs.Rounds.{shows_free, free_shows, long}
use Rattle.kilim_run_workers.proofs.many_workers.run_round.Goals as goal

pub open-requires : goal.open-requires
open-requires g c = record { some = c.requires.may.workers.0; few = c.requires.may.workers.1; seats = sym (ap length c.requires.may.free ∙ long c.args.workers) }

pub work_each-requires-clause-all : goal.work_each-requires-clause-all
work_each-requires-clause-all g c κs _ = subst (λ (l : List Pass). AreAllOf board_cells c.in-Ok.turn l) (sym c.as_mut_slice.ensures.value) c.in-Ok.ensures.passes

pub work_each-requires-clause-free : goal.work_each-requires-clause-free
work_each-requires-clause-free g c κs _ =
    subst (λ (l : List Pass). All (λ (p : Pass). shows p ≡ []) l) (sym c.as_mut_slice.ensures.value) (shows_free c.in-Ok.passes.items c.args.workers (c.in-Ok.ensures.cells ∙ c.requires.may.free))

pub close-requires : goal.close-requires
close-requires g c =
    let e = c.as_mut_slice.ensures in
    let o = c.work_each.ensures in
    let size = c.work_each.auto.passes in
    let was = subst (λ (l : List Pass). AreAllOf board_cells c.in-Ok.turn l) (sym e.value) c.in-Ok.ensures.passes in
    subst (λ (l : List Pass). AreAllOf board_cells c.in-Ok.turn l) (sym (written_back c.in-Ok.passes.len c.work_each.new.passes _ (size ∙ e.len))) (all_stay _ _ _ _ was size o.each o.order)

pub returns-in-Ok : goal.returns-in-Ok
returns-in-Ok g c =
    let e = c.as_mut_slice.ensures in
    let size = c.work_each.auto.passes in
    let free : All (λ (p : Pass). shows p ≡ []) c.work_each.new.passes = λ k d lt. c.work_each.ensures.empty k d (omega arith) in
    let same = ap (λ (l : List Pass). map shows l) (written_back c.in-Ok.passes.len c.work_each.new.passes _ (size ∙ e.len)) in
    let many = size ∙ (ap length e.value ∙ (c.in-Ok.ensures.passes.1 ∙ c.in-Ok.ensures.seats)) in
    c.close.ensures ∙ (same ∙ (free_shows c.work_each.new.passes free ∙ ap (λ n. replicate {A = List ℕ} n []) many))

pub work_each-requires-clause-workers : goal.work_each-requires-clause-workers
work_each-requires-clause-workers g c κs _ = let some = c.requires.may.workers.0 in omega arith

pub work_each-requires-clause-some : goal.work_each-requires-clause-some
work_each-requires-clause-some g c κs _ = c.requires.may.some

pub work_each-requires-clause-run : goal.work_each-requires-clause-run
work_each-requires-clause-run g c κs _ = c.requires.may.run
