use Rattle.std.proofs.Common.{◌∙◌, ap, sym, arith, slice_get, List, ℕ, length, ◌<◌}
use Rattle.std.proofs.lemmas.Option.{slice_get-get_or}
use Rattle.kilim_isolation_paths.proofs.Lists.{is_none, has_in}
use Rattle.kilim_isolation_paths.proofs.Ends.{visit_start, at_later, exit_of, exit_inside, visit_step, visit_full, visit_end}
use Rattle.kilim_isolation_paths.specs.declared.store.Reached.{Reached}
use Rattle.kilim_isolation_paths.specs.declared.machine.Exit.{Exit}
use Rattle.kilim_isolation_paths.proofs.Steps.{same_later}
use Rattle.kilim_isolation_paths.proofs.search.visit_all.Goals as goal

pub exits-requires : goal.exits-requires
exits-requires g c = has_in (λ (e : Reached _). e.place < (g.M.Moves.means c.args.machine.now).size) c.args.store.now.entries c.get.result.now c.requires.good.known.within (c.args.at, c.get.ensures)

pub loop-exit-init : goal.loop-exit-init
loop-exit-init g c = record {
  good = c.requires.good;
  later = same_later c.args.store.now.entries c.args.found.now.items;
  done = visit_start (g.M.Moves.means c.args.machine.now) c.args.store.now.entries c.args.found.now.items c.args.at;
}

pub take-requires-clause-at : goal.take-requires-clause-at
take-requires-clause-at g c = at_later c.args.store.now.entries c.loop-exit.store.entries c.loop-exit.invariant.later.more c.args.at c.loop-exit.invariant.later.is c.requires.at

pub take-requires-clause-exit : goal.take-requires-clause-exit
take-requires-clause-exit g c = λ e i.
    exit_of (g.M.Moves.means c.args.machine.now) c.args.store.now.entries c.loop-exit.store.entries c.loop-exit.invariant.later.more c.args.at c.loop-exit.exit-index _ c.get.result.now e
    c.loop-exit.invariant.later.is c.get.ensures
    (ap (λ (xs : List Exit). slice_get xs c.loop-exit.exit-index) (sym (c.as_slice-exit-items.ensures ∙ c.in-Ok.ensures.exits)) ∙ slice_get-get_or c.as_slice-exit-items.result.now c.loop-exit.exit-index _ c.loop-exit-test.true)
    i

pub take-requires-clause-inside : goal.take-requires-clause-inside
take-requires-clause-inside g c =
    exit_inside c.as_slice-exit-items.result.now c.in-Ok.exits c.loop-exit.exit-index c.loop-exit.store.size (g.M.Moves.means c.args.machine.now).size _
    c.as_slice-exit-items.ensures c.loop-exit-test.true c.in-Ok.ensures.within c.loop-exit.invariant.good.size

pub returns-then-is_some : goal.returns-then-is_some
returns-then-is_some g c =
    visit_full (g.M.Moves.means c.args.machine.now) (g.M.Moves.fits c.args.machine.now) c.args.store.now c.loop-exit.store c.take.new.store c.args.found.now.items c.loop-exit.found.items c.take.new.found.items c.args.at _ c.in-Ok-take.full
    c.in-Ok-take.ensures (sym c.is_some.ensures ∙ c.if-is_some.true)

pub loop-exit-preserved : goal.loop-exit-preserved
loop-exit-preserved g c =
    let r = visit_step (g.M.Moves.means c.args.machine.now) (g.M.Moves.fits c.args.machine.now) c.args.store.now c.loop-exit.store c.take.new.store c.args.found.now.items c.loop-exit.found.items c.take.new.found.items c.args.at c.loop-exit.exit-index _ c.in-Ok-take.full c.get.result.now
    c.loop-exit.invariant.later c.loop-exit.invariant.done c.get.ensures
    (ap (λ (xs : List Exit). slice_get xs c.loop-exit.exit-index) (sym (c.as_slice-exit-items.ensures ∙ c.in-Ok.ensures.exits)) ∙ slice_get-get_or c.as_slice-exit-items.result.now c.loop-exit.exit-index _ (omega arith))
    c.in-Ok-take.ensures (is_none c.in-Ok-take.full (sym c.is_some.ensures ∙ c.if-is_some.false)) in
    record { good = r.0; later = r.1; done = r.2 }

pub returns : goal.returns
returns g c = (
  c.loop-exit.invariant.good,
  c.loop-exit.invariant.later,
  visit_end (g.M.Moves.means c.args.machine.now) c.args.store.now.entries c.loop-exit.store.entries c.loop-exit.found.items c.args.at c.loop-exit.exit-index c.get.result.now c.loop-exit.invariant.done c.get.ensures
      (let n = ap length (c.as_slice-exit-items.ensures ∙ c.in-Ok.ensures.exits) in omega arith),
)
