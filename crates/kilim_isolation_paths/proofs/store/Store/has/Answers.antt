use Rattle.std.proofs.Common.{◌≡◌, ◌∙◌, ap, sym, Some, refl, false}
use Rattle.std.proofs.lemmas.Bool.{both_ways}
use Rattle.kilim_isolation_paths.proofs.Rows.{row_reads, row_within, row_get, row_step, row_none}
use Rattle.kilim_isolation_paths.proofs.store.Store.has.Goals as goal

pub get-requires : goal.get-requires
get-requires g c = row_within c.args.place c.args.self.now.entries c.loop-k.k-index _ (row_reads c.args.place c.args.self.now.entries c.row-k-items.result.now c.loop-k.k-index c.row-k-items.ensures c.loop-k-test.true)

pub returns-then-same : goal.returns-then-same
returns-then-same g c =
    let same : c.get.result.now.state ≡ c.args.state.now = c.in-Ok.ensures.0 c.if-same.true in
    (λ _. (c.loop-k.k-index, row_get c.args.place c.args.self.now.entries c.loop-k.k-index _ c.get.result.now (row_reads c.args.place c.args.self.now.entries c.row-k-items.result.now c.loop-k.k-index c.row-k-items.ensures c.loop-k-test.true) c.get.ensures ∙ ap Some same), λ _. refl)

pub loop-k-preserved : goal.loop-k-preserved
loop-k-preserved g c =
    row_step c.args.place c.args.self.now.entries c.loop-k.k-index c.args.state.now c.get.result.now c.loop-k.invariant
    (row_get c.args.place c.args.self.now.entries c.loop-k.k-index _ c.get.result.now (row_reads c.args.place c.args.self.now.entries c.row-k-items.result.now c.loop-k.k-index c.row-k-items.ensures c.loop-k-test.true) c.get.ensures)
    (λ same. both_ways c.in-Ok.same c.if-same.false (c.in-Ok.ensures.1 same))

pub returns : goal.returns
returns g c = (λ f. absurd (both_ways false refl f), λ h. absurd (row_none c.args.place c.args.self.now.entries c.row-k-items.result.now c.loop-k.k-index c.args.state.now c.row-k-items.ensures c.loop-k-test.false c.loop-k.invariant h))
