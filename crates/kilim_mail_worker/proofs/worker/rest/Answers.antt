use Rattle.std.proofs.Common.{arith, refl, ap, sym, subst, []}
use Rattle.kilim_run_turn.specs.declared.pass.Pass.{Pass}
use Rattle.kilim_run_turn.specs.Turns.{seat_of, shows, IsPassOf}
use Rattle.kilim_mail_ready.specs.Ready.{ready_cells}
use Rattle.kilim_mail_worker.specs.Turns.{table_of}
use Rattle.kilim_mail_worker.proofs.Handing.{ready_at, ready_below, ready_pass, keeps_at, works_same}
use Rattle.kilim_mail_worker.proofs.worker.rest.Goals as goal

pub index_mut-requires : goal.index_mut-requires
index_mut-requires g c = let below = ready_below c.args.turns.now c.args.worker.now c.requires.has c.ready_place-at.result c.ready_place-at.ensures in omega (arith, below, c.args.worker.now.passes.ok.0)

pub rest-requires : goal.rest-requires
rest-requires g c = ready_pass c.args.turns.now c.args.worker.now c.requires.has c.ready_place-at.result c.ready_place-at.ensures c.index_mut.result.now c.index_mut.ensures.value

pub returns-clause-passes : goal.returns-clause-passes
returns-clause-passes g c = keeps_at c.args.turns.now c.args.worker.now _ c.ready_place-at.result c.index_mut.result.now c.rest.new.pass (ready_below c.args.turns.now c.args.worker.now c.requires.has c.ready_place-at.result c.ready_place-at.ensures) c.index_mut.ensures.value refl (table_of ready_cells c.args.turns.now.ready) (ready_at c.args.turns.now c.ready_place-at.result c.ready_place-at.ensures) (subst (λ (p : Pass). IsPassOf ready_cells c.args.turns.now.ready p) (sym c.rest.ensures) (ready_pass c.args.turns.now c.args.worker.now c.requires.has c.ready_place-at.result c.ready_place-at.ensures c.index_mut.result.now c.index_mut.ensures.value)) (ap seat_of c.rest.ensures)

pub returns-clause-works : goal.returns-clause-works
returns-clause-works g c = λ works. works_same c.args.turns.now c.args.worker.now _ c.ready_place-at.result c.index_mut.result.now c.rest.new.pass (ready_below c.args.turns.now c.args.worker.now c.requires.has c.ready_place-at.result c.ready_place-at.ensures) c.index_mut.ensures.value refl g.K.Run.of refl [] (ap shows c.rest.ensures) works
