use Rattle.std.proofs.Common.{arith, refl}
use Rattle.kilim_mail_ready.specs.Ready.{ready_cells}
use Rattle.kilim_mail_worker.specs.Turns.{table_of}
use Rattle.kilim_mail_worker.proofs.Handing.{ready_at, ready_below, ready_pass, keeps_at, lends_at}
use Rattle.kilim_mail_worker.proofs.worker.lend.Goals as goal

pub index_mut-requires : goal.index_mut-requires
index_mut-requires g c = let below = ready_below c.args.turns.now c.args.worker.now c.requires.has c.ready_place-at.result c.ready_place-at.ensures in omega (arith, below, c.args.worker.now.passes.ok.0)

pub lend_under-requires : goal.lend_under-requires
lend_under-requires g c = record { pass = ready_pass c.args.turns.now c.args.worker.now c.requires.has c.ready_place-at.result c.ready_place-at.ensures c.index_mut.result.now c.index_mut.ensures.value }

pub returns-clause-passes : goal.returns-clause-passes
returns-clause-passes g c = keeps_at c.args.turns.now c.args.worker.now _ c.ready_place-at.result c.index_mut.result.now c.lend_under.new.pass (ready_below c.args.turns.now c.args.worker.now c.requires.has c.ready_place-at.result c.ready_place-at.ensures) c.index_mut.ensures.value refl (table_of ready_cells c.args.turns.now.ready) (ready_at c.args.turns.now c.ready_place-at.result c.ready_place-at.ensures) c.lend_under.ensures.pass c.lend_under.ensures.seat

pub returns-clause-works : goal.returns-clause-works
returns-clause-works g c = lends_at c.args.turns.now c.args.worker.now _ c.ready_place-at.result c.index_mut.result.now c.lend_under.new.pass (ready_below c.args.turns.now c.args.worker.now c.requires.has c.ready_place-at.result c.ready_place-at.ensures) c.index_mut.ensures.value refl g.K.Run.of refl c.lend_under.result c.lend_under.ensures.accounts c.requires.works
