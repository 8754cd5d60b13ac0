use Rattle.std.proofs.Common.{arith, refl}
use Rattle.kilim_mail_ready.specs.Ready.{ready_cells}
use Rattle.kilim_mail_worker.specs.Turns.{table_of}
use Rattle.kilim_mail_worker.proofs.Handing.{ready_at, ready_below, ready_pass, keeps_at}
use Rattle.kilim_mail_worker.proofs.worker.give_up.Goals as goal

pub index_mut-requires : goal.index_mut-requires
index_mut-requires g c = let below = ready_below c.args.turns.now c.args.worker.now c.requires.has c.ready_place-at.result c.ready_place-at.ensures in omega (arith, below, c.args.worker.now.passes.ok.0)

pub stop_under-requires : goal.stop_under-requires
stop_under-requires g c = record { pass = ready_pass c.args.turns.now c.args.worker.now c.requires.has c.ready_place-at.result c.ready_place-at.ensures c.index_mut.result.now c.index_mut.ensures.value }

pub returns-clause-passes : goal.returns-clause-passes
returns-clause-passes g c = keeps_at c.args.turns.now c.args.worker.now _ c.ready_place-at.result c.index_mut.result.now c.stop_under.new.pass (ready_below c.args.turns.now c.args.worker.now c.requires.has c.ready_place-at.result c.ready_place-at.ensures) c.index_mut.ensures.value refl (table_of ready_cells c.args.turns.now.ready) (ready_at c.args.turns.now c.ready_place-at.result c.ready_place-at.ensures) c.stop_under.ensures.pass c.stop_under.ensures.seat
