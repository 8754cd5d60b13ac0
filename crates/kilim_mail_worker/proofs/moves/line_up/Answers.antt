use Rattle.std.proofs.Common.{arith, refl}
use Rattle.std.proofs.lemmas.Result.{on_ok_weaker}
use Rattle.kilim_mail_ledger.specs.Ledger.{items_of}
use Rattle.kilim_mail_notes.specs.Histories.{trace_of}
use Rattle.kilim_mail_ready.specs.Ready.{ready_cells}
use Rattle.kilim_mail_worker.specs.Turns.{table_of}
use Rattle.kilim_mail_worker.proofs.Handing.{ready_at, ready_below, ready_pass, keeps_at, gives_at}
use Rattle.kilim_mail_worker.proofs.moves.line_up.Goals as goal

pub index_mut-requires : goal.index_mut-requires
index_mut-requires g c = let below = ready_below c.args.turns.now c.args.worker.now c.requires.has c.ready_place-at.result c.ready_place-at.ensures in omega (arith, below, c.args.worker.now.passes.ok.0)

pub line_up_under-requires-clause-pass : goal.line_up_under-requires-clause-pass
line_up_under-requires-clause-pass g c = ready_pass c.args.turns.now c.args.worker.now c.requires.has c.ready_place-at.result c.ready_place-at.ensures c.index_mut.result.now c.index_mut.ensures.value

pub returns-clause-passes : goal.returns-clause-passes
returns-clause-passes g c = keeps_at c.args.turns.now c.args.worker.now _ c.ready_place-at.result c.index_mut.result.now c.line_up_under.new.pass (ready_below c.args.turns.now c.args.worker.now c.requires.has c.ready_place-at.result c.ready_place-at.ensures) c.index_mut.ensures.value refl (table_of ready_cells c.args.turns.now.ready) (ready_at c.args.turns.now c.ready_place-at.result c.ready_place-at.ensures) c.line_up_under.ensures.pass c.line_up_under.ensures.seat

pub returns-clause-gives : goal.returns-clause-gives
returns-clause-gives g c = on_ok_weaker c.line_up_under.result (λ a. gives_at c.args.turns.now c.args.worker.now _ c.ready_place-at.result c.index_mut.result.now c.line_up_under.new.pass (ready_below c.args.turns.now c.args.worker.now c.requires.has c.ready_place-at.result c.ready_place-at.ensures) c.index_mut.ensures.value refl g.K.Run.of refl (items_of (trace_of c.args.body.history)) a) c.line_up_under.ensures.accounts
