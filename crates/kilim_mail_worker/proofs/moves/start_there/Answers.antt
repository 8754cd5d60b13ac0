use Rattle.std.proofs.Common.{arith, refl, ◌++◌}
use Rattle.kilim_mail_ledger.specs.Ledger.{items_of}
use Rattle.kilim_mail_notes.specs.Histories.{trace_of}
use Rattle.kilim_mail_notes.specs.Notes.{Accounts}
use Rattle.kilim_run_turn.specs.Turns.{shows}
use Rattle.kilim_mail_register.specs.declared.register.Started.{Started}
use Rattle.kilim_mail_register.specs.Register.{register_cells, born_of}
use Rattle.kilim_mail_group.proofs.Serving.{if_ok_map}
use Rattle.kilim_mail_worker.specs.Turns.{table_of}
use Rattle.kilim_mail_worker.proofs.Handing.{register_at, register_below, register_pass, keeps_at, acts_at}
use Rattle.kilim_mail_worker.proofs.moves.start_there.Goals as goal

pub index_mut-requires : goal.index_mut-requires
index_mut-requires g c = let below = register_below c.args.turns.now c.args.worker.now c.requires.has c.register_place-at.result c.register_place-at.ensures in omega (arith, below, c.args.worker.now.passes.ok.0)

pub start_under-requires : goal.start_under-requires
start_under-requires g c = record { pass = register_pass c.args.turns.now c.args.worker.now c.requires.has c.register_place-at.result c.register_place-at.ensures c.index_mut.result.now c.index_mut.ensures.value }

pub returns-clause-passes : goal.returns-clause-passes
returns-clause-passes g c = keeps_at c.args.turns.now c.args.worker.now _ c.register_place-at.result c.index_mut.result.now c.start_under.new.pass (register_below c.args.turns.now c.args.worker.now c.requires.has c.register_place-at.result c.register_place-at.ensures) c.index_mut.ensures.value refl (table_of register_cells c.args.turns.now.register) (register_at c.args.turns.now c.register_place-at.result c.register_place-at.ensures) c.start_under.ensures.pass c.start_under.ensures.seat

pub returns-clause-works : goal.returns-clause-works
returns-clause-works g c =
    if_ok_map c.start_under.result (λ (x : Started). Accounts (shows c.index_mut.result.now) (shows c.start_under.new.pass) (items_of (trace_of c.args.history.now)) (items_of (trace_of c.start_under.new.history) ++ born_of x)) _
    (λ x a. acts_at c.args.turns.now c.args.worker.now _ c.register_place-at.result c.index_mut.result.now c.start_under.new.pass (register_below c.args.turns.now c.args.worker.now c.requires.has c.register_place-at.result c.register_place-at.ensures) c.index_mut.ensures.value refl g.K.Run.of refl (items_of (trace_of c.args.history.now)) (items_of (trace_of c.start_under.new.history) ++ born_of x) a c.requires.works) c.start_under.ensures.accounts
