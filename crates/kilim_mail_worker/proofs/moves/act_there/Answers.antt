use Rattle.std.proofs.Common.{arith, refl}
use Rattle.kilim_mail_ledger.specs.Ledger.{items_of}
use Rattle.kilim_mail_notes.specs.Histories.{trace_of}
use Rattle.kilim_mail_notes.specs.Notes.{Accounts}
use Rattle.kilim_run_turn.specs.Turns.{shows}
use Rattle.kilim_mail_group.specs.declared.boxes.Came.{Came}
use Rattle.kilim_mail_group.specs.Group.{group_cells, came_items}
use Rattle.kilim_mail_group.proofs.Serving.{if_ok_map}
use Rattle.kilim_mail_worker.specs.Turns.{table_of}
use Rattle.kilim_mail_worker.proofs.Handing.{group_at, group_below, group_pass, mine_at, keeps_at, acts_at}
use Rattle.kilim_mail_worker.proofs.moves.act_there.Goals as goal

pub index-requires : goal.index-requires
index-requires g c = omega (arith, c.group_place-at.ensures.there, c.args.turns.now.groups.ok.0)

pub index_mut-requires : goal.index_mut-requires
index_mut-requires g c = let below = group_below c.args.turns.now c.args.worker.now c.requires.has c.group_place-at.result c.group_place-at.ensures.there in omega (arith, below, c.args.worker.now.passes.ok.0)

pub act_under-requires-clause-pass : goal.act_under-requires-clause-pass
act_under-requires-clause-pass g c κs _ = group_pass c.args.turns.now c.args.worker.now c.requires.has c.group_place-at.result c.group_place-at.ensures.there c.index.result.now c.index_mut.result.now c.index.ensures c.index_mut.ensures.value

pub act_under-requires-clause-mine : goal.act_under-requires-clause-mine
act_under-requires-clause-mine g c κs _ = mine_at c.args.turns.now g.K.Run.of c.args.worker.now (items_of (trace_of c.args.body.history)) c.group_place-at.result c.args.name c.index_mut.result.now c.requires.works c.group_place-at.ensures.there c.group_place-at.ensures.is c.index_mut.ensures.value

pub returns-clause-passes : goal.returns-clause-passes
returns-clause-passes g c = keeps_at c.args.turns.now c.args.worker.now _ c.group_place-at.result c.index_mut.result.now c.act_under.new.pass (group_below c.args.turns.now c.args.worker.now c.requires.has c.group_place-at.result c.group_place-at.ensures.there) c.index_mut.ensures.value refl (table_of group_cells c.index.result.now) (group_at c.args.turns.now c.group_place-at.result c.index.result.now c.group_place-at.ensures.there c.index.ensures) c.act_under.ensures.pass c.act_under.ensures.seat

pub returns-clause-works : goal.returns-clause-works
returns-clause-works g c =
    if_ok_map c.act_under.result (λ (x : Came _). Accounts (shows c.index_mut.result.now) (shows c.act_under.new.pass) (items_of (trace_of c.args.body.history)) (came_items x)) _
    (λ x a. acts_at c.args.turns.now c.args.worker.now _ c.group_place-at.result c.index_mut.result.now c.act_under.new.pass (group_below c.args.turns.now c.args.worker.now c.requires.has c.group_place-at.result c.group_place-at.ensures.there) c.index_mut.ensures.value refl g.K.Run.of refl (items_of (trace_of c.args.body.history)) (came_items x) a c.requires.works) c.act_under.ensures.accounts
