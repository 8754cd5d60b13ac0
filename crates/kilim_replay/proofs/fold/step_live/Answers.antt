use Rattle.std.proofs.Common.{◌≡◌, ◌∙◌, Some, ap, refl, sym}
use Rattle.kilim_run_journal.specs.declared.entry.Act.{Act}
use Rattle.kilim_replay_thread.specs.Live.{lone_at}
use Rattle.kilim_replay_thread.specs.Reach.{setting_of}
use Rattle.kilim_replay.proofs.Stepping.{can_do, can_reach, did_act, next_at, views_here, waits}
use Rattle.kilim_replay.proofs.Differing.{is_so, not_so}
use Rattle.kilim_run_model.specs.Turn.{with_lone}
use Rattle.kilim_replay.proofs.fold.step_live.Goals as goal

pub reach-requires-clause-can : goal.reach-requires-clause-can
reach-requires-clause-can c =
    let some = c.requires.some in
    can_reach (setting_of c.args.program.now c.args.main c.args.limits.now) c.args.entry.now.task c.args.machine.now.world c.args.machine.now.tasks.items c.args.machine.now.mailboxes c.args.live some.0 some.1 some.2 c.requires.task

pub returns-then-has_to_wait-clause-stepped : goal.returns-then-has_to_wait-clause-stepped
returns-then-has_to_wait-clause-stepped c = λ s run views.
    let set = setting_of c.args.program.now c.args.main c.args.limits.now in
    let t = c.args.entry.now.task in
    let m = c.args.machine.now in
    waits set t m.world m.tasks.items m.mailboxes c.args.live s run views c.requires.task c.reach.new.world c.reach.new.live c.in-Ok.came
    (next_at set t m.world m.tasks.items m.mailboxes c.args.live s run views c.requires.task c.reach.new.world c.reach.new.live c.in-Ok.came c.in-Ok.ensures.reaches c.in-Ok.ensures.coming)
    c.in-Ok.ensures.kept (sym c.has_to_wait.ensures ∙ c.if-has_to_wait.true)

pub perform-requires-clause-can : goal.perform-requires-clause-can
perform-requires-clause-can c =
    let set = setting_of c.args.program.now c.args.main c.args.limits.now in
    can_do set c.args.entry.now.task (lone_at c.args.entry.now.task c.args.machine.now.world c.args.live) c.args.live.done c.reach.new.world c.reach.new.live c.in-Ok.came c.args.machine.now.mailboxes c.in-Ok.ensures.reaches c.in-Ok.ensures.coming
    (sym c.has_to_wait.ensures ∙ c.if-has_to_wait.false) c.steps_fit.ensures

pub returns-then-same_act-clause-stepped : goal.returns-then-same_act-clause-stepped
returns-then-same_act-clause-stepped c = λ s run views.
    let set = setting_of c.args.program.now c.args.main c.args.limits.now in
    let t = c.args.entry.now.task in
    let m = c.args.machine.now in
    let w' = c.reach.new.world in
    let l' = c.reach.new.live in
    let n = next_at set t m.world m.tasks.items m.mailboxes c.args.live s run views c.requires.task w' l' c.in-Ok.came c.in-Ok.ensures.reaches c.in-Ok.ensures.coming in
    let here = views_here set t m.world m.tasks.items m.mailboxes c.args.live s run views c.requires.task w' l' c.in-Ok.came n c.in-Ok.ensures.kept in
    let done = c.in-Ok-perform.ensures.done set (with_lone s t (lone_at t w' l')) n.next refl here n.is in
    let did = did_act set t m.world m.tasks.items m.mailboxes c.args.live s run views c.requires.task w' l' c.in-Ok.came n c.in-Ok.ensures.kept c.perform.new.machine c.in-Ok-perform.act done in
    let same : c.in-Ok-perform.act ≡ c.args.entry.now.act = is_so c.same_act.result _ c.same_act.ensures c.if-same_act.true in
    record { moves = did.moves; after = did.after; acts = did.acts ∙ ap (λ (a : Act). Some (a, did.after)) same; at = did.at }

pub returns-else-same_act-clause-stepped : goal.returns-else-same_act-clause-stepped
returns-else-same_act-clause-stepped c = λ s run views.
    let set = setting_of c.args.program.now c.args.main c.args.limits.now in
    let t = c.args.entry.now.task in
    let m = c.args.machine.now in
    let w' = c.reach.new.world in
    let l' = c.reach.new.live in
    let n = next_at set t m.world m.tasks.items m.mailboxes c.args.live s run views c.requires.task w' l' c.in-Ok.came c.in-Ok.ensures.reaches c.in-Ok.ensures.coming in
    let here = views_here set t m.world m.tasks.items m.mailboxes c.args.live s run views c.requires.task w' l' c.in-Ok.came n c.in-Ok.ensures.kept in
    let done = c.in-Ok-perform.ensures.done set (with_lone s t (lone_at t w' l')) n.next refl here n.is in
    let did = did_act set t m.world m.tasks.items m.mailboxes c.args.live s run views c.requires.task w' l' c.in-Ok.came n c.in-Ok.ensures.kept c.perform.new.machine c.in-Ok-perform.act done in
    (not_so c.same_act.result _ c.same_act.ensures c.if-same_act.false, did.readable, (did.moves, did.after, did.acts))
