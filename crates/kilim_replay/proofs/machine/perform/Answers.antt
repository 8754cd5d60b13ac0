use Rattle.std.proofs.Common.{subst, sym, arith, ◌∙◌}
use Rattle.kilim_run_state.specs.declared.cause.EndCause.TheVariants as cause
use Rattle.kilim_program.specs.Program.{Program}
use Rattle.kilim_replay_thread.specs.Comes.{HasRoomFor}
use Rattle.kilim_replay.specs.Machine.{CanDo, HasStarted, IsNextOf}
use Rattle.kilim_replay_thread.specs.declared.task.Came.{Came}
use Rattle.kilim_replay.proofs.Doing.{did_bound, did_end, did_get, did_print, did_probe, did_put, did_put_full, did_put_wait, did_start, did_start_none}
use Rattle.kilim_replay.proofs.Folding.{over_ok}
use Rattle.kilim_replay.proofs.machine.perform.Goals as goal

pub put-requires-clause-frames : goal.put-requires-clause-frames
put-requires-clause-frames c = subst (HasRoomFor c.args.program.now c.args.machine.now.world c.args.live) c.in-Puts.is c.requires.room

pub put-requires-clause-counts : goal.put-requires-clause-counts
put-requires-clause-counts c = subst (CanDo c.args.machine.now.mailboxes c.args.live.done) c.in-Puts.is c.requires.can

pub returns-then-is_full-clause-done : goal.returns-then-is_full-clause-done
returns-then-is_full-clause-done c = λ set s n is views next.
    did_put_full set c.args.task c.args.machine.now c.args.live s views c.end.new.machine c.end.result c.in-Puts.name c.in-Puts.root c.in-Puts.shape n
    (subst (λ (x : Came). IsNextOf c.args.task c.args.machine.now.world c.args.live x n) c.in-Puts.is next) (sym c.is_full.ensures ∙ c.if-is_full.true) c.end.ensures

pub returns-else-is_full-clause-done : goal.returns-else-is_full-clause-done
returns-else-is_full-clause-done c = λ set s n is views next.
    over_ok _ _ c.put.result c.put.ensures.put (λ act put.
    did_put set c.args.task c.args.machine.now c.args.live s views c.put.new.machine act c.in-Puts.name c.in-Puts.root c.in-Puts.shape n (subst (λ (x : Came). IsNextOf c.args.task c.args.machine.now.world c.args.live x n) c.in-Puts.is next)
    (sym c.is_full.ensures ∙ c.if-is_full.false) put)

pub put-requires-in-PutsWaiting-clause-frames : goal.put-requires-in-PutsWaiting-clause-frames
put-requires-in-PutsWaiting-clause-frames c = subst (HasRoomFor c.args.program.now c.args.machine.now.world c.args.live) c.in-PutsWaiting.is c.requires.room

pub put-requires-in-PutsWaiting-clause-counts : goal.put-requires-in-PutsWaiting-clause-counts
put-requires-in-PutsWaiting-clause-counts c = (subst (CanDo c.args.machine.now.mailboxes c.args.live.done) c.in-PutsWaiting.is c.requires.can).1

pub returns-in-PutsWaiting-clause-done : goal.returns-in-PutsWaiting-clause-done
returns-in-PutsWaiting-clause-done c = λ set s n is views next.
    over_ok _ _ c.put-in-PutsWaiting.result c.put-in-PutsWaiting.ensures.put (λ act put.
    did_put_wait set c.args.task c.args.machine.now c.args.live s views c.put-in-PutsWaiting.new.machine act c.in-PutsWaiting.name c.in-PutsWaiting.root c.in-PutsWaiting.shape n
    (subst (λ (x : Came). IsNextOf c.args.task c.args.machine.now.world c.args.live x n) c.in-PutsWaiting.is next) (subst (CanDo c.args.machine.now.mailboxes c.args.live.done) c.in-PutsWaiting.is c.requires.can).0 put)

pub returns-in-TooLarge-clause-done : goal.returns-in-TooLarge-clause-done
returns-in-TooLarge-clause-done c = λ set s n is views next.
    did_end set c.args.task c.args.machine.now c.args.live s views c.end-in-TooLarge.new.machine c.end-in-TooLarge.result cause.Large n (subst (λ (x : Came). IsNextOf c.args.task c.args.machine.now.world c.args.live x n) c.in-TooLarge.is next) c.end-in-TooLarge.ensures

pub bound-requires-clause-frames : goal.bound-requires-clause-frames
bound-requires-clause-frames c = subst (HasRoomFor c.args.program.now c.args.machine.now.world c.args.live) c.in-Bounds.is c.requires.room

pub bound-requires-clause-counts : goal.bound-requires-clause-counts
bound-requires-clause-counts c = subst (CanDo c.args.machine.now.mailboxes c.args.live.done) c.in-Bounds.is c.requires.can

pub returns-in-Bounds-clause-done : goal.returns-in-Bounds-clause-done
returns-in-Bounds-clause-done c = λ set s n is views next.
    over_ok _ _ c.bound.result c.bound.ensures.bounded (λ act bounded.
    did_bound set c.args.task c.args.machine.now c.args.live s views c.bound.new.machine act c.in-Bounds.name c.in-Bounds.most n (subst (λ (x : Came). IsNextOf c.args.task c.args.machine.now.world c.args.live x n) c.in-Bounds.is next) bounded)

pub receive-requires-clause-some : goal.receive-requires-clause-some
receive-requires-clause-some c = (subst (CanDo c.args.machine.now.mailboxes c.args.live.done) c.in-Takes.is c.requires.can).0

pub receive-requires-clause-room : goal.receive-requires-clause-room
receive-requires-clause-room c = subst (HasRoomFor c.args.program.now c.args.machine.now.world c.args.live) c.in-Takes.is c.requires.room

pub receive-requires-clause-counts : goal.receive-requires-clause-counts
receive-requires-clause-counts c = (subst (CanDo c.args.machine.now.mailboxes c.args.live.done) c.in-Takes.is c.requires.can).1

pub returns-in-Takes-clause-done : goal.returns-in-Takes-clause-done
returns-in-Takes-clause-done c = λ set s n is views next.
    did_get set c.args.task c.args.machine.now c.args.live s views c.receive.new.machine c.receive.result c.in-Takes.name n (subst (λ (x : Came). IsNextOf c.args.task c.args.machine.now.world c.args.live x n) c.in-Takes.is next) c.receive.ensures.taken

pub probe-requires-clause-room : goal.probe-requires-clause-room
probe-requires-clause-room c = subst (HasRoomFor c.args.program.now c.args.machine.now.world c.args.live) c.in-Probes.is c.requires.room

pub probe-requires-clause-counts : goal.probe-requires-clause-counts
probe-requires-clause-counts c = subst (CanDo c.args.machine.now.mailboxes c.args.live.done) c.in-Probes.is c.requires.can

pub returns-in-Probes-clause-done : goal.returns-in-Probes-clause-done
returns-in-Probes-clause-done c = λ set s n is views next.
    did_probe set c.args.task c.args.machine.now c.args.live s views c.probe.new.machine c.probe.result c.in-Probes.name n (subst (λ (x : Came). IsNextOf c.args.task c.args.machine.now.world c.args.live x n) c.in-Probes.is next) c.probe.ensures.probed

pub print-requires-clause-frames : goal.print-requires-clause-frames
print-requires-clause-frames c = subst (HasRoomFor c.args.program.now c.args.machine.now.world c.args.live) c.in-Prints.is c.requires.room

pub print-requires-clause-counts : goal.print-requires-clause-counts
print-requires-clause-counts c = subst (CanDo c.args.machine.now.mailboxes c.args.live.done) c.in-Prints.is c.requires.can

pub returns-in-Prints-clause-done : goal.returns-in-Prints-clause-done
returns-in-Prints-clause-done c = λ set s n is views next.
    let told = subst (λ (x : Came). IsNextOf c.args.task c.args.machine.now.world c.args.live x n) c.in-Prints.is next in
    did_print set c.args.task c.args.machine.now c.args.live s views c.print.new.machine c.print.result told.0 c.in-Prints.shape n told.1 told.2 c.print.ensures.printed

pub returns-in-Ends-clause-done : goal.returns-in-Ends-clause-done
returns-in-Ends-clause-done c = λ set s n is views next.
    did_end set c.args.task c.args.machine.now c.args.live s views c.end-in-Ends.new.machine c.end-in-Ends.result c.in-Ends.cause n (subst (λ (x : Came). IsNextOf c.args.task c.args.machine.now.world c.args.live x n) c.in-Ends.is next) c.end-in-Ends.ensures

pub unreachable-requires : goal.unreachable-requires
unreachable-requires c = subst (CanDo c.args.machine.now.mailboxes c.args.live.done) c.in-On.is c.requires.can

pub returns-then-len-lt-MOST_TASKS-clause-done : goal.returns-then-len-lt-MOST_TASKS-clause-done
returns-then-len-lt-MOST_TASKS-clause-done c = λ set s n is views next.
    over_ok _ _ c.start_one.result c.start_one.ensures.started (λ act started.
    did_start set c.args.task c.args.machine.now c.args.live s views c.start_one.new.machine act c.in-Starts.root c.in-Starts.shape n (subst (λ (x : Came). IsNextOf c.args.task c.args.machine.now.world c.args.live x n) c.in-Starts.is next) (omega arith)
    (subst (λ (p : Program). HasStarted p c.args.task c.in-Starts.root c.in-Starts.shape c.args.live c.args.machine.now c.start_one.new.machine act) (sym is) started))

pub returns-else-len-lt-MOST_TASKS-clause-done : goal.returns-else-len-lt-MOST_TASKS-clause-done
returns-else-len-lt-MOST_TASKS-clause-done c = λ set s n is views next.
    did_start_none set c.args.task c.args.machine.now c.args.live s views c.end-else-len-lt-MOST_TASKS.new.machine c.end-else-len-lt-MOST_TASKS.result c.in-Starts.root c.in-Starts.shape n
    (subst (λ (x : Came). IsNextOf c.args.task c.args.machine.now.world c.args.live x n) c.in-Starts.is next) (omega arith) c.end-else-len-lt-MOST_TASKS.ensures
