use Rattle.std.proofs.Common.{arith}
use Rattle.kilim_replay_thread.proofs.Steps.{goes_named, made_named}
use Rattle.kilim_replay_thread.proofs.runs.do_one.Goals as goal

pub returns-in-Next-clause-does : goal.returns-in-Next-clause-does
returns-in-Next-clause-does c =
    let found = rw c.as_slice.ensures at c.fetch-found.ensures in
    goes_named c.args.program.now c.args.own.now c.fetch-found.result.0.now c.fetch-found.result.1 c.args.frames.now c.args.heap.now c.act-moved.new.heap c.act-moved.new.frame c.requires.own found c.act-moved.ensures.same.method c.fetch-found.result.1 c.args.next.now
    (rw c.in-Next.is at c.act-moved.ensures.step)

pub returns-else-name-clause-does : goal.returns-else-name-clause-does
returns-else-name-clause-does c =
    let found = rw c.as_slice.ensures at c.fetch-found.ensures in
    made_named c.args.program.now c.args.own.now c.fetch-found.result.0.now c.fetch-found.result.1 c.args.frames.now c.args.heap.now c.act-moved.new.heap c.act-moved.new.frame c.requires.own found c.act-moved.ensures.same.method c.args.next.now c.in-Made.name
    (grind (arith, c.if-name-next.false)) (rw c.in-Made.is at c.act-moved.ensures.step)

pub returns-in-Jump-clause-does : goal.returns-in-Jump-clause-does
returns-in-Jump-clause-does c =
    let found = rw c.as_slice.ensures at c.fetch-found.ensures in
    goes_named c.args.program.now c.args.own.now c.fetch-found.result.0.now c.fetch-found.result.1 c.args.frames.now c.args.heap.now c.act-moved.new.heap c.act-moved.new.frame c.requires.own found c.act-moved.ensures.same.method c.in-Jump.to c.args.next.now
    (rw c.in-Jump.is at c.act-moved.ensures.step)
