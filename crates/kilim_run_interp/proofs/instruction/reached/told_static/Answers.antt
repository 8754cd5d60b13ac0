use Rattle.std.proofs.Common.{refl, sym}
use Rattle.kilim_run_interp.proofs.instruction.Reaching.{asked_static, called_static}
use Rattle.kilim_run_interp.proofs.instruction.reached.told_static.Goals as goal

pub returns-in-Asked : goal.returns-in-Asked
returns-in-Asked c =
    let is = c.requires.table c.args.method.0 c.in-Some.reach.now (sym c.in-Some.ensures) in
    let e = asked_static c.args.program.now c.args.own.now c.args.method c.in-Some.reach.now c.args.next c.args.frame.now.locals c.args.frame.now.stack.values c.args.heap.now is c.in-Asked.is c.requires.fine in
    (e.0, e.1, record { frame = refl; heap = refl })

pub returns-in-Called : goal.returns-in-Called
returns-in-Called c =
    let is = c.requires.table c.args.method.0 c.in-Some.reach.now (sym c.in-Some.ensures) in
    let e = called_static c.args.program.now c.args.own.now c.args.method c.in-Some.reach.now c.args.next c.args.frame.now.locals c.args.frame.now.stack.values c.args.heap.now is c.in-Called.is c.requires.fine in
    (e.0, e.1, record { frame = refl; heap = refl })
