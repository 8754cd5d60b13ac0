use Rattle.std.proofs.Common.{subst}
use Rattle.std.specs.Prelude.{IfOk}
use Rattle.kilim_program.specs.Program.{Program}
use Rattle.kilim_run.specs.Runs.{IsResumed, setting_of}
use Rattle.kilim_run.proofs.Wholes.{can_of}
use Rattle.kilim_run.proofs.going_on.resume_alone.Goals as goal

pub resumed_alone-ran-requires-clause-served : goal.resumed_alone-ran-requires-clause-served
resumed_alone-ran-requires-clause-served g c κs within =
    let e = c.in-Ok.ensures in
    can_of c.args.plain c.args.woven.program c.args.woven.counted c.args.main c.args.limits.now c.in-Ok.code e.0 e.1 e.2 c.requires

pub returns : goal.returns
returns g c = subst (λ (V : Program). IfOk c.resumed_alone-ran.result (IsResumed (setting_of V c.args.main c.args.limits.now) c.args.journal.now)) c.in-Ok.ensures.0 c.resumed_alone-ran.ensures
