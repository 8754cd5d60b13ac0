use Rattle.std.proofs.Common.{subst}
use Rattle.std.specs.Prelude.{IfOk}
use Rattle.kilim_program.specs.Program.{Program}
use Rattle.kilim_run.specs.Runs.{IsCourseOf, setting_of}
use Rattle.kilim_run.proofs.Wholes.{can_of}
use Rattle.kilim_run.proofs.going_on.run_until.Goals as goal

pub journal_until-ran-requires-clause-served : goal.journal_until-ran-requires-clause-served
journal_until-ran-requires-clause-served g c κs within =
    let e = c.in-Ok.ensures in
    can_of c.args.plain c.args.woven.program c.args.woven.counted c.args.main c.args.limits.now c.in-Ok.code e.0 e.1 e.2 c.requires

pub returns : goal.returns
returns g c = subst (λ (V : Program). IfOk c.journal_until-ran.result (λ es. IsCourseOf (setting_of V c.args.main c.args.limits.now) c.args.entries es.items)) c.in-Ok.ensures.0 c.journal_until-ran.ensures
