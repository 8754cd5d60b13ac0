use Rattle.kilim_fiber.specs.named.Named.{ServesNamed}
use Rattle.kilim_run.specs.Runs.{setting_of}
use Rattle.kilim_run.proofs.Wholes.{is_of, is_resumed}
use Rattle.kilim_run_workers.specs.one_worker.Pool.{IsOf}
use Rattle.kilim_run.proofs.going_on.resumed_by.Goals as goal

pub named_resumed_with-ran-requires-clause-some : goal.named_resumed_with-ran-requires-clause-some
named_resumed_with-ran-requires-clause-some g c κs within = (setting_of c.args.code.now.plain c.args.main c.args.limits.now, is_of c.args.main c.args.limits.now c.args.code.now c.requires.served)

pub returns : goal.returns
returns g c =
    let set = setting_of c.args.code.now.plain c.args.main c.args.limits.now in
    let of = is_of c.args.main c.args.limits.now c.args.code.now c.requires.served in
    is_resumed c.moved_is_whole.ensures c.runs_are_readable.ensures (IsOf (ServesNamed c.args.code.now.program c.args.code.now.counted) c.args.code.now c.args.main c.args.limits.now) set of c.args.code.now.program c.args.code.now.counted c.requires.served c.args.journal.now c.in-Ok.resumed (c.in-Ok.ensures) c.with_fits.ensures
