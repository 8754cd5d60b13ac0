use Rattle.std.proofs.Common.{sym, subst}
use Rattle.kilim_fiber_steps.specs.records.natives.Tables.{AreNatives}
use Rattle.kilim_fiber_body.proofs.code.Code.natives.Goals as goal

pub returns : goal.returns
returns c = subst (AreNatives c.args.self.now.program) (sym c.as_slice.ensures.value) c.args.self.now.natives_are
