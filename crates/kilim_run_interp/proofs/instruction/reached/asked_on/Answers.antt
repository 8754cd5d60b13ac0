use Rattle.std.proofs.Common.{◌∙◌, sym}
use Rattle.kilim_run_interp.proofs.instruction.Reaching.{asked_some}
use Rattle.kilim_run_interp.proofs.instruction.reached.asked_on.Goals as goal

pub returns : goal.returns
returns c =
    asked_some c.args.program.now c.args.method c.args.name.now c.args.named.now c.in-Some.class c.asked_type.result (sym c.in-Ok.ensures ∙ c.in-Some.is) c.asked_type.ensures
