use Rattle.std.proofs.Common.{true, false}
use Rattle.kilim_weave_method.proofs.woven_each.OfKind.{kept_as_both}
use Rattle.kilim_weave_method.proofs.woven_each.each.without_calls.Goals as goal

pub returns : goal.returns
returns c =
    kept_as_both c.args.program.now c.args.method.now c.in-Ok-extended.more c.in-Ok.counted true false c.requires.pausable c.requires.calls (c.in-Ok-extended.ensures, c.in-Ok.ensures)
