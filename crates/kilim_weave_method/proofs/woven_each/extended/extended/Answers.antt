use Rattle.std.proofs.Common.{◌∙◌, ap, length}
use Rattle.kilim_program.specs.Program.{Program}
use Rattle.kilim_weave_method.proofs.woven_each.Extending.{extended_is}
use Rattle.kilim_weave_method.proofs.woven_each.extended.extended.Goals as goal

pub returns : goal.returns
returns c =
    extended_is c.args.program.now c.args.method.now c.in-Ok-head_with.head c.in-Ok-with_head.woven c.in-Ok.class c.in-Ok-locals_of.locals (c.in-Ok.ensures ∙ (c.len.ensures ∙ ap (λ (p : Program). length p.classes) c.program.view_is)) c.in-Ok-locals_of.ensures c.in-Ok-head_with.ensures c.in-Ok-with_head.ensures
