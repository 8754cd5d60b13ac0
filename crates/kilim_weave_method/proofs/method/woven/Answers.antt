use Rattle.kilim_type_flow.specs.Table.{live_in}
use Rattle.kilim_weave_method.proofs.Outcomes.{so_of_both}
use Rattle.kilim_weave_method.proofs.Weaving.{woven_is}
use Rattle.kilim_weave_method.proofs.method.woven.Goals as goal

pub laid_out-requires : goal.laid_out-requires
laid_out-requires c = record { slots = c.in-Ok.ensures; rising = c.requires.rising; listed = c.requires.listed }

pub returns : goal.returns
returns c =
    so_of_both c.with_code.result
    (λ pair method counted. woven_is c.args.program.now c.args.method.now (live_in c.args.live.now) c.in-Ok.slots c.in-Ok-laid_out.laid pair c.in-Ok.ensures c.in-Ok-laid_out.ensures method counted)
    c.with_code.ensures.method c.with_code.ensures.counted
