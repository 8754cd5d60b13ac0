use Rattle.std.proofs.Common.{◌∙◌}
use Rattle.kilim_weave_pieces.specs.Meant.{meant}
use Rattle.kilim_weave_pieces.specs.Items.{items_of}
use Rattle.kilim_weave_code.proofs.Putting.{on_ok, switch_is}
use Rattle.kilim_weave_code.proofs.whole.add_switch.Goals as goal

pub returns : goal.returns
returns c =
    on_ok c.put.result
    (switch_is (meant c.args.plan.now) c.in-Ok.default c.in-Ok-try_from.count c.in-Ok-resume_places.targets (items_of c.args.items.now) (items_of c.put.new.self) c.in-Ok.ensures c.in-Ok-resume_places.ensures (c.in-Ok-try_from.ensures.1 ∙ c.len.ensures))
    c.put.ensures
