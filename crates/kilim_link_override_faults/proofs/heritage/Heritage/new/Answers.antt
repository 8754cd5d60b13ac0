use Rattle.std.proofs.Common.{ap, ◌∙◌}
use Rattle.kilim_link_override_faults.specs.Heritage.{all_numbered, all_places}
use Rattle.kilim_link_override_faults.proofs.Telling.{shared_fits, finds_shared}
use Rattle.kilim_link_override_faults.proofs.heritage.Heritage.new.Goals as goal

pub new-requires : goal.new-requires
new-requires c =
    shared_fits c.as_slice.result.now c.superclasses-ups.result.now c.args.world.now.classes (c.as_slice.ensures ∙ (c.in-Ok.ensures.said ∙ ap (all_numbered 0) c.classes.ensures)) c.superclasses-ups.ensures.counted

pub returns : goal.returns
returns c =
    let w = c.args.world.now in
    let ups = c.superclasses-ups.result.now in
    let are = c.superclasses-ups.ensures.are in
    record {
      shared = finds_shared w c.in-Ok-new.shared ups c.as_slice.result.now are.up_is are.line_is c.in-Ok-new.ensures c.all_shared_said.new.places (c.as_slice.ensures ∙ (c.in-Ok.ensures.said ∙ ap (all_numbered 0) c.classes.ensures)) (c.in-Ok.ensures.kept ∙ ap (all_places 0) c.classes.ensures);
      left = c.in-Ok-left_of.ensures;
    }
