use Rattle.std.proofs.Common.{ap, ◌∙◌}
use Rattle.kilim_link_inherited.specs.declared.nearest.Nearest.{Nearest}
use Rattle.kilim_link_inherited.specs.Known.{Tells}
use Rattle.kilim_link_override_faults.specs.Heritage.{Finds, says_left, left_by_class}
use Rattle.kilim_link_override_faults.proofs.Telling.{ok_then, left_fits, finds_left}
use Rattle.kilim_link_override_faults.proofs.heritage.left_of.Goals as goal

pub new-requires : goal.new-requires
new-requires c =
    left_fits c.as_slice.result.now c.superclasses.result.now c.args.world.now.classes (c.as_slice.ensures ∙ (c.in_ok-said.ensures ∙ ap left_by_class c.classes.ensures)) c.superclasses.ensures.counted

pub returns : goal.returns
returns c =
    let w = c.args.world.now in
    let ups = c.superclasses.result.now in
    let said = c.as_slice.result.now in
    let are = c.superclasses.ensures.are in
    ok_then (λ (it : Nearest). Tells it ups said) (λ (it : Nearest). Finds w it (says_left w)) c.new.result
    (λ it tells. finds_left w it ups said are.up_is are.line_is tells (c.as_slice.ensures ∙ (c.in_ok-said.ensures ∙ ap left_by_class c.classes.ensures))) c.new.ensures
