use Rattle.std.proofs.Common.{ℕ, List, ap, ◌∙◌}
use Rattle.kilim_link_spec.specs.Qualified.{names_one}
use Rattle.kilim_link_world.specs.types.Params.{types_at}
use Rattle.kilim_link_world.proofs.types.Any.{found_at, passed_at, none_passes}
use Rattle.kilim_link_world.proofs.types.ByPlace.{any_flat}
use Rattle.kilim_link_world.proofs.types.marks.one_names.Goals as goal

pub loop-attribute-init : goal.loop-attribute-init
loop-attribute-init c = any_flat c.args.at c.args.text.now c.args.attributes.now

pub returns-then-names_one : goal.returns-then-names_one
returns-then-names_one c =
    let text = c.args.text.now in
    found_at (λ (lists : List (List (List ℕ))). names_one (types_at c.args.at lists) text) c.args.attributes.now c.loop-attribute.attribute-index c.attribute-item.result c.names_one.result c.loop-attribute-test.true c.attribute-item.is
    (c.names_one.ensures ∙ ap (λ (types : List (List ℕ)). names_one types text) c.types_at.ensures) c.loop-attribute.invariant c.if-names_one.true

pub loop-attribute-preserved : goal.loop-attribute-preserved
loop-attribute-preserved c =
    let text = c.args.text.now in
    passed_at (λ (lists : List (List (List ℕ))). names_one (types_at c.args.at lists) text) c.args.attributes.now c.loop-attribute.attribute-index c.attribute-item.result c.names_one.result c.loop-attribute-test.true c.attribute-item.is
    (c.names_one.ensures ∙ ap (λ (types : List (List ℕ)). names_one types text) c.types_at.ensures) c.loop-attribute.invariant c.if-names_one.false

pub returns : goal.returns
returns c = none_passes (λ (lists : List (List (List ℕ))). names_one (types_at c.args.at lists) c.args.text.now) c.args.attributes.now c.loop-attribute.attribute-index c.loop-attribute-test.false c.loop-attribute.invariant
