use Rattle.std.proofs.Common.{List, subst}
use Rattle.kilim_type_flow.specs.Table.{live_in}
use Rattle.kilim_weave_spec.specs.Form.{plan_of}
use Rattle.kilim_weave_spec.specs.Woven as form
use Rattle.kilim_weave_pieces.specs.Places.{at_in, block_in}
use Rattle.kilim_weave_method.specs.Found.{AreFound}
use Rattle.kilim_weave_method.proofs.Outcomes.{so_of}
use Rattle.kilim_weave_method.proofs.Plans.{plan_found}
use Rattle.kilim_weave_method.proofs.method.found_places.Goals as goal

pub items_at-without-requires : goal.items_at-without-requires
items_at-without-requires c = record { slots = c.requires.slots; flags = c.requires.flags; rising = c.requires.rising; listed = c.requires.listed }

pub returns-in-Ok : goal.returns-in-Ok
returns-in-Ok c =
    let x = plan_of c.args.program.now c.args.method.now (live_in c.args.live.now) (λ place. 0) (λ number. 0) in
    so_of c.places_of.result
    (λ places found. plan_found c.places_dont_matter.ensures x (at_in c.nowhere-first.result) (block_in c.nowhere-first.result) places (subst (λ (is : List form.Item). AreFound is places) c.in-Ok.ensures found))
    c.places_of.ensures
