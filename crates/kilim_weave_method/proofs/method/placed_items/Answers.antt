use Rattle.kilim_type_flow.specs.Table.{live_in}
use Rattle.kilim_weave_laws.specs.woven_program.Made.{method_plan}
use Rattle.kilim_weave_method.proofs.Parts.{items_by}
use Rattle.kilim_weave_method.proofs.method.placed_items.Goals as goal

pub found_places-requires : goal.found_places-requires
found_places-requires c = record { slots = c.requires.slots; flags = c.requires.flags; rising = c.requires.rising; listed = c.requires.listed }

pub items_at-items-requires : goal.items_at-items-requires
items_at-items-requires c = record { slots = c.requires.slots; flags = c.requires.flags; rising = c.requires.rising; listed = c.requires.listed }

pub returns : goal.returns
returns c = items_by c.items_at-items.result _ (method_plan c.args.program.now c.args.method.now (live_in c.args.live.now)) c.in-Ok.ensures c.items_at-items.ensures
