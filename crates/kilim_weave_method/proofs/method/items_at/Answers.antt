use Rattle.kilim_weave_method.proofs.method.items_at.Goals as goal

pub woven_items-requires : goal.woven_items-requires
woven_items-requires c = record {
  ready = record { rising = c.requires.rising; listed = c.requires.listed };
  arguments = c.requires.slots.arguments;
}

pub returns : goal.returns
returns c = c.woven_items.ensures
