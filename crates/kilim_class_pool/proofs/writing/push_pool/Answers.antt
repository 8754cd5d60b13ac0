use Rattle.std.proofs.Common.{◌<◌, get_or, length, List, ap, subst, sym, ◌∙◌, ◌++◌, Option}
use Rattle.kilim_class_grammar.specs.Spelling.{u2}
use Rattle.kilim_class_pool.specs.declared.entry.Entry.{Entry}
use Rattle.kilim_class_pool.specs.Slots.{SlotFits}
use Rattle.kilim_class_pool.proofs.SlotLaws.{slots_fit, written}
use Rattle.kilim_class_pool.proofs.writing.push_pool.Goals as goal

pub push_slots-requires : goal.push_slots-requires
push_slots-requires c = λ k d.
    subst (λ (slots : List (Option Entry)). k < length slots → SlotFits (get_or slots k d)) (sym c.slots.ensures.slots) (slots_fit c.args.pool.now k d c.requires.fit)

pub returns : goal.returns
returns c = record {
  ok = written c.push_slots.result c.args.into.now.items c.push_u16.new.into.items c.push_slots.new.into.items c.args.pool.now c.slots.result.now c.slots.ensures.slots (c.in-Ok.ensures.ok ∙ ap (λ n. c.args.into.now.items ++ u2 n) c.count.ensures) c.push_slots.ensures.ok;
}
