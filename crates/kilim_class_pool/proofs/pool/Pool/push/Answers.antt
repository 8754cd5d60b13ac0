use Rattle.std.proofs.Common.{subst, sym, ◌+◌, ◌<◌, ◌^◌, List}
use Rattle.kilim_class_pool.specs.declared.entry.Entry.{Entry}
use Rattle.kilim_class_pool.specs.Entries.{width_of, count_of}
use Rattle.kilim_class_pool.proofs.SlotLaws.{pushed_slots, pushed_entries}
use Rattle.kilim_class_pool.proofs.pool.Pool.push.Goals as goal

pub invariant_of-self : goal.invariant_of-self
invariant_of-self c =
    pushed_slots c.self.inside.slots.items c.push_slots.new.slots.items c.args.entry c.push_slots.result c.self.invariant
    (subst (λ (entries : List Entry). count_of entries + width_of c.args.entry < 2 ^ 16) (sym c.self.view_is) c.requires) c.push_slots.ensures.ok c.push_slots.ensures.err

pub returns-clause-ok : goal.returns-clause-ok
returns-clause-ok c =
    pushed_entries c.self.inside.slots.items c.push_slots.new.slots.items c.args.entry c.push_slots.result c.args.self.now c.self.view_is c.push_slots.ensures.ok
