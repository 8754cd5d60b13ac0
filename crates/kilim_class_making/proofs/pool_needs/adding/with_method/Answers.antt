use Rattle.std.proofs.Common.{◌≡◌, List, OnOk, subst}
use Rattle.kilim_class_pool.specs.declared.entry.Entry.{Entry}
use Rattle.kilim_class_making.proofs.pool_needs.Places.{method_chain}
use Rattle.kilim_class_making.proofs.pool_needs.adding.with_method.Goals as goal

pub returns : goal.returns
returns c =
    subst (λ (p : List Entry). OnOk c.with_call.result (c.with_call.new.pool ≡ p))
    (method_chain c.args.owner.now c.args.name.now c.args.descriptor.now c.args.pool.now c.with_class.new.pool c.with_text.new.pool c.class_index-class.result c.text_index-text.result
    c.in-Ok.ensures c.in-Ok-with_text.ensures c.class_index-class.ensures c.text_index-text.ensures)
    c.with_call.ensures
