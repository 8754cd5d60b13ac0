use Rattle.std.proofs.Common.{List, sym, ap, ◌∙◌}
use Rattle.kilim_class_pool.specs.declared.entry.Entry.{Entry}
use Rattle.kilim_class_making.specs.pool_needs.Adding.{class_behind, is_class_of, text_index, unless_found, with_class, with_text}
use Rattle.kilim_class_making.proofs.pool_needs.Places.{kept, none_found, on_ok, text_there}
use Rattle.kilim_class_making.proofs.pool_needs.adding.with_class.Goals as goal

pub returns-then-class_index-ne0 : goal.returns-then-class_index-ne0
unfolding with_class
returns-then-class_index-ne0 c =
    sym (kept (is_class_of c.args.pool.now c.args.name.now) c.args.pool.now (class_behind c.args.name.now (with_text c.args.name.now c.args.pool.now)) (λ h. c.if-class_index-ne0.true (c.class_index.ensures ∙ h)))

pub returns : goal.returns
unfolding with_class
returns c =
    let none = none_found (is_class_of c.args.pool.now c.args.name.now) c.args.pool.now (sym c.class_index.ensures ∙ c.if-class_index-ne0.false) in
    on_ok c.class_behind.result
    (λ named. named ∙ (ap (class_behind c.args.name.now) c.in-Ok.ensures ∙ ap (λ o. unless_found o c.args.pool.now (class_behind c.args.name.now (with_text c.args.name.now c.args.pool.now))) (sym none)))
    c.class_behind.ensures

pub class_behind-requires : goal.class_behind-requires
class_behind-requires c = λ h. text_there c.args.name.now c.args.pool.now (ap (λ (p : List Entry). text_index p c.args.name.now) (sym c.in-Ok.ensures) ∙ h)
