use Rattle.std.proofs.Common.{ℕ, List, ap, ◌∙◌}
use Rattle.kilim_class_pool.specs.declared.entry.Entry.{Entry}
use Rattle.kilim_class_making.specs.pool_needs.Adding.{text_index, with_member}
use Rattle.kilim_class_making.proofs.pool_needs.Places.{on_ok}
use Rattle.kilim_class_making.proofs.pool_needs.adding.with_call.Goals as goal

pub returns : goal.returns
returns c =
    on_ok c.with_member.result
    (λ named.
    named
    ∙ (ap (λ (k : ℕ). with_member c.args.class c.args.name k c.with_text.new.pool) c.text_index-text.ensures ∙ ap (λ (p : List Entry). with_member c.args.class c.args.name (text_index p c.args.descriptor.now) p) c.in-Ok.ensures))
    c.with_member.ensures
