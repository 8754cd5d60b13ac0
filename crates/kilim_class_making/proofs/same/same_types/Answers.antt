use Rattle.std.proofs.Common.{rules, sym, ◌∙◌}
use Rattle.kilim_class_making.proofs.Compared.{same_lists}
use Rattle.kilim_class_making.proofs.same.same_types.Goals as goal

pub returns : goal.returns
returns c = λ same.
    sym c.as_slice-items.ensures ∙ (same_lists _ (λ a b h. search rules) c.as_slice-items.result.now c.as_slice-others.result.now c.eq.result c.eq.ensures same ∙ c.as_slice-others.ensures)
