use Rattle.std.proofs.Common.{◌≡◌, ◌∙◌, ◌∷◌, ℕ, ap, subst, refl}
use Rattle.kilim_weave_spec.specs.Woven as form
use Rattle.kilim_weave_pieces.specs.declared.item.Item.{Item}
use Rattle.kilim_weave_pieces.specs.Items.{item_of, label_of, size_of}
use Rattle.kilim_weave_pieces.specs.Places.{Tables}
use Rattle.kilim_weave_method.specs.Found.{Finds, looked}
use Rattle.kilim_weave_method.proofs.Outcomes.{on_ok, on_ok_both}
use Rattle.kilim_weave_method.proofs.Finding.{adds_found, stands_found}
use Rattle.kilim_weave_method.proofs.find.put.Goals as goal

pub returns-in-Stands : goal.returns-in-Stands
returns-in-Stands c =
    on_ok_both c.stand.result
    (λ first end all rest f. stands_found all c.args.places.now c.stand.new.places (label_of c.in-Stands.label) _ rest first end (subst (λ (i : Item). Finds all c.args.places.now (item_of i ∷ rest)) c.in-Stands.is f))
    c.stand.ensures.first c.stand.ensures.end

pub returns-in-Adds : goal.returns-in-Adds
returns-in-Adds c =
    on_ok c.advance.result
    (λ is all rest f. adds_found all c.args.places.now c.advance.new.places _ (size_of c.in-Adds.size) _ rest (λ (l : form.Label). ap (λ (t : Tables). looked t l) is) (ap (λ (t : Tables). t.end) is)
    (subst (λ (i : Item). Finds all c.args.places.now (item_of i ∷ rest)) c.in-Adds.is f))
    c.advance.ensures
