use Rattle.std.proofs.Common.{◌≡◌, ◌∙◌, sym}
use Rattle.std.proofs.lemmas.List.Elements.{same_from_all_zip}
use Rattle.kilim_weave_method.proofs.copy.copy_head.Goals as goal

pub returns : goal.returns
returns c =
    let ps = c.in-Ok-clone.ensures.cases in
    let qs = c.in-Ok-clone-2.ensures.cases in
    let hs = c.in-Ok-clone-3.ensures.cases in
    let params : c.in-Ok-clone.params ≡ c.args.method.now.params = sym ps.3 ∙ (same_from_all_zip _ _ _ ps.4.0 (λ x y e. e) ∙ ps.2) in
    let qualifiers : c.in-Ok-clone-2.qualifiers ≡ c.args.method.now.qualifiers = sym qs.3 ∙ (same_from_all_zip _ _ _ qs.4.0 (λ x y e. e) ∙ qs.2) in
    let handlers : c.in-Ok-clone-3.handlers ≡ c.args.method.now.handlers = sym hs.3 ∙ (same_from_all_zip _ _ _ hs.4.0 (λ x y e. e) ∙ hs.2) in
    λ i. record { name = c.in-Ok.ensures.cases i; params = params i; qualifiers = qualifiers i; handlers = handlers i }
