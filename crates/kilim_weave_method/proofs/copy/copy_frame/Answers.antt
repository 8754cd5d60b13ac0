use Rattle.std.proofs.Common.{◌≡◌, ◌∙◌, sym}
use Rattle.std.proofs.lemmas.List.Elements.{same_from_all_zip}
use Rattle.kilim_weave_method.proofs.copy.copy_frame.Goals as goal

pub returns : goal.returns
returns c =
    let ls = c.in-Ok.ensures.cases in
    let ts = c.in-Ok-clone.ensures.cases in
    let locals : c.in-Ok.locals ≡ c.args.frame.now.locals = sym ls.3 ∙ (same_from_all_zip _ _ _ ls.4.0 (λ x y e. e) ∙ ls.2) in
    let stack : c.in-Ok-clone.stack ≡ c.args.frame.now.stack = sym ts.3 ∙ (same_from_all_zip _ _ _ ts.4.0 (λ x y e. e) ∙ ts.2) in
    λ i. record { locals = locals i; stack = stack i }
