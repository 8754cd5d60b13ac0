use Rattle.std.proofs.Common.{◌≡◌, ◌∙◌, ◌++◌, ap, take}
use Rattle.std.proofs.lemmas.List.{take-append-drop}
use Rattle.kilim_type_spec.specs.Parts.{joined}
use Rattle.kilim_type_spec.proofs.Joined.{joined_on}
use Rattle.kilim_type_spec.proofs.shared.parts_like.Goals as goal

pub loop-left-preserved : goal.loop-left-preserved
loop-left-preserved c =
    let rest = c.split_at.result.1.now in
    let left = c.loop-left.left.now in
    let n = c.if-left-lt-PART.count in
    let whole : c.in-Ok.part ++ rest ≡ left = ap (λ xs. xs ++ rest) (c.in-Ok.ensures ∙ c.split_at.ensures.front) ∙ (ap (λ xs. take n left ++ xs) c.split_at.ensures.back ∙ take-append-drop n left) in
    ap (λ ps. joined ps ++ rest) (c.in-Ok-push.ensures.items)
    ∙ joined_on c.loop-left.parts.items c.in-Ok.part left rest c.args.types.now whole c.loop-left.invariant
