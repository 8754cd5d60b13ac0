use Rattle.std.proofs.Common.{◌≡◌, ◌∙◌, ◌+◌, ◌-◌, ◌++◌, ◌∷◌, [], sym, ap, drop, arith}
use Rattle.std.proofs.lemmas.List.{append-nil}
use Rattle.kilim_type_spec.specs.Typed.{padded}
use Rattle.kilim_type_spec.proofs.Padded.{padded_on}
use Rattle.kilim_type_spec.proofs.verified.padded.Goals as goal

pub loop-at-preserved : goal.loop-at-preserved
loop-at-preserved c =
    let ts = c.args.types.now in
    let at = c.loop-at.at in
    let slots = c.loop-at.slots.items in
    ap (λ xs. xs ++ padded (c.args.count - (at + 1)) (drop (at + 1) ts)) (c.in-Ok-push.ensures.items ∙ ap (λ t. slots ++ t ∷ []) c.type_at.ensures) ∙ padded_on ts slots c.args.count at (omega arith) c.loop-at.invariant

pub returns : goal.returns
returns c =
    let slots = c.loop-at.slots.items in
    let none : 0 ≡ c.args.count - c.loop-at.at = omega arith in
    sym (append-nil slots) ∙ (ap (λ n. slots ++ padded n (drop c.loop-at.at c.args.types.now)) none ∙ c.loop-at.invariant)
