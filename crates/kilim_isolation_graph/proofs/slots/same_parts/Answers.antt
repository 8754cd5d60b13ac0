use Rattle.std.proofs.Common.{◌≡◌, ◌∙◌, ◌++◌, ap, take, length, refl, false}
use Rattle.std.proofs.lemmas.Bool.{both_ways}
use Rattle.std.proofs.lemmas.List.{take-append-drop, length-take-le}
use Rattle.kilim_isolation_graph.proofs.Fronts.{same_back, same_there}
use Rattle.kilim_isolation_graph.proofs.slots.same_parts.Goals as goal

pub returns-then-not-is_sum : goal.returns-then-not-is_sum
returns-then-not-is_sum c =
    let long = c.args.long.now in
    let short = c.args.short.now in
    let front = c.split_at.result.0.now in
    let rest = c.split_at.result.1.now in
    let whole : front ++ rest ≡ long = ap (λ xs. xs ++ rest) c.split_at.ensures.front ∙ (ap (λ xs. take (length short) long ++ xs) c.split_at.ensures.back ∙ take-append-drop (length short) long) in
    let count : length front ≡ length short = ap length c.split_at.ensures.front ∙ length-take-le (length short) long c.requires in
    (λ f. absurd (both_ways false refl f), λ e. c.if-not-is_sum.ensures.1 (same_back long front rest short c.args.more c.args.others whole count e).2)

pub returns-then-not-none_named : goal.returns-then-not-none_named
returns-then-not-none_named c =
    let long = c.args.long.now in
    let short = c.args.short.now in
    let front = c.split_at.result.0.now in
    let rest = c.split_at.result.1.now in
    let whole : front ++ rest ≡ long = ap (λ xs. xs ++ rest) c.split_at.ensures.front ∙ (ap (λ xs. take (length short) long ++ xs) c.split_at.ensures.back ∙ take-append-drop (length short) long) in
    let count : length front ≡ length short = ap length c.split_at.ensures.front ∙ length-take-le (length short) long c.requires in
    (λ f. absurd (both_ways false refl f), λ e. c.if-not-none_named.ensures.1 (same_back long front rest short c.args.more c.args.others whole count e).1)

pub returns : goal.returns
returns c =
    let long = c.args.long.now in
    let short = c.args.short.now in
    let front = c.split_at.result.0.now in
    let rest = c.split_at.result.1.now in
    let whole : front ++ rest ≡ long = ap (λ xs. xs ++ rest) c.split_at.ensures.front ∙ (ap (λ xs. take (length short) long ++ xs) c.split_at.ensures.back ∙ take-append-drop (length short) long) in
    let count : length front ≡ length short = ap length c.split_at.ensures.front ∙ length-take-le (length short) long c.requires in (
      λ t. same_there long front rest short c.args.more c.args.others whole (c.is_same.ensures.0 t) (c.if-not-none_named.ensures.0 refl) (c.if-not-is_sum.ensures.0 refl),
      λ e. c.is_same.ensures.1 (same_back long front rest short c.args.more c.args.others whole count e).0,
    )
