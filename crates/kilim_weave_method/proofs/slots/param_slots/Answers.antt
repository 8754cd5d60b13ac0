use Rattle.std.proofs.Common.{◌≡◌, ◌∙◌, ◌+◌, ℕ, ap}
use Rattle.kilim_program.specs.Same.{type_slots}
use Rattle.kilim_weave_method.proofs.Listing.{sum_more}
use Rattle.kilim_weave_method.proofs.slots.param_slots.Goals as goal

pub loop-at-preserved : goal.loop-at-preserved
loop-at-preserved c =
    c.in_ok-more.ensures ∙ (ap (λ (n : ℕ). c.loop-at.sum + n) c.type_slots-slots.ensures ∙ sum_more type_slots c.args.params.now c.loop-at.at c.type_at-ty.result c.loop-at.sum c.type_at-ty.ensures c.loop-at.invariant)
