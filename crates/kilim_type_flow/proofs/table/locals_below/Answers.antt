use Rattle.std.proofs.Common.{◌≡◌, ◌<◌, inl, inr, ℕ, true, arith}
use Rattle.kilim_type_spec.specs.Typed.{reads}
use Rattle.kilim_type_flow.proofs.Growing.{each_more, each_of_all}
use Rattle.kilim_type_flow.proofs.table.locals_below.Goals as goal

pub loop-at-init : goal.loop-at-init
loop-at-init c = (omega arith, λ at e lt there. absurd (omega arith))

pub loop-at-preserved : goal.loop-at-preserved
loop-at-preserved c =
    let first = c.larger-most.ensures.first in
    let second = c.larger-most.ensures.second in
    let small = c.slot_behind.ensures.small in
    let was = c.loop-at.invariant.0 in (
      elim c.larger-most.ensures.either [ inl e ↦ omega (arith, e, was) | inr e ↦ omega (arith, e, small) ],
      each_more c.args.method.now.code (λ e. (k : ℕ) → reads e.1 k ≡ true → k < c.larger-most.result) c.loop-at.at c.entry_of-entry.result.now c.entry_of-entry.ensures
          (λ at e lt there k it. let h = c.loop-at.invariant.1 at e lt there k it in omega (arith, first, h))
          (λ k it. let h = c.slot_behind.ensures.behind k it in omega (arith, second, h)),
    )

pub returns-clause-small : goal.returns-clause-small
returns-clause-small c = c.loop-at.invariant.0

pub returns-clause-behind : goal.returns-clause-behind
returns-clause-behind c at k e there it =
    each_of_all c.args.method.now.code (λ d. (j : ℕ) → reads d.1 j ≡ true → j < c.loop-at.most) c.loop-at.at (omega arith) c.loop-at.invariant.1 at e there k it
