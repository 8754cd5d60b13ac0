use Rattle.std.proofs.Common.{◌≡◌, ◌+◌, ◌-◌, ◌∙◌, ℕ, ap, sym, arith, drop}
use Rattle.kilim_weave_spec.specs.Woven.{save_locals}
use Rattle.kilim_weave_pieces.specs.Meant.{meant}
use Rattle.kilim_weave_pieces.proofs.Saving.{save_local_more}
use Rattle.kilim_weave_pieces.specs.Items.{items_of}
use Rattle.kilim_weave_pieces.proofs.saves.save_locals.Goals as goal

pub loop-left-preserved : goal.loop-left-preserved
loop-left-preserved c =
    let one : c.loop-left.left - 1 + 1 ≡ c.loop-left.left = omega (arith, c.loop-left-test.true) in (
      omega (arith, c.loop-left.invariant.0),
      save_local_more (meant c.args.plan.now) (items_of c.args.items.now) (items_of c.loop-left.items) (items_of c.save_local.new.items) c.args.locals.now (c.loop-left.left - 1) c.pair_at-local.result c.pair_at-local.ensures
          (c.loop-left.invariant.1 ∙ sym (ap (λ (n : ℕ). save_locals (meant c.args.plan.now) (drop n c.args.locals.now) (items_of c.args.items.now)) one)) c.in_ok-save_local.ensures,
    )

pub returns : goal.returns
returns c =
    let none : c.loop-left.left ≡ 0 = omega arith in
    c.loop-left.invariant.1 ∙ ap (λ (n : ℕ). save_locals (meant c.args.plan.now) (drop n c.args.locals.now) (items_of c.args.items.now)) none
