use Rattle.std.proofs.Common.{◌≡◌, ◌+◌, ◌-◌, ◌∙◌, ℕ, ap, arith, reverse, take}
use Rattle.kilim_weave_spec.specs.Woven.{restore_stack}
use Rattle.kilim_weave_pieces.specs.Meant.{meant}
use Rattle.kilim_weave_pieces.proofs.Saving.{restore_more}
use Rattle.kilim_weave_pieces.specs.Items.{items_of}
use Rattle.kilim_weave_pieces.proofs.saves.restore_stack.Goals as goal

pub loop-left-preserved : goal.loop-left-preserved
loop-left-preserved c =
    let one : c.loop-left.left - 1 + 1 ≡ c.loop-left.left = omega (arith, c.loop-left-test.true) in (
      omega (arith, c.loop-left.invariant.0),
      restore_more (meant c.args.plan.now) (items_of c.args.items.now) (items_of c.loop-left.items) (items_of c.restore.new.items) c.args.stack.now (c.loop-left.left - 1) c.type_at.result c.type_at.ensures
          (ap (λ (n : ℕ). restore_stack (meant c.args.plan.now) (reverse (take n c.args.stack.now)) (items_of c.loop-left.items)) one ∙ c.loop-left.invariant.1) c.in_ok-restore.ensures,
    )

pub returns : goal.returns
returns c =
    let none : 0 ≡ c.loop-left.left = omega arith in
    ap (λ (n : ℕ). restore_stack (meant c.args.plan.now) (reverse (take n c.args.stack.now)) (items_of c.loop-left.items)) none ∙ c.loop-left.invariant.1
