use Rattle.std.proofs.Common.{◌≡◌, ◌∙◌, ◌+◌, ◌-◌, ◌∷◌, ℕ, ap, sym, arith, drop}
use Rattle.kilim_program.specs.declared.instr.Instr.{Instr}
use Rattle.kilim_weave_spec.specs.Woven.{added, dummies, dummy_of}
use Rattle.kilim_weave_pieces.proofs.Saving.{dummy_more}
use Rattle.kilim_weave_pieces.specs.Items.{items_of}
use Rattle.kilim_weave_pieces.proofs.back.dummies.Goals as goal

pub loop-left-preserved : goal.loop-left-preserved
loop-left-preserved c =
    let one : c.loop-left.left - 1 + 1 ≡ c.loop-left.left = omega (arith, c.loop-left-test.true) in (
      omega (arith, c.loop-left.invariant.0),
      dummy_more (items_of c.args.items.now) (items_of c.loop-left.items) (items_of c.add.new.items) c.args.params.now (c.loop-left.left - 1) c.type_of-ty.result c.type_of-ty.ensures
          (c.loop-left.invariant.1 ∙ sym (ap (λ (n : ℕ). dummies (drop n c.args.params.now) (items_of c.args.items.now)) one))
          (c.in_ok-add.ensures ∙ ap (λ (i : Instr). added i 1 ∷ (items_of c.loop-left.items)) (c.dummy_of-dummy.ensures ∙ ap dummy_of c.vtype-value.ensures)),
    )

pub returns : goal.returns
returns c =
    let none : c.loop-left.left ≡ 0 = omega arith in
    c.loop-left.invariant.1 ∙ ap (λ (n : ℕ). dummies (drop n c.args.params.now) (items_of c.args.items.now)) none
