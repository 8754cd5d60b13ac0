use Rattle.std.proofs.Common.{◌≡◌, ◌≤◌, ◌∙◌, ℕ, [], ◌∷◌, ap, sym, drop, length, arith}
use Rattle.kilim_program.specs.declared.value.Value.TheVariants.{Fiber}
use Rattle.kilim_fiber_steps.proofs.Operands.{count_of}
use Rattle.kilim_fiber_steps.proofs.members.do_yield.Goals as goal

pub drop_fiber-requires : goal.drop_fiber-requires
drop_fiber-requires c =
    let one : c.args.count ≡ 1 = count_of c.args.count c.args.frame.now.stack.values (Fiber ∷ []) c.requires.there c.requires.args in
    let there : c.args.count ≤ length c.args.frame.now.stack.values = c.requires.there in
    omega (arith, one, there)

pub returns : goal.returns
returns c =
    let one : c.args.count ≡ 1 = count_of c.args.count c.args.frame.now.stack.values (Fiber ∷ []) c.requires.there c.requires.args in
    record {
      frame = c.drop_fiber.ensures ∙ ap (λ (n : ℕ). record c.args.frame.now { stack = record c.args.frame.now.stack { values = drop n c.args.frame.now.stack.values } }) (sym one);
      fiber = c.turn.ensures;
    }
