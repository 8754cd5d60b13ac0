use Rattle.kilim_link_world.proofs.Below.{one_more}
use Rattle.kilim_link_world.specs.Agrees.{each_below}
use Rattle.kilim_link_inherited.specs.Roots.{inherits}
use Rattle.kilim_program.specs.BuiltIn.{class_id}
use Rattle.std.specs.Prelude.{is_some}
use Rattle.std.proofs.Common.{◌≡◌, ℕ, Option, ap, ◌∙◌, arith}
use Rattle.kilim_link_world.proofs.marks.marks_of.Goals as goal

pub loop-i-preserved : goal.loop-i-preserved
loop-i-preserved c =
    let mark = λ (k : ℕ). is_some (inherits c.args.inherited.now (class_id k) 0) in (
      omega (arith, c.loop-i-test.true),
      one_more mark c.loop-i.marks c.push.new.self c.loop-i.i c.is_some.result c.loop-i.invariant.1 (c.is_some.ensures ∙ ap (λ (o : Option ℕ). is_some o) c.find.ensures.found) c.in-Ok.ensures.ok,
    )

pub returns : goal.returns
returns c =
    let at_end : c.loop-i.i ≡ c.args.count = omega (arith, c.loop-i-test.false, c.loop-i.invariant.0) in
    c.loop-i.invariant.1 ∙ ap (each_below (λ k. is_some (inherits c.args.inherited.now (class_id k) 0))) at_end
