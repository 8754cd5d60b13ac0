use Rattle.std.proofs.Common.{◌≡◌, ◌-◌, ◌<◌, ◌++◌, List, Some, sym, ap, ◌∙◌, arith}
use Rattle.kilim_program.specs.declared.names.ClassId.{ClassId}
use Rattle.kilim_program.specs.Keeps.{superclass_of}
use Rattle.kilim_program.specs.Names.{class_at, line_up_to}
use Rattle.kilim_link_world.proofs.Upward.{line_up}
use Rattle.kilim_link_world.proofs.outline.Outline.line.Goals as goal

pub loop-left-preserved : goal.loop-left-preserved
loop-left-preserved c =
    let p = c.args.self.now in
    let some : 0 < c.loop-left.left = omega (arith, c.loop-left-test.true) in
    let is : superclass_of (class_at p c.loop-left.at) ≡ Some c.in-Some.up = sym c.superclass_of.ensures ∙ c.in-Some.is in
    ap (λ (ds : List ClassId). ds ++ line_up_to p (c.loop-left.left - 1) c.in-Some.up) c.in-Ok.ensures.ok
    ∙ (line_up p c.loop-left.left c.loop-left.at some c.loop-left.line c.in-Some.up is ∙ c.loop-left.invariant)
