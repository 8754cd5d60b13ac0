use Rattle.kilim_link_world.proofs.Below.{one_more}
use Rattle.kilim_link_world.specs.Superclasses.{own_key}
use Rattle.kilim_link_world.specs.Agrees.{each_below}
use Rattle.std.proofs.Common.{◌≡◌, ap, ◌∙◌, arith}
use Rattle.kilim_link_world.proofs.lineages.own_keys.Goals as goal

pub loop-i-preserved : goal.loop-i-preserved
loop-i-preserved c = (
  omega (arith, c.loop-i-test.true),
  one_more own_key c.loop-i.entries c.push.new.self c.loop-i.i c.in-Ok.own c.loop-i.invariant.1 c.in-Ok.ensures c.in-Ok-push.ensures.ok,
)

pub returns : goal.returns
returns c =
    let at_end : c.loop-i.i ≡ c.args.count = omega (arith, c.loop-i-test.false, c.loop-i.invariant.0) in
    c.loop-i.invariant.1 ∙ ap (each_below own_key) at_end
