use Rattle.std.proofs.Common.{◌∙◌, ap, ◌++◌}
use Rattle.kilim_program.specs.BuiltIn.{constructors_of}
use Rattle.kilim_link_views.proofs.built_ins.Distances.{two_constructors}
use Rattle.std.proofs.lemmas.List.{take_all}
use Rattle.kilim_link_views.proofs.built_ins.methods.push_constructors.Goals as goal

pub loop-owner-preserved : goal.loop-owner-preserved
loop-owner-preserved c =
    two_constructors c.args.first c.args.owners.now c.loop-owner.owner-index 0 c.args.methods.now c.loop-owner.methods c.push_two.new.methods c.loop-owner-test.true c.loop-owner.invariant c.in-Ok.ensures

pub returns : goal.returns
returns c = c.loop-owner.invariant ∙ ap (λ ns. c.args.methods.now ++ constructors_of c.args.first ns) (take_all c.loop-owner.owner-index c.args.owners.now c.loop-owner-test.false)
