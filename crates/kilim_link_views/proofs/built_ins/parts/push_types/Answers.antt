use Rattle.kilim_link_views.specs.built_ins.Rows.{type_of}
use Rattle.kilim_link_views.proofs.built_ins.Loops.{mapped}
use Rattle.std.proofs.Common.{◌∙◌, ap, ◌++◌, map}
use Rattle.std.proofs.lemmas.List.{take_all}
use Rattle.kilim_link_views.proofs.built_ins.parts.push_types.Goals as goal

pub loop-kind-preserved : goal.loop-kind-preserved
loop-kind-preserved c =
    mapped (type_of c.args.first) c.args.types.now.items c.loop-kind.types.items c.push.new.self.items c.args.kinds.now c.loop-kind.kind-index _ c.type_of.result c.loop-kind-test.true c.loop-kind.invariant c.type_of.ensures c.in-Ok.ensures.items

pub returns : goal.returns
returns c = c.loop-kind.invariant ∙ ap (λ xs. c.args.types.now.items ++ map (type_of c.args.first) xs) (take_all c.loop-kind.kind-index c.args.kinds.now c.loop-kind-test.false)
