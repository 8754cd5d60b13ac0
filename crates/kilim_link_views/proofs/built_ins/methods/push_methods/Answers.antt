use Rattle.std.proofs.Common.{refl, ◌∙◌, ap, ◌++◌, map}
use Rattle.kilim_link_views.specs.built_ins.Rows.{method_of}
use Rattle.kilim_link_views.proofs.built_ins.Loops.{mapped}
use Rattle.std.proofs.lemmas.List.{take_all}
use Rattle.kilim_link_views.proofs.built_ins.methods.push_methods.Goals as goal

pub loop-row-preserved : goal.loop-row-preserved
loop-row-preserved c =
    mapped (method_of c.args.form c.args.first) c.args.methods.now c.loop-row.methods c.push_method.new.methods c.args.rows.now c.loop-row.row-index _ _ c.loop-row-test.true c.loop-row.invariant refl c.in-Ok.ensures

pub returns : goal.returns
returns c = c.loop-row.invariant ∙ ap (λ xs. c.args.methods.now ++ map (method_of c.args.form c.args.first) xs) (take_all c.loop-row.row-index c.args.rows.now c.loop-row-test.false)
