use Rattle.std.proofs.Common.{refl, ◌∙◌, ap, ◌++◌, map}
use Rattle.kilim_link_views.specs.built_ins.Rows.{exception_of}
use Rattle.kilim_link_views.proofs.built_ins.Loops.{mapped}
use Rattle.std.proofs.lemmas.List.{take_all}
use Rattle.kilim_link_views.proofs.built_ins.classes.push_exceptions.Goals as goal

pub loop-row-preserved : goal.loop-row-preserved
loop-row-preserved c =
    mapped (exception_of c.args.first c.args.method) c.args.classes.now c.loop-row.classes c.push_exception.new.classes c.args.rows.now c.loop-row.row-index _ _ c.loop-row-test.true c.loop-row.invariant refl c.in-Ok.ensures

pub returns : goal.returns
returns c = c.loop-row.invariant ∙ ap (λ xs. c.args.classes.now ++ map (exception_of c.args.first c.args.method) xs) (take_all c.loop-row.row-index c.args.rows.now c.loop-row-test.false)
