use Rattle.std.proofs.Common.{Some, refl, ◌∙◌, ap, ◌++◌, map}
use Rattle.kilim_program.specs.BuiltIn.{class_id}
use Rattle.kilim_link_views.specs.built_ins.Rows.{class_of}
use Rattle.kilim_link_views.proofs.built_ins.Loops.{mapped}
use Rattle.std.proofs.lemmas.List.{take_all}
use Rattle.kilim_link_views.proofs.built_ins.classes.push_classes.Goals as goal

pub loop-row-preserved : goal.loop-row-preserved
loop-row-preserved c =
    mapped (class_of (Some (class_id c.args.first)) c.args.method) c.args.classes.now c.loop-row.classes c.push_class.new.classes c.args.rows.now c.loop-row.row-index _ _ c.loop-row-test.true c.loop-row.invariant refl c.in-Ok.ensures

pub returns : goal.returns
returns c = c.loop-row.invariant ∙ ap (λ xs. c.args.classes.now ++ map (class_of (Some (class_id c.args.first)) c.args.method) xs) (take_all c.loop-row.row-index c.args.rows.now c.loop-row-test.false)
