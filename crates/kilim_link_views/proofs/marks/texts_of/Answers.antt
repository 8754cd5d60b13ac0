use Rattle.std.proofs.Common.{refl, ◌∙◌, ap, map}
use Rattle.kilim_class_file.specs.Parts.{text_of}
use Rattle.kilim_link_views.proofs.Loops.{mapped}
use Rattle.std.proofs.lemmas.List.{take_all}
use Rattle.kilim_link_views.proofs.marks.texts_of.Goals as goal

pub loop-index-preserved : goal.loop-index-preserved
loop-index-preserved c = mapped (text_of c.args.pool.now) c.loop-index.texts c.push_text.new.texts c.args.indices.now c.loop-index.index-index _ _ _ c.loop-index-test.true refl c.loop-index.invariant refl c.in-Ok.ensures

pub returns : goal.returns
returns c = c.loop-index.invariant ∙ ap (map (text_of c.args.pool.now)) (take_all c.loop-index.index-index c.args.indices.now c.loop-index-test.false)
