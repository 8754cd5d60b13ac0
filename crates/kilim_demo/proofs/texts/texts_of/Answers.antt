use Rattle.std.proofs.Common.{[], map, ap, ◌∙◌}
use Rattle.std.proofs.lemmas.List.{take_all}
use Rattle.kilim_class_file.specs.Text.{class_text}
use Rattle.kilim_demo.proofs.Loops.{more}
use Rattle.kilim_demo.proofs.texts.texts_of.Goals as goal

pub loop-file-preserved : goal.loop-file-preserved
loop-file-preserved c =
    more class_text [] c.loop-file.texts c.push.new.self c.args.files.now c.loop-file.file-index c.file-item.result c.file-item.result c.from_vec.result c.loop-file-test.true c.file-item.is c.loop-file.invariant
    (c.from_vec.ensures ∙ c.in-Ok.ensures) c.in-Ok-push.ensures.ok

pub returns : goal.returns
returns c = c.loop-file.invariant ∙ ap (map class_text) (take_all c.loop-file.file-index c.args.files.now c.loop-file-test.false)
