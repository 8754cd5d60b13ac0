use Rattle.std.proofs.Common.{◌∙◌, ap}
use Rattle.std.proofs.Common.{ℕ, List, map}
use Rattle.kilim_class_file.specs.Parts.{text_of}
use Rattle.kilim_link_views.proofs.Loops.{mapped}
use Rattle.std.proofs.lemmas.List.{take_all}
use Rattle.kilim_link_views.proofs.marks.each_texts.Goals as goal

pub loop-list-preserved : goal.loop-list-preserved
loop-list-preserved c = mapped (λ types. map (text_of c.args.pool.now) types) c.loop-list.texts c.push.new.self c.args.lists.now c.loop-list.list-index c.list-item.result _ c.in-Ok.of_list c.loop-list-test.true c.list-item.is c.loop-list.invariant (c.in-Ok.ensures ∙ ap (λ (is : List ℕ). map (text_of c.args.pool.now) is) c.as_slice.ensures) c.in-Ok-push.ensures.ok

pub returns : goal.returns
returns c = c.loop-list.invariant ∙ ap (map (λ types. map (text_of c.args.pool.now) types)) (take_all c.loop-list.list-index c.args.lists.now c.loop-list-test.false)
