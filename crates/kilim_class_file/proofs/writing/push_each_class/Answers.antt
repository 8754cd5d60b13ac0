use Rattle.std.proofs.Common.{get_or, refl, ◌∙◌, ◌++◌, ap}
use Rattle.std.proofs.lemmas.List.{take_all}
use Rattle.std.specs.List.{flat_map}
use Rattle.kilim_class_grammar.specs.Spelling.{u2}
use Rattle.kilim_class_file.proofs.Loops.{behind}
use Rattle.kilim_class_file.proofs.writing.push_each_class.Goals as goal

pub loop-class-preserved : goal.loop-class-preserved
loop-class-preserved c =
    behind u2 c.args.into.now.items c.loop-class.into.items c.push_u16.new.into.items c.args.classes.now c.loop-class.class-index (get_or c.args.classes.now c.loop-class.class-index 0) 0
    c.loop-class-test.true refl c.loop-class.invariant c.in_ok-push_u16.ensures.ok

pub returns : goal.returns
returns c = c.loop-class.invariant ∙ ap (λ xs. c.args.into.now.items ++ flat_map u2 xs) (take_all c.loop-class.class-index c.args.classes.now c.loop-class-test.false)
