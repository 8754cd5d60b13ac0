use Rattle.std.proofs.Common.{get_or, refl, ◌∙◌, ◌++◌, ap}
use Rattle.std.proofs.lemmas.List.{take_all}
use Rattle.std.specs.List.{flat_map}
use Rattle.kilim_class_attributes.specs.Codes.{handler_text}
use Rattle.kilim_class_attributes.proofs.Writes.{behind}
use Rattle.kilim_class_attributes.proofs.writing.push_handlers.Goals as goal

pub loop-handler-preserved : goal.loop-handler-preserved
loop-handler-preserved c =
    behind handler_text c.args.into.now.items c.loop-handler.into.items c.push_handler.new.into.items c.args.handlers.now c.loop-handler.handler-index (get_or c.args.handlers.now c.loop-handler.handler-index _) _
    c.loop-handler-test.true refl c.loop-handler.invariant c.in-Ok.ensures

pub returns : goal.returns
returns c = c.loop-handler.invariant ∙ ap (λ xs. c.args.into.now.items ++ flat_map handler_text xs) (take_all c.loop-handler.handler-index c.args.handlers.now c.loop-handler-test.false)
