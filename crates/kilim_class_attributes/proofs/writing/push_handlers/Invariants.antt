use Rattle.std.proofs.Common.{◌≡◌, ◌++◌, take}
use Rattle.std.specs.List.{flat_map}
use Rattle.kilim_class_attributes.specs.Codes.{handler_text}
use Rattle.kilim_class_attributes.proofs.writing.push_handlers.Given as goal

abbrev pub invariant-loop-handler : goal.invariant-loop-handler
invariant-loop-handler l = l.into.items ≡ l.fn.into.items ++ flat_map handler_text (take l.handler-index l.handlers)
