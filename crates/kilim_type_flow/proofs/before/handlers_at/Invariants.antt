use Rattle.std.proofs.Common.{◌≡◌, ◌++◌, drop}
use Rattle.kilim_type_spec.specs.Typed.{handlers_at}
use Rattle.kilim_type_flow.proofs.before.handlers_at.Given as goal

abbrev pub invariant-loop-handler : goal.invariant-loop-handler
invariant-loop-handler l = l.tos.items ++ handlers_at (drop l.handler-index l.handlers) l.place ≡ handlers_at l.handlers l.place
