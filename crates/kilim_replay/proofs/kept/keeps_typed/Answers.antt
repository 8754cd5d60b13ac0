use Rattle.std.proofs.Common.{subst}
use Rattle.kilim_type_spec.specs.TypedProgram.{KeepsTyped, TypedProgram}
use Rattle.kilim_replay.proofs.kept.keeps_typed.Goals as goal

pub returns : goal.returns
returns c = subst (λ (t : TypedProgram). KeepsTyped t) c.typed.view_is c.typed.invariant
