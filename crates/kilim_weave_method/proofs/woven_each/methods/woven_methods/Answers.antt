use Rattle.std.proofs.Common.{List, subst, sym}
use Rattle.kilim_program.specs.declared.verified.Frame.{Frame}
use Rattle.kilim_type_spec.specs.TypedProgram.{KeepsTyped, TypedProgram}
use Rattle.kilim_weave_spec.specs.Form.{AllWoven}
use Rattle.kilim_weave_method.proofs.Outcomes.{so_of}
use Rattle.kilim_weave_method.proofs.woven_each.methods.woven_methods.Goals as goal

pub all_woven-requires : goal.all_woven-requires
all_woven-requires c = subst (λ (fs : List (List Frame)). KeepsTyped (record { program = c.typed.inside.program; frames = fs })) (sym c.as_slice.ensures) c.typed.invariant

pub returns : goal.returns
returns c = so_of c.all_woven.result (λ all are. subst (λ (t : TypedProgram). AllWoven t.program t.program.methods all.methods all.counted) c.typed.view_is are) c.all_woven.ensures
