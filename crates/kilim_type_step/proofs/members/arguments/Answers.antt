use Rattle.std.proofs.Common.{◌∙◌, ◌++◌, ◌∷◌, [], ◌-◌, List, ap, reverse, take, arith}
use Rattle.kilim_program.specs.declared.ty.Ty.{Ty}
use Rattle.kilim_program.specs.declared.verified.VType.{VType}
use Rattle.kilim_type_step.specs.declared.operands.Taken.{Taken}
use Rattle.kilim_type_step.specs.declared.operands.Taken.TheVariants as taken
use Rattle.kilim_type_step.specs.Operands.{operands_of}
use Rattle.kilim_type_step.proofs.Calls.{argument_on, arguments_all, types_of}
use Rattle.kilim_type_step.proofs.members.arguments.Goals as goal

pub loop-left-preserved : goal.loop-left-preserved
loop-left-preserved c = (
  omega arith,
  ap (λ (ts : List Taken). operands_of ts ++ reverse (types_of (take (c.loop-left.left - 1) c.as_slice-params.result.now))) (c.in-Ok.ensures.items ∙ ap (λ (t : VType). c.loop-left.takes.items ++ taken.Is t ∷ []) c.vtype.ensures)
      ∙ argument_on c.as_slice-params.result.now c.loop-left.takes.items c.loop-left.left _ c.loop-left-test.true c.loop-left.invariant.0 c.loop-left.invariant.1,
)

pub returns : goal.returns
returns c =
    arguments_all c.as_slice-params.result.now c.loop-left.takes.items c.loop-left.left c.loop-left-test.false c.loop-left.invariant.1 ∙ ap (λ (tys : List Ty). reverse (types_of tys)) c.as_slice-params.ensures
