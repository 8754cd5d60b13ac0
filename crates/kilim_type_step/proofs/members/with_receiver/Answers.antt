use Rattle.std.proofs.Common.{◌++◌, ◌∷◌, [], ap, ◌∙◌}
use Rattle.kilim_program.specs.declared.verified.VType.{VType}
use Rattle.kilim_type_spec.specs.Step.{Is, arguments}
use Rattle.kilim_type_step.specs.Operands.{operands_of}
use Rattle.kilim_type_step.specs.declared.operands.Taken.TheVariants as taken
use Rattle.kilim_type_step.proofs.Calls.{receiver_on}
use Rattle.kilim_type_step.proofs.members.with_receiver.Goals as goal

pub returns : goal.returns
returns c =
    ap operands_of c.in-Ok-push.ensures.items
    ∙ receiver_on c.in-Ok.takes.items (arguments c.args.callee.now) (taken.Is c.class_vtype.result) c.in-Ok.ensures ∙ ap (λ (t : VType). arguments c.args.callee.now ++ (Is t ∷ [])) c.class_vtype.ensures
