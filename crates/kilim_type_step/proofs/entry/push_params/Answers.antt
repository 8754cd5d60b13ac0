use Rattle.std.proofs.Common.{◌∙◌, ◌++◌, ◌+◌, [], List, ap, sym, drop, arith}
use Rattle.kilim_program.specs.declared.verified.VType.{VType}
use Rattle.kilim_type_spec.specs.Typed.{param_slots, slots_of_type}
use Rattle.kilim_type_step.proofs.Parameters.{param_on, params_end}
use Rattle.kilim_type_step.proofs.entry.push_params.Goals as goal

pub loop-ty-preserved : goal.loop-ty-preserved
loop-ty-preserved c =
    ap (λ (xs : List VType). xs ++ param_slots (drop (c.loop-ty.ty-index + 1) c.args.params.now)) (c.in-Ok.ensures ∙ ap (λ (t : VType). c.loop-ty.slots.items ++ slots_of_type t []) c.vtype.ensures)
    ∙ (param_on c.args.params.now c.loop-ty.slots.items c.loop-ty.ty-index _ c.loop-ty-test.true ∙ c.loop-ty.invariant)

pub returns : goal.returns
returns c = sym (params_end c.args.params.now c.loop-ty.slots.items c.loop-ty.ty-index (omega arith)) ∙ c.loop-ty.invariant
