use Rattle.std.proofs.Common.{◌∙◌, List, ap, rules}
use Rattle.kilim_program.specs.declared.verified.VType.{VType}
use Rattle.kilim_type_spec.specs.Step.{poke}
use Rattle.kilim_type_step.proofs.Types.{poke_more}
use Rattle.kilim_type_step.proofs.state.poke.Goals as goal

pub loop-types-preserved : goal.loop-types-preserved
loop-types-preserved c =
    ap (λ (xs : List VType). poke xs c.args.slot c.args.t) c.in-Ok.ensures.items ∙ (poke_more c.loop-types.types.items c.args.slot c.args.t (search rules) ∙ c.loop-types.invariant)
