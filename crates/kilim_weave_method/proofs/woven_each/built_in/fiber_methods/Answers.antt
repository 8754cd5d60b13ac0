use Rattle.std.proofs.Common.{◌∙◌}
use Rattle.kilim_weave_method.proofs.Outcomes.{so_of}
use Rattle.kilim_weave_method.proofs.woven_each.BuiltIn.{last_methods_are}
use Rattle.kilim_weave_method.proofs.woven_each.built_in.fiber_methods.Goals as goal

pub returns : goal.returns
returns c =
    so_of c.copy_methods-copies.result
    (λ copies same. last_methods_are c.in-Ok.first _ c.in-Ok-built_in_methods.methods c.as_slice.result.now copies (c.in-Ok.ensures.value ∙ c.first_class.ensures) c.in-Ok-built_in_methods.ensures c.as_slice.ensures (same ∙ c.last_methods.ensures))
    c.copy_methods-copies.ensures
