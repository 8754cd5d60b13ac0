use Rattle.std.proofs.Common.{◌∙◌}
use Rattle.kilim_weave_method.proofs.Outcomes.{so_of}
use Rattle.kilim_weave_method.proofs.woven_each.BuiltIn.{last_classes_are}
use Rattle.kilim_weave_method.proofs.woven_each.built_in.fiber_classes.Goals as goal

pub returns : goal.returns
returns c =
    so_of c.copy_classes-copies.result
    (λ copies same. last_classes_are c.in-Ok.first _ c.in-Ok-small.method _ c.in-Ok-built_in_classes.classes c.as_slice.result.now copies (c.in-Ok.ensures.value ∙ c.first_class.ensures) (c.in-Ok-small.ensures.value ∙ c.first_method.ensures) c.in-Ok-built_in_classes.ensures c.as_slice.ensures (same ∙ c.last_classes.ensures))
    c.copy_classes-copies.ensures
