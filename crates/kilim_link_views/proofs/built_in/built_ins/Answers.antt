use Rattle.kilim_link_views.proofs.Keeping.{keeps}
use Rattle.kilim_link_views.proofs.built_in.built_ins.Goals as goal

pub invariant_of-result : goal.invariant_of-result
invariant_of-result c =
    keeps c.built_in_keeps.ensures c.args.form c.in-Ok.classes c.in-Ok-built_in_methods.methods c.in-Ok-built_in_fields.fields c.in-Ok.ensures c.in-Ok-built_in_methods.ensures c.in-Ok-built_in_fields.ensures
