use Rattle.std.proofs.Common.{◌+◌, ◌++◌, ◌∷◌, [], Some, false, ap, ◌∙◌}
use Rattle.kilim_program.specs.BuiltIn.{built_in_class, class_id, methods_from}
use Rattle.kilim_link_views.proofs.built_ins.classes.push_exception.Goals as goal

pub returns : goal.returns
returns c =
    let row = c.args.row.now in
    c.in-Ok.ensures ∙ ap (λ n. c.args.classes.now ++ built_in_class row.name.now (Some (class_id (c.args.first + n))) false (methods_from c.args.method row.methods.now) ∷ []) c.from.ensures
