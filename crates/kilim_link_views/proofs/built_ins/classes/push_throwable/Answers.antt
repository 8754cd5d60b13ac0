use Rattle.std.proofs.Common.{◌++◌, ◌∷◌, [], List, ℕ, Some, false, ap, ◌∙◌}
use Rattle.std.specs.Prelude.{codes}
use Rattle.kilim_program.specs.BuiltIn.{class_id, message_field}
use Rattle.kilim_program.specs.declared.class.Class.{Class}
use Rattle.kilim_program.specs.declared.names.FieldId.{FieldId}
use Rattle.kilim_program.specs.declared.names.MethodId.{MethodId}
use Rattle.kilim_link_views.proofs.built_ins.classes.push_throwable.Goals as goal

with_parts : List Class → ℕ → List ℕ → List FieldId → List MethodId → List Class
with_parts classes first name fields methods = classes ++ record { name = name; superclass = Some (class_id first); is_abstract = false; message = false; fields = fields; methods = methods } ∷ []

pub returns : goal.returns
unfolding with_parts
returns c =
    let classes = c.args.classes.now in
    let first = c.args.first in
    c.in-Ok-push.ensures.ok
    ∙ (ap (λ (name : List ℕ). with_parts classes first name c.in-Ok-message_alone.fields c.in-Ok-methods_from.methods) c.in-Ok.ensures
    ∙ (ap (λ (fields : List FieldId). with_parts classes first (codes "java/lang/Throwable") fields c.in-Ok-methods_from.methods) c.in-Ok-message_alone.ensures
    ∙ ap (λ (methods : List MethodId). with_parts classes first (codes "java/lang/Throwable") (message_field ∷ []) methods) c.in-Ok-methods_from.ensures))
