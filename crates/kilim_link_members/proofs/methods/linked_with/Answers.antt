use Rattle.std.proofs.Common.{◌≡◌, Option, ap, subst, sym, ◌∙◌}
use Rattle.std.specs.Prelude.{IfOk}
use Rattle.kilim_program.specs.declared.class.Method.{Method}
use Rattle.kilim_link_spec.specs.Linked.{body_in}
use Rattle.kilim_link_spec.specs.Types.{result_in, types_in}
use Rattle.kilim_link_members.proofs.Bodies.{no_result, no_types, no_body, has_all}
use Rattle.kilim_link_members.proofs.methods.linked_with.Goals as goal

pub returns-in_default : goal.returns-in_default
returns-in_default c =
    no_result c.args.world.now c.args.file.now c.args.class c.args.method.now c.args.declared.now c.requires.declared c.args.text.now c.requires.text
    (sym c.in_default.is ∙ (c.result_in.ensures ∙ ap (result_in c.args.world.now) c.as_ref.ensures.value))

pub returns-in_default-types : goal.returns-in_default-types
returns-in_default-types c =
    no_types c.args.world.now c.args.file.now c.args.class c.args.method.now c.args.declared.now c.requires.declared c.args.text.now c.requires.text
    (sym c.in_default-types.is ∙ (c.in-Ok.ensures ∙ ap (types_in c.args.world.now) c.as_slice.ensures))

pub returns-in_default-found : goal.returns-in_default-found
returns-in_default-found c =
    no_body c.args.world.now c.args.file.now c.args.class c.args.method.now c.args.declared.now c.requires.declared c.args.text.now c.requires.text
    c.in-Some-types.params c.in-Some.gives (sym c.in-Some-types.is ∙ (c.in-Ok.ensures ∙ ap (types_in c.args.world.now) c.as_slice.ensures))
    (sym c.in-Some.is ∙ (c.result_in.ensures ∙ ap (result_in c.args.world.now) c.as_ref.ensures.value))
    (sym c.in_default-found.is ∙ (c.in-Ok-body_in.ensures ∙ ap (body_in c.args.world.now c.args.file.now c.args.class c.args.method.now) c.code_attribute-code.ensures))

pub returns : goal.returns
returns c =
    let whole = has_all c.args.world.now c.args.file.now c.args.class c.args.method.now c.args.declared.now c.requires.declared c.args.text.now c.requires.text
    c.in-Some-types.params c.in-Some.gives (sym c.in-Some-types.is ∙ (c.in-Ok.ensures ∙ ap (types_in c.args.world.now) c.as_slice.ensures))
    (sym c.in-Some.is ∙ (c.result_in.ensures ∙ ap (result_in c.args.world.now) c.as_ref.ensures.value))
    c.in-Some-found.body (sym c.in-Some-found.is ∙ (c.in-Ok-body_in.ensures ∙ ap (body_in c.args.world.now c.args.file.now c.args.class c.args.method.now) c.code_attribute-code.ensures)) in
    subst (λ (m : Option Method). IfOk c.method_with.result (λ (found : Option Method). found ≡ m)) whole c.method_with.ensures
