use Rattle.std.proofs.Common.{Some, Option, false, ap, ◌∙◌}
use Rattle.kilim_program.specs.declared.class.Method.{Method}
use Rattle.kilim_link_spec.specs.declared.view.DeclaredMethod.{DeclaredMethod}
use Rattle.kilim_link_spec.specs.Qualified.{qualified}
use Rattle.kilim_link_members.proofs.methods.method_with.Goals as goal

pub returns-in-Ok : goal.returns-in-Ok
returns-in-Ok c =
    let d = c.args.declared.now in
    let body = c.args.body in
    let made : DeclaredMethod → Option Method = λ m. Some (record {
      name = m.name;
      owner = c.args.class;
      params = c.args.params;
      result = c.args.gives;
      is_static = m.is_static;
      is_private = m.is_private;
      is_abstract = m.is_abstract;
      built_in = false;
      pausable = m.pausable;
      receiver = (qualified c.args.world.now c.args.class m).receiver;
      qualifiers = (qualified c.args.world.now c.args.class m).params;
      max_stack = body.max_stack;
      max_locals = body.max_locals;
      code_length = body.code_length;
      code = body.code;
      frames = body.frames;
      handlers = body.handlers;
    }) in
    ap (λ (m : Method). Some m) (λ i. record {
      name = c.in-Ok.ensures.name i;
      owner = c.args.class;
      params = c.args.params;
      result = c.args.gives;
      is_static = d.is_static;
      is_private = d.is_private;
      is_abstract = d.is_abstract;
      built_in = false;
      pausable = d.pausable;
      receiver = (c.in-Ok.ensures.qualified i).receiver;
      qualifiers = (c.in-Ok.ensures.qualified i).params;
      max_stack = body.max_stack;
      max_locals = body.max_locals;
      code_length = body.code_length;
      code = body.code;
      frames = body.frames;
      handlers = body.handlers;
    })
    ∙ ap made c.requires.declared
