use Rattle.std.proofs.Common.{◌+◌, ◌++◌, ◌∷◌, [], ap, ◌∙◌, true, false}
use Rattle.kilim_program.specs.BuiltIn.{class_id}
use Rattle.kilim_program.specs.declared.class.Method.{Method}
use Rattle.kilim_link_views.proofs.built_ins.methods.push_method.Goals as goal

pub returns : goal.returns
returns c =
    let row = c.args.row.now in
    c.in-Ok-push.ensures.ok ∙ ap (λ (m : Method). c.args.methods.now ++ m ∷ []) (λ i. record {
      name = c.in-Ok.ensures i;
      owner = class_id (c.args.first + c.from.ensures i);
      params = c.in-Ok-params_of.ensures i;
      result = c.gives_of.ensures i;
      is_static = row.is_static;
      is_private = false;
      is_abstract = false;
      built_in = true;
      pausable = row.pausable;
      receiver = row.receiver;
      qualifiers = c.in-Ok-marks_of.ensures i;
      max_stack = 0;
      max_locals = 0;
      code_length = 0;
      code = c.new.ensures i;
      frames = c.new-2.ensures i;
      handlers = c.new-3.ensures i;
    })
