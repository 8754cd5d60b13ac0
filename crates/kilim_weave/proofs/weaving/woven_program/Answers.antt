use Rattle.kilim_weave.proofs.Whole.{form_of}
use Rattle.kilim_weave.proofs.weaving.woven_program.Goals as goal

pub assembled-woven-requires : goal.assembled-woven-requires
assembled-woven-requires c = record {
  plain = c.requires.plain;
  accepted = c.requires.accepted;
  none = c.requires.none;
  form = form_of c.args.typed.now.program c.in-Ok.classes c.in-Ok-woven_methods.methods.methods c.in-Ok-typed_fields.fields c.in-Ok-woven_methods.methods.counted c.in-Ok.ensures c.in-Ok-typed_fields.ensures c.in-Ok-woven_methods.ensures;
}

pub returns : goal.returns
returns c = c.assembled-woven.ensures
