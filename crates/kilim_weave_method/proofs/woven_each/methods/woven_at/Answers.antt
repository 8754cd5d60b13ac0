use Rattle.std.proofs.Common.{List, subst, sym}
use Rattle.kilim_program.specs.declared.verified.Frame.{Frame}
use Rattle.kilim_weave_pieces.specs.Listed.{Listed}
use Rattle.kilim_weave_method.proofs.woven_each.methods.woven_at.Goals as goal

pub woven_each-requires : goal.woven_each-requires
woven_each-requires c = record {
  there = c.requires.there;
  listed = λ code. subst (λ (fs : List Frame). Listed c.args.program.now c.args.method.now fs) (sym c.as_slice.ensures) (c.frames_of-found.ensures code);
}

pub returns : goal.returns
returns c = c.woven_each.ensures
