use Rattle.std.proofs.Common.{refl}
use Rattle.kilim_weave_pieces.specs.Meant.{meant}
use Rattle.kilim_weave_code.proofs.Showing.{listed_there, shown}
use Rattle.kilim_weave_code.proofs.frames.frame_at.Goals as goal

pub returns : goal.returns
returns c e is = shown c.listed_frames_show.ensures (meant c.args.plan.now) c.args.plan.now.program.now c.args.plan.now.method.now c.args.plan.now.frames.now c.args.at c.frame_of.result.now e refl refl c.requires.ready.rising c.requires.ready.listed c.frame_of.ensures is

pub frame_of-requires : goal.frame_of-requires
frame_of-requires c = listed_there c.args.plan.now.program.now c.args.plan.now.method.now c.args.plan.now.frames.now c.args.at c.requires.ready.listed c.requires.at
