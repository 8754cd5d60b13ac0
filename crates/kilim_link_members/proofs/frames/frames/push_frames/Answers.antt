use Rattle.std.proofs.Common.{◌++◌, refl}
use Rattle.kilim_link_members.proofs.frames.Loops.{copied, all_in}
use Rattle.kilim_link_members.proofs.frames.frames.push_frames.Goals as goal

pub loop-frame-preserved : goal.loop-frame-preserved
loop-frame-preserved c = copied c.args.into.now c.loop-frame.into c.push.new.self c.args.frames.now c.loop-frame.frame-index c.frame-item.result _ c.in-Ok.copy c.loop-frame-test.true c.frame-item.is c.loop-frame.invariant c.in-Ok.ensures c.in-Ok-push.ensures.ok

pub returns : goal.returns
returns c = all_in (λ fs. c.args.into.now ++ fs) c.loop-frame.into c.args.frames.now c.args.frames.now c.loop-frame.frame-index refl c.loop-frame-test.false c.loop-frame.invariant
