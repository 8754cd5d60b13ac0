use Rattle.kilim_fiber_body.proofs.Rewinding.{executes_with}
use Rattle.kilim_fiber_body.proofs.body.execute_frames.Goals as goal

pub returns-clause-frames : goal.returns-clause-frames
returns-clause-frames c = executes_with c.args.code.now.program c.args.heap.now c.args.receiver c.execute_for-method.result c.in-Ok.args.items c.frames_with.result c.execute_for-method.ensures c.in-Ok.ensures c.frames_with.ensures.frames

pub returns-clause-roomy : goal.returns-clause-roomy
returns-clause-roomy c = c.frames_with.ensures.roomy
