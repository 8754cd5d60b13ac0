use Rattle.std.proofs.Common.{◌∙◌}
use Rattle.kilim_program.specs.Members.{execute_of}
use Rattle.kilim_replay_thread.proofs.Beginning.{begins_with, class_begins, other_none}
use Rattle.kilim_replay_thread.proofs.begin.task_frames.Goals as goal

pub unreachable-requires : goal.unreachable-requires
unreachable-requires c = c.requires.begins (other_none c.args.program.now c.args.heap.now c.args.name c.object-object.result.now c.object-object.ensures c.in_default.not-Class)

pub begun_on-requires : goal.begun_on-requires
begun_on-requires c =
    begins_with c.args.program.now c.execute_of.result (execute_of c.args.program.now c.in-Class.class) c.args.name c.execute_of.ensures
    (λ e. c.requires.begins (class_begins c.args.program.now c.args.heap.now c.args.name c.object-object.result.now c.in-Class.class c.object-object.ensures c.in-Class.is ∙ e))
