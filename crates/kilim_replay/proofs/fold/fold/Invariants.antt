use Rattle.kilim_replay_thread.specs.Reach.{setting_of}
use Rattle.kilim_replay.specs.Machine.{AreRoomyTasks}
use Rattle.kilim_replay.proofs.Folding.{Done}
use Rattle.kilim_replay.proofs.fold.fold.Given as goal

abbrev pub invariant-loop-at : goal.invariant-loop-at
invariant-loop-at l = record { done : Done (setting_of l.program l.main l.limits) l.entries l.at l.machine; all : AreRoomyTasks l.program l.machine.tasks.items }
