use Rattle.std.proofs.Common.{List, sym, subst}
use Rattle.kilim_replay.specs.Machine.{AreRoomyTasks}
use Rattle.kilim_replay.specs.declared.machine.Task.{Task}
use Rattle.kilim_replay.specs.declared.machine.Task.TheVariants as a_task
use Rattle.kilim_replay.proofs.Folding.{roomy_set}
use Rattle.kilim_replay.proofs.machine.pass_with.Goals as goal

pub returns-clause-stands : goal.returns-clause-stands
returns-clause-stands c = record { live = c.go_on_with.new.live; is = c.put_back.ensures; behind = c.go_on_with.ensures.thread }

pub returns-clause-all : goal.returns-clause-all
returns-clause-all c = subst (λ (ts : List Task). AreRoomyTasks c.args.program.now ts) (sym c.put_back.ensures) (roomy_set c.args.program.now c.args.tasks.now.items c.args.task (a_task.Live c.go_on_with.new.live) c.requires.all c.go_on_with.ensures.roomy)
