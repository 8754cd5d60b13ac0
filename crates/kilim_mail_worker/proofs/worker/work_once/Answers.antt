use Rattle.std.proofs.Common.{◌≡◌, true, false, sym, ◌∙◌}
use Rattle.kilim_mail_worker.proofs.Handing.{has_still, keeps_then}
use Rattle.kilim_mail_worker.proofs.worker.work_once.Goals as goal

pub lend-requires : goal.lend-requires
lend-requires g c = record { has = c.requires.may.has; works = c.requires.may.works }

pub run_task-requires-clause-has : goal.run_task-requires-clause-has
run_task-requires-clause-has g c κs _ = has_still c.args.turns.now c.args.worker.now c.lend.new.worker c.requires.may.has c.lend.ensures.passes

pub returns-in-Ok : goal.returns-in-Ok
returns-in-Ok g c = record {
  worked = record { passes = keeps_then c.args.turns.now c.args.worker.now c.lend.new.worker c.run_task.new.worker c.lend.ensures.passes c.run_task.ensures.passes; works = λ _. c.in-Ok.ensures.works };
  more = λ _. c.in-Ok.ensures.works;
}

pub give_up-requires : goal.give_up-requires
give_up-requires g c = record {
  has = has_still c.args.turns.now c.args.worker.now c.run_task.new.worker c.requires.may.has (keeps_then c.args.turns.now c.args.worker.now c.lend.new.worker c.run_task.new.worker c.lend.ensures.passes c.run_task.ensures.passes);
}

pub returns-in-Err : goal.returns-in-Err
returns-in-Err g c = record {
  worked = record {
    passes = keeps_then c.args.turns.now c.args.worker.now c.run_task.new.worker c.give_up.new.worker (keeps_then c.args.turns.now c.args.worker.now c.lend.new.worker c.run_task.new.worker c.lend.ensures.passes c.run_task.ensures.passes) c.give_up.ensures.passes;
    works = λ e. absurd (let h : true ≡ false = sym c.give_up.ensures.failed ∙ e in cc);
  };
  more = λ e. absurd (cc);
}

pub rest-requires : goal.rest-requires
rest-requires g c = record { has = has_still c.args.turns.now c.args.worker.now c.lend.new.worker c.requires.may.has c.lend.ensures.passes }

pub returns-in-Idle : goal.returns-in-Idle
returns-in-Idle g c = record {
  worked = record { passes = keeps_then c.args.turns.now c.args.worker.now c.lend.new.worker c.rest.new.worker c.lend.ensures.passes c.rest.ensures.passes; works = λ _. c.rest.ensures.works c.in-Idle.ensures.works };
  more = λ _. c.rest.ensures.works c.in-Idle.ensures.works;
}

pub returns-in-Quiet : goal.returns-in-Quiet
returns-in-Quiet g c = record { worked = record { passes = c.lend.ensures.passes; works = λ _. c.in-Quiet.ensures.works }; more = λ e. absurd (cc) }

pub returns-in-Stopped : goal.returns-in-Stopped
returns-in-Stopped g c = record { worked = record { passes = c.lend.ensures.passes; works = λ _. c.in-Stopped.ensures.works }; more = λ e. absurd (cc) }
