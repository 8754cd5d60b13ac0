use Rattle.kilim_run_workers.proofs.many_workers.run_of.Goals as goal

pub boot-requires : goal.boot-requires
boot-requires g c = (c.requires.some.0, (c.requires.run c.requires.some.0 c.requires.some.1).run)

pub new-requires : goal.new-requires
new-requires g c = record {
  some = c.requires.workers.0;
  few = c.requires.workers.1;
  task = c.in-Ok.ensures.task;
  course = c.in-Ok.ensures.course;
  stands = λ set is. c.in-Ok.ensures.stands set (c.requires.run set is).run;
  none = c.requires.none;
}

pub run_rounds-requires-clause-may : goal.run_rounds-requires-clause-may
run_rounds-requires-clause-may g c κs _ = record {
  workers = c.requires.workers;
  some = c.requires.some;
  run = λ set is. let r = c.requires.run set is in (r.run.served, r.is-limits);
  free = c.in-Ok-new.ensures;
}
