use Rattle.kilim_run_workers.proofs.many_workers.fn.work_each.for_each_mut+FnMut.call_mut.Goals as goal

pub for_each_mut-requires : goal.for_each_mut-requires
for_each_mut-requires g c = let r = c.requires.1.1.1.1.1 in let s = r.1 in (s.0, (s.1, (s.2, (s.3, (s.4, r.0)))))
