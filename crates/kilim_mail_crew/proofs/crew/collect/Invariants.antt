use Rattle.std.specs.Prelude.{◌≡◌, ◌≤◌, length}
use Rattle.std.specs.Vec.{vec_capacity}
use Rattle.kilim_mail_crew.specs.Crew.{Collecting}
use Rattle.kilim_mail_crew.proofs.Deals.{one_collected}
use Rattle.kilim_mail_crew.proofs.crew.collect.Given as goal

abbrev pub invariant-loop-s : goal.invariant-loop-s
invariant-loop-s g l = Collecting l.fn.workers.items l.workers.items l.passes.items l.s × (length l.fn.workers.items ≡ l.many) × (l.many ≤ vec_capacity l.passes)
