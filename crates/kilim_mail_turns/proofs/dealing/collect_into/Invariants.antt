use Rattle.std.specs.Prelude.{◌≡◌, ◌≤◌, length}
use Rattle.std.specs.Vec.{vec_capacity}
use Rattle.kilim_mail_crew.specs.Crew.{Collecting}
use Rattle.kilim_mail_turns.proofs.dealing.collect_into.Given as goal

abbrev pub invariant-loop-s : goal.invariant-loop-s
invariant-loop-s g l = Collecting l.initial.workers.items l.workers.items l.passes.items l.s × (length l.initial.workers.items ≡ l.many) × (l.many ≤ vec_capacity l.passes) × (vec_capacity l.passes ≡ vec_capacity l.initial.passes)
