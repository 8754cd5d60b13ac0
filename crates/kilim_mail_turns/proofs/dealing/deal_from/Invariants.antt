use Rattle.std.specs.Prelude.{◌≡◌, length, map}
use Rattle.std.specs.Vec.{vec_capacity}
use Rattle.kilim_mail_crew.proofs.Deals.{Dealing}
use Rattle.kilim_mail_turns.specs.Rooms.{room_of}
use Rattle.kilim_mail_turns.proofs.dealing.deal_from.Given as goal

abbrev pub invariant-loop-pass : goal.invariant-loop-pass
invariant-loop-pass g l = Dealing l.initial.workers.items l.initial.passes.items l.workers.items l.passes.items × (vec_capacity l.passes ≡ vec_capacity l.initial.passes) × (map room_of l.workers.items ≡ map room_of l.initial.workers.items)

abbrev pub decreases-loop-pass : goal.decreases-loop-pass
decreases-loop-pass g l = length l.passes.items
