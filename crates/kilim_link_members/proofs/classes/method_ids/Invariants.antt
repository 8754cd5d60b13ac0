use Rattle.std.proofs.Common.{◌≡◌, ◌+◌, map}
use Rattle.std.specs.List.{range_with_len}
use Rattle.kilim_program.specs.BuiltIn.{method_id}
use Rattle.kilim_link_members.proofs.classes.method_ids.Given as goal

abbrev pub invariant-loop : goal.invariant-loop
invariant-loop l = (l.number ≡ l.first + l.counter) × (l.ids ≡ map method_id (range_with_len l.first l.counter))
