use Rattle.std.proofs.Common.{◌≤◌}
use Rattle.kilim_fiber_body.specs.Body.{standing_at, RoomyIn}
use Rattle.kilim_fiber_body.specs.Reach.{GoesTo}
use Rattle.kilim_fiber_body.specs.Steps.{setting_of}
use Rattle.kilim_fiber_body.proofs.legs.reach.Given as goal

abbrev pub invariant-loop : goal.invariant-loop
invariant-loop l = record {
  goes : GoesTo (setting_of l.code l.limits l.main) l.code.program l.code.counted l.task (standing_at 0 l.fn.body) (standing_at 0 l.body);
  roomy : RoomyIn l.code.program l.body.frames;
  counted : l.fn.body.count ≤ l.body.count;
  most : l.body.count ≤ l.limits.steps;
}
