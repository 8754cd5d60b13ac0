use Rattle.std.proofs.Common.{◌≡◌, ◌++◌, ◌-◌}
use Rattle.kilim_weave_spec.specs.Woven.{kept_local, slots_from}
use Rattle.kilim_weave_pieces.specs.Meant.{meant}
use Rattle.kilim_weave_code.proofs.frames.kept_locals.Given as goal

abbrev pub invariant-loop-slot : goal.invariant-loop-slot
invariant-loop-slot l = l.locals.items ++ slots_from l.slot (l.fn.plan.fiber - l.slot) (kept_local (meant l.fn.plan) l.fn.place) ≡ slots_from 0 l.fn.plan.fiber (kept_local (meant l.fn.plan) l.fn.place)
