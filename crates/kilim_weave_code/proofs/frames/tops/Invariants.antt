use Rattle.std.proofs.Common.{◌≡◌, ◌++◌, ◌-◌}
use Rattle.kilim_program.specs.declared.verified.VType.TheVariants.{Top}
use Rattle.kilim_weave_spec.specs.Woven.{slots_from}
use Rattle.kilim_weave_code.proofs.frames.tops.Given as goal

abbrev pub invariant-loop : goal.invariant-loop
invariant-loop l = l.locals.items ++ slots_from l.counter (l.fn.count - l.counter) (λ slot. Top) ≡ slots_from 0 l.fn.count (λ slot. Top)
