use Rattle.std.proofs.Common.{ℕ, Option, sym, subst}
use Rattle.kilim_fiber_laws.specs.woven_kin.Nexts.{finish_next}
use Rattle.kilim_fiber_body.specs.Body.{standing_at}
use Rattle.kilim_fiber_body.specs.Comes.{Comes}
use Rattle.kilim_fiber_body.proofs.body.leave.Goals as goal

pub returns-in_default-clause-comes : goal.returns-in_default-clause-comes
returns-in_default-clause-comes c = λ set is-main.
    subst (λ (z : Option ℕ). Comes 0 (finish_next set c.args.program.now (standing_at 0 c.args.body.now) z) c.left.new.body c.left.result) (sym c.in_default.is) (c.left.ensures.comes set)
