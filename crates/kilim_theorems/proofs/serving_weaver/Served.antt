-- What is woven serves.
use Rattle.std.proofs.Common.{sym, subst}
use Rattle.std.specs.Prelude.{Result, Ok, Err, IfOk}
use Rattle.kilim_program.specs.Program.{Program}
use Rattle.kilim_weave.specs.Weaves.{IsWoven, Weaves}
use Rattle.kilim_weave.specs.declared.fault.WeaveFault.{WeaveFault}
use Rattle.kilim_weave.specs.declared.weaving.Woven.{Woven}
use Rattle.kilim_weave_spec.specs.Form.{WovenForm}
use Rattle.kilim_weave_laws.specs.woven_programs.keeps.Law.{NoneIsTooLong}
use Rattle.kilim_fiber_laws.specs.woven_served.Served.{RunsServe}
use Rattle.kilim_theorems.specs.serving_weaver.Serving.{ServesEachRun}

pub serves : RunsServe → (p : Program) (w : Woven) → Weaves p w → ServesEachRun p w
serves law p w x = record {
  form = x.form;
  typed = x.typed;
  runs = λ set is run. law set run (subst NoneIsTooLong (sym is) x.too_long) w.program w.counted (subst (λ (q : Program). WovenForm q w.program w.counted) (sym is) x.form);
}

pub serves_where : RunsServe → (p : Program) (r : Result Woven WeaveFault) → IsWoven p r → IfOk r (λ w. ServesEachRun p w)
serves_where law p (Ok w) k = serves law p w k.1
serves_where law p (Err fault) k = tt
