use Rattle.std.proofs.Common.{◌∷◌, []}
use Rattle.kilim_program.specs.declared.value.Value.TheVariants.{Fiber}
use Rattle.kilim_fiber_laws.specs.woven_kin.Nexts.{native_next}
use Rattle.std.proofs.Common.{Some, ap, sym, subst}
use Rattle.kilim_fiber_body.specs.Body.{behind_at}
use Rattle.kilim_fiber_body.specs.Comes.{Comes, IsMade, gives_result}
use Rattle.kilim_fiber_steps.specs.records.natives.Natives.{meaning}
use Rattle.kilim_fiber_steps.specs.declared.records.natives.natives.Native.{Native}
use Rattle.kilim_fiber_body.proofs.asks.ask_with_fiber.Goals as goal

pub returns-in-Get-default-clause-comes : goal.returns-in-Get-default-clause-comes
returns-in-Get-default-clause-comes c = λ set is-program is-limits.
    subst (λ (n : Native). Comes 0 (native_next set c.args.program.now (behind_at 0 c.args.body.now) (meaning n) (c.args.value.now ∷ Fiber ∷ [])) c.args.body.now c.takes.result) (sym c.in-Get-default.is-0)
    (c.takes.ensures.comes set is-limits)

pub takes-requires-clause-room : goal.takes-requires-clause-room
takes-requires-clause-room c = c.requires.can.room (ap (λ (n : Native). gives_result (Some (meaning n))) c.in-Get-default.is-0)

pub takes-requires-clause-made : goal.takes-requires-clause-made
takes-requires-clause-made c = subst (λ (n : Native). IsMade c.args.program.now c.args.limits.now (behind_at 0 c.args.body.now) (c.args.value.now ∷ Fiber ∷ []) (Some (meaning n))) c.in-Get-default.is-0 c.requires.can.made
