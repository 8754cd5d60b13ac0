use Rattle.std.proofs.Common.{[], ◌∷◌, ap, sym}
use Rattle.kilim_program.specs.declared.value.Value.{Value}
use Rattle.kilim_fiber_laws.specs.woven_kin.Nexts.{native_next}
use Rattle.kilim_fiber_body.specs.Body.{behind_at}
use Rattle.kilim_fiber_steps.specs.records.natives.Natives.{meaning}
use Rattle.kilim_fiber_body.proofs.Asking.{any_name, come_by}
use Rattle.kilim_fiber_body.proofs.asks.ask_of_any_one.Goals as goal

pub returns-in-Fiber : goal.returns-in-Fiber
returns-in-Fiber c = record {
  comes =
      λ set is-program is-limits.
      any_name c.args.body.now.heap (λ x. native_next set c.args.program.now (behind_at x c.args.body.now) (meaning c.args.native) (c.args.value.now ∷ [])) c.ask_of_fiber.new.body c.ask_of_fiber.result
      (come_by 0 c.ask_of_fiber.new.body c.ask_of_fiber.result _ _ (ap (λ (v : Value). native_next set c.args.program.now (behind_at 0 c.args.body.now) (meaning c.args.native) (v ∷ [])) (sym c.in-Fiber.is)) (c.ask_of_fiber.ensures.comes set is-program));
  roomy = c.ask_of_fiber.ensures.roomy;
  counted = c.ask_of_fiber.ensures.counted;
  room = c.ask_of_fiber.ensures.room;
}
