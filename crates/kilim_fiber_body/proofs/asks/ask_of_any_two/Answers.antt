use Rattle.std.proofs.Common.{[], ◌∷◌, ap, sym}
use Rattle.kilim_program.specs.declared.value.Value.{Value}
use Rattle.kilim_fiber_laws.specs.woven_kin.Nexts.{native_next}
use Rattle.kilim_fiber_body.specs.Body.{behind_at}
use Rattle.kilim_fiber_steps.specs.records.natives.Natives.{meaning}
use Rattle.kilim_fiber_body.proofs.Asking.{any_name, come_by}
use Rattle.kilim_fiber_body.proofs.asks.ask_of_any_two.Goals as goal

pub returns-in-Fiber : goal.returns-in-Fiber
returns-in-Fiber c = record {
  comes =
      λ set is-program is-limits.
      any_name c.args.body.now.heap (λ x. native_next set c.args.program.now (behind_at x c.args.body.now) (meaning c.args.native) (c.args.first.now ∷ c.args.second.now ∷ [])) c.ask_with_fiber.new.body c.ask_with_fiber.result
      (come_by 0 c.ask_with_fiber.new.body c.ask_with_fiber.result _ _ (ap (λ (v : Value). native_next set c.args.program.now (behind_at 0 c.args.body.now) (meaning c.args.native) (c.args.first.now ∷ v ∷ [])) (sym c.in-Fiber.is))
      (c.ask_with_fiber.ensures.comes set is-program is-limits));
  roomy = c.ask_with_fiber.ensures.roomy;
  counted = c.ask_with_fiber.ensures.counted;
  room = c.ask_with_fiber.ensures.room;
}

pub returns-in_default : goal.returns-in_default
returns-in_default c = record { comes = λ set is-program is-limits. c.ask_of_two.ensures.comes set is-program; room = c.ask_of_two.ensures.room; roomy = c.ask_of_two.ensures.roomy; counted = c.ask_of_two.ensures.counted }
