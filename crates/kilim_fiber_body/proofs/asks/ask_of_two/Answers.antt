use Rattle.std.proofs.Common.{◌∷◌, [], ap, sym, ◌∙◌}
use Rattle.kilim_program.specs.declared.value.Value.{Value}
use Rattle.kilim_program.specs.declared.value.Value.TheVariants.{Box, Int}
use Rattle.kilim_program.specs.Program.{Program}
use Rattle.kilim_fiber_laws.specs.woven_kin.Nexts.{message_next}
use Rattle.kilim_fiber_body.specs.Body.{behind_at}
use Rattle.kilim_fiber_steps.specs.declared.records.natives.natives.Native.TheVariants as code
use Rattle.kilim_fiber_body.proofs.Asking.{name_by, native_same, put_given, put_made}
use Rattle.kilim_fiber_body.proofs.asks.ask_of_two.Goals as goal

pub put-requires-clause-gives : goal.put-requires-clause-gives
put-requires-clause-gives c = put_given c.args.plain.now c.args.program.now c.args.limits.now c.args.body.now c.args.native c.in-Box.mailbox c.args.first.now c.args.second.now c.in-Put.is c.in-Box.is c.requires.can

pub put-requires-clause-made : goal.put-requires-clause-made
put-requires-clause-made c = put_made c.args.program.now c.args.limits.now (behind_at 0 c.args.body.now) c.args.native c.in-Box.mailbox c.args.first.now c.args.second.now c.in-Put.is c.in-Box.is c.requires.can.made

pub returns-in-Box : goal.returns-in-Box
returns-in-Box c = record {
  comes =
      λ set is-program.
      name_by c.args.body.now.heap c.put.new.body c.put.result _ _ c.put.ensures.comes
      (λ x. ap (λ (p : Program). message_next p c.args.program.now (behind_at x c.args.body.now) c.in-Box.mailbox c.args.second.now) (sym is-program)
      ∙ native_same set c.args.program.now (behind_at x c.args.body.now) c.args.native code.Put (c.args.first.now ∷ c.args.second.now ∷ []) (Box c.in-Box.mailbox ∷ c.args.second.now ∷ []) c.in-Put.is (ap (λ (v : Value). v ∷ c.args.second.now ∷ []) c.in-Box.is));
  roomy = c.put.ensures.roomy;
  counted = c.put.ensures.counted;
  room = c.put.ensures.room;
}

pub returns-in-Box-Int : goal.returns-in-Box-Int
returns-in-Box-Int c = record {
  comes =
      λ set is-program.
      name_by c.args.body.now.heap c.bound.new.body c.bound.result _ _ c.bound.ensures.comes
      (λ x. native_same set c.args.program.now (behind_at x c.args.body.now) c.args.native code.Bound (c.args.first.now ∷ c.args.second.now ∷ []) (Box c.in-Box-Int.mailbox ∷ Int c.in-Box-Int.most ∷ []) c.in-Bound.is (λ i. c.in-Box-Int.is-0 i ∷ c.in-Box-Int.is-1 i ∷ []));
  roomy = c.bound.ensures.roomy;
  counted = c.bound.ensures.counted;
  room = c.bound.ensures.room;
}
