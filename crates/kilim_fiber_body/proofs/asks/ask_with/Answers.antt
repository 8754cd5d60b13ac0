use Rattle.std.proofs.Common.{[], ◌∷◌, arith}
use Rattle.kilim_fiber_steps.specs.records.natives.Natives.{meaning}
use Rattle.kilim_fiber_laws.specs.woven_kin.Nexts.{native_next}
use Rattle.kilim_fiber_body.specs.Body.{behind_at, operands_in}
use Rattle.kilim_fiber_body.proofs.Asking.{any_name, args_same, come_by, made_few, name_by, told_more, told_none, told_one, told_three, told_two, with_args}
use Rattle.kilim_fiber_body.proofs.asks.ask_with.Goals as goal

pub ask_of_none-requires-clause-can : goal.ask_of_none-requires-clause-can
ask_of_none-requires-clause-can c =
    with_args c.args.plain.now c.args.program.now c.args.limits.now c.args.body.now (operands_in c.args.body.now.frames) [] (meaning c.args.native) (told_none (operands_in c.args.body.now.frames) c.args.operands.now c.in-None.is c.requires.operands) c.requires.can

pub returns-in-None : goal.returns-in-None
returns-in-None c = record {
  comes =
      λ set is-program is-limits.
      any_name c.args.body.now.heap (λ x. native_next set c.args.program.now (behind_at x c.args.body.now) (meaning c.args.native) (operands_in c.args.body.now.frames)) c.ask_of_none.new.body c.ask_of_none.result
      (come_by 0 c.ask_of_none.new.body c.ask_of_none.result _ _
      (args_same set c.args.program.now (behind_at 0 c.args.body.now) (meaning c.args.native) (operands_in c.args.body.now.frames) [] (told_none (operands_in c.args.body.now.frames) c.args.operands.now c.in-None.is c.requires.operands))
      (c.ask_of_none.ensures.comes set is-program is-limits));
  roomy = c.ask_of_none.ensures.roomy;
  counted = c.ask_of_none.ensures.counted;
  room = c.ask_of_none.ensures.room;
}

pub ask_of_any_one-requires-clause-can : goal.ask_of_any_one-requires-clause-can
ask_of_any_one-requires-clause-can c =
    with_args c.args.plain.now c.args.program.now c.args.limits.now c.args.body.now (operands_in c.args.body.now.frames) (c.in-One.value ∷ []) (meaning c.args.native) (told_one (operands_in c.args.body.now.frames) c.args.operands.now c.in-One.value c.in-One.is c.requires.operands) c.requires.can

pub returns-in-One : goal.returns-in-One
returns-in-One c = record {
  comes =
      λ set is-program is-limits.
      name_by c.args.body.now.heap c.ask_of_any_one.new.body c.ask_of_any_one.result _ _ (c.ask_of_any_one.ensures.comes set is-program is-limits)
      (λ x. args_same set c.args.program.now (behind_at x c.args.body.now) (meaning c.args.native) (operands_in c.args.body.now.frames) (c.in-One.value ∷ []) (told_one (operands_in c.args.body.now.frames) c.args.operands.now c.in-One.value c.in-One.is c.requires.operands));
  roomy = c.ask_of_any_one.ensures.roomy;
  counted = c.ask_of_any_one.ensures.counted;
  room = c.ask_of_any_one.ensures.room;
}

pub ask_of_any_two-requires-clause-can : goal.ask_of_any_two-requires-clause-can
ask_of_any_two-requires-clause-can c =
    with_args c.args.plain.now c.args.program.now c.args.limits.now c.args.body.now (operands_in c.args.body.now.frames) (c.in-Two.first ∷ c.in-Two.second ∷ []) (meaning c.args.native) (told_two (operands_in c.args.body.now.frames) c.args.operands.now c.in-Two.first c.in-Two.second c.in-Two.is c.requires.operands) c.requires.can

pub returns-in-Two : goal.returns-in-Two
returns-in-Two c = record {
  comes =
      λ set is-program is-limits.
      name_by c.args.body.now.heap c.ask_of_any_two.new.body c.ask_of_any_two.result _ _ (c.ask_of_any_two.ensures.comes set is-program is-limits)
      (λ x. args_same set c.args.program.now (behind_at x c.args.body.now) (meaning c.args.native) (operands_in c.args.body.now.frames) (c.in-Two.first ∷ c.in-Two.second ∷ []) (told_two (operands_in c.args.body.now.frames) c.args.operands.now c.in-Two.first c.in-Two.second c.in-Two.is c.requires.operands));
  roomy = c.ask_of_any_two.ensures.roomy;
  counted = c.ask_of_any_two.ensures.counted;
  room = c.ask_of_any_two.ensures.room;
}

pub ask_of_three-requires-clause-can : goal.ask_of_three-requires-clause-can
ask_of_three-requires-clause-can c =
    with_args c.args.plain.now c.args.program.now c.args.limits.now c.args.body.now (operands_in c.args.body.now.frames) (c.in-Three.first ∷ c.in-Three.second ∷ c.in-Three.third ∷ []) (meaning c.args.native) (told_three (operands_in c.args.body.now.frames) c.args.operands.now c.in-Three.first c.in-Three.second c.in-Three.third c.in-Three.is c.requires.operands) c.requires.can

pub returns-in-Three : goal.returns-in-Three
returns-in-Three c = record {
  comes =
      λ set is-program is-limits.
      name_by c.args.body.now.heap c.ask_of_three.new.body c.ask_of_three.result _ _ (c.ask_of_three.ensures.comes set is-program is-limits)
      (λ x. args_same set c.args.program.now (behind_at x c.args.body.now) (meaning c.args.native) (operands_in c.args.body.now.frames) (c.in-Three.first ∷ c.in-Three.second ∷ c.in-Three.third ∷ []) (told_three (operands_in c.args.body.now.frames) c.args.operands.now c.in-Three.first c.in-Three.second c.in-Three.third c.in-Three.is c.requires.operands));
  roomy = c.ask_of_three.ensures.roomy;
  counted = c.ask_of_three.ensures.counted;
  room = c.ask_of_three.ensures.room;
}

pub unreachable-requires : goal.unreachable-requires
unreachable-requires c =
    let args = operands_in c.args.body.now.frames in
    let made = c.requires.can.made in
    let few = made_few made.set c.args.program.now (behind_at 0 c.args.body.now) c.args.native args c.requires.other made.never in
    let many = told_more args c.args.operands.now c.in-More.is c.requires.operands in
    omega (arith, few, many)
