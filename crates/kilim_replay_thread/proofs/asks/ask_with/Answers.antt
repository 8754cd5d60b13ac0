use Rattle.std.proofs.Common.{[], ◌∷◌, Some, arith, refl}
use Rattle.kilim_fiber_steps.specs.records.natives.Natives.{meaning}
use Rattle.kilim_replay_thread.specs.Live.{behind_at, operands_in}
use Rattle.kilim_replay_thread.proofs.Asking.{args_same, come_by, made_few, suits_as, told_more, told_none, told_one, told_two, with_args}
use Rattle.kilim_replay_thread.proofs.asks.ask_with.Goals as goal

pub ask_of_none-requires-clause-can : goal.ask_of_none-requires-clause-can
ask_of_none-requires-clause-can c =
    with_args c.args.program.now c.args.world.now c.args.live.now (operands_in c.args.live.now.frames) [] (meaning c.args.native) (told_none (operands_in c.args.live.now.frames) c.args.operands.now c.in-None.is c.requires.operands) c.requires.can

pub returns-in-None-clause-comes : goal.returns-in-None-clause-comes
returns-in-None-clause-comes c = λ set is-program is-limits.
    come_by c.args.task c.args.world.now c.args.live.now c.args.world.now c.ask_of_none.new.live c.ask_of_none.result _ _
    (args_same set (behind_at c.args.task c.args.world.now c.args.live.now) (meaning c.args.native) (operands_in c.args.live.now.frames) [] (told_none (operands_in c.args.live.now.frames) c.args.operands.now c.in-None.is c.requires.operands))
    (c.ask_of_none.ensures.comes set is-program is-limits)

pub ask_of_one-requires-clause-can : goal.ask_of_one-requires-clause-can
ask_of_one-requires-clause-can c =
    with_args c.args.program.now c.args.world.now c.args.live.now (operands_in c.args.live.now.frames) (c.in-One.value ∷ []) (meaning c.args.native) (told_one (operands_in c.args.live.now.frames) c.args.operands.now c.in-One.value c.in-One.is c.requires.operands) c.requires.can

pub returns-in-One-clause-comes : goal.returns-in-One-clause-comes
returns-in-One-clause-comes c = λ set is-program is-limits.
    come_by c.args.task c.args.world.now c.args.live.now c.ask_of_one.new.world c.ask_of_one.new.live c.ask_of_one.result _ _
    (args_same set (behind_at c.args.task c.args.world.now c.args.live.now) (meaning c.args.native) (operands_in c.args.live.now.frames) (c.in-One.value ∷ []) (told_one (operands_in c.args.live.now.frames) c.args.operands.now c.in-One.value c.in-One.is c.requires.operands))
    (c.ask_of_one.ensures.comes set is-program is-limits)

pub ask_of_two-requires-clause-can : goal.ask_of_two-requires-clause-can
ask_of_two-requires-clause-can c =
    with_args c.args.program.now c.args.world.now c.args.live.now (operands_in c.args.live.now.frames) (c.in-Two.first ∷ c.in-Two.second ∷ []) (meaning c.args.native) (told_two (operands_in c.args.live.now.frames) c.args.operands.now c.in-Two.first c.in-Two.second c.in-Two.is c.requires.operands) c.requires.can

pub returns-in-Two-clause-comes : goal.returns-in-Two-clause-comes
returns-in-Two-clause-comes c = λ set is-program is-limits.
    come_by c.args.task c.args.world.now c.args.live.now c.ask_of_two.new.world c.ask_of_two.new.live c.ask_of_two.result _ _
    (args_same set (behind_at c.args.task c.args.world.now c.args.live.now) (meaning c.args.native) (operands_in c.args.live.now.frames) (c.in-Two.first ∷ c.in-Two.second ∷ []) (told_two (operands_in c.args.live.now.frames) c.args.operands.now c.in-Two.first c.in-Two.second c.in-Two.is c.requires.operands))
    (c.ask_of_two.ensures.comes set is-program)

pub returns-in-None-clause-suits : goal.returns-in-None-clause-suits
returns-in-None-clause-suits c =
    suits_as c.ask_of_none.result (Some (meaning c.args.native)) (Some (meaning c.args.native)) (operands_in c.args.live.now.frames) [] refl (told_none (operands_in c.args.live.now.frames) c.args.operands.now c.in-None.is c.requires.operands) c.ask_of_none.ensures.suits

pub returns-in-One-clause-suits : goal.returns-in-One-clause-suits
returns-in-One-clause-suits c =
    suits_as c.ask_of_one.result (Some (meaning c.args.native)) (Some (meaning c.args.native)) (operands_in c.args.live.now.frames) (c.in-One.value ∷ []) refl (told_one (operands_in c.args.live.now.frames) c.args.operands.now c.in-One.value c.in-One.is c.requires.operands) c.ask_of_one.ensures.suits

pub returns-in-Two-clause-suits : goal.returns-in-Two-clause-suits
returns-in-Two-clause-suits c =
    suits_as c.ask_of_two.result (Some (meaning c.args.native)) (Some (meaning c.args.native)) (operands_in c.args.live.now.frames) (c.in-Two.first ∷ c.in-Two.second ∷ []) refl (told_two (operands_in c.args.live.now.frames) c.args.operands.now c.in-Two.first c.in-Two.second c.in-Two.is c.requires.operands) c.ask_of_two.ensures.suits

pub unreachable-requires : goal.unreachable-requires
unreachable-requires c =
    let args = operands_in c.args.live.now.frames in
    let made = c.requires.can.made in
    let few = made_few made.set made.after c.args.native args made.never in
    let many = told_more args c.args.operands.now c.in-More.is c.requires.operands in
    omega (arith, few, many)
