use Rattle.std.proofs.Common.{Option, Some, refl, subst, sym}
use Rattle.kilim_run_state.specs.declared.frames.frames.Frames.{Frames}
use Rattle.kilim_run_machine.specs.Natives.{native_of}
use Rattle.kilim_fiber_steps.specs.records.natives.Natives.{meaning}
use Rattle.kilim_replay_thread.specs.Live.{behind_at, operands_in}
use Rattle.kilim_replay_thread.specs.Operands.{AreCopies}
use Rattle.kilim_replay_thread.proofs.Asking.{asked_same, come_by, known_by, suits_as}
use Rattle.kilim_replay_thread.proofs.asks.ask.Goals as goal

pub ask_with-asked-requires-clause-operands : goal.ask_with-asked-requires-clause-operands
ask_with-asked-requires-clause-operands c = subst (λ (o : Option Frames). AreCopies (operands_in o) c.in-Ok.operands) (sym c.in-Some-frames.is) c.in-Ok.ensures

pub ask_with-asked-requires-clause-can : goal.ask_with-asked-requires-clause-can
ask_with-asked-requires-clause-can c = known_by c.args.program.now c.args.world.now c.args.live.now (operands_in c.args.live.now.frames) (native_of c.args.program.now c.args.method) (meaning c.in-Some.native) c.in-Some.ensures.some c.requires.can

pub returns-clause-suits : goal.returns-clause-suits
returns-clause-suits c =
    suits_as c.ask_with-asked.result (native_of c.args.program.now c.args.method) (Some (meaning c.in-Some.native)) (operands_in c.args.live.now.frames) (operands_in c.args.live.now.frames) c.in-Some.ensures.some refl c.ask_with-asked.ensures.suits

pub returns-clause-comes : goal.returns-clause-comes
returns-clause-comes c = λ set is-program is-limits.
    come_by c.args.task c.args.world.now c.args.live.now c.ask_with-asked.new.world c.ask_with-asked.new.live c.ask_with-asked.result _ _
    (asked_same set (behind_at c.args.task c.args.world.now c.args.live.now) (operands_in c.args.live.now.frames) (native_of c.args.program.now c.args.method) (meaning c.in-Some.native) c.in-Some.ensures.some)
    (c.ask_with-asked.ensures.comes set is-program is-limits)
