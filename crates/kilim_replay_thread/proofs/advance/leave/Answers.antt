use Rattle.std.proofs.Common.{Option, Some, ap, sym, refl, ◌∙◌}
use Rattle.kilim_program.specs.Members.{execute_of}
use Rattle.kilim_run_state.specs.declared.frames.frames.Frames.{Frames}
use Rattle.kilim_run_model.specs.State.{begun_on}
use Rattle.kilim_replay_thread.specs.Live.{calls_in, kept_for, lone_at}
use Rattle.kilim_replay_thread.proofs.Asking.{leaves_done, leaves_none}
use Rattle.kilim_replay_thread.proofs.Beginning.{begins_with}
use Rattle.kilim_replay_thread.proofs.advance.leave.Goals as goal

pub returns-in_default-clause-comes : goal.returns-in_default-clause-comes
returns-in_default-clause-comes c = λ set is-program is-main.
    (leaves_done set (lone_at c.args.task c.args.world.now c.args.live.now) c.args.live.now.done c.args.live.now.boxes (kept_for c.args.task c.args.world.now.kept) (sym c.kept_for.ensures ∙ c.in_default.is), refl)

pub returns-in-None-clause-comes : goal.returns-in-None-clause-comes
returns-in-None-clause-comes c = λ set is-program is-main. (
  leaves_none set c.args.program.now c.args.main (lone_at c.args.task c.args.world.now c.args.live.now) c.args.live.now.done c.args.live.now.boxes c.in-Some.name (kept_for c.args.task c.args.world.now.kept) is-program is-main (sym c.kept_for.ensures ∙ c.in-Some.is)
      (ap (λ m. begun_on c.args.program.now m c.in-Some.name) (sym c.execute_of.ensures) ∙ (c.in-Ok.ensures.frames ∙ ap (λ (o : Option Frames). Some (calls_in o)) c.in-None.is)),
  refl,
)

pub begun_on-requires : goal.begun_on-requires
begun_on-requires c = begins_with c.args.program.now c.execute_of.result (execute_of c.args.program.now c.args.main) c.in-Some.name c.execute_of.ensures (c.requires.begins c.in-Some.name)
