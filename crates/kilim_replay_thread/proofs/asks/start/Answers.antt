use Rattle.std.proofs.Common.{[], ap, refl, sym, ◌∙◌}
use Rattle.kilim_run_model.specs.Lone.{start_next}
use Rattle.kilim_replay_thread.specs.Live.{behind_at}
use Rattle.kilim_replay_thread.proofs.Asking.{unchanged}
use Rattle.kilim_replay_thread.proofs.asks.start.Goals as goal

pub returns-in-Ok-Some-clause-comes : goal.returns-in-Ok-Some-clause-comes
returns-in-Ok-Some-clause-comes c = (
  ap (start_next (behind_at c.args.task c.args.world.now c.args.live.now) c.args.root) (sym c.in-Ok-Some.ensures ∙ c.in-Ok-Some.field-0-is),
  unchanged c.args.world.now c.args.live.now,
)

pub returns-in-Ok-None-clause-comes : goal.returns-in-Ok-None-clause-comes
returns-in-Ok-None-clause-comes c = (
  ap (start_next (behind_at c.args.task c.args.world.now c.args.live.now) c.args.root) (sym c.in-Ok-None.ensures ∙ c.in-Ok-None.field-0-is),
  refl,
)

pub returns-in-Ok-Some-clause-room : goal.returns-in-Ok-Some-clause-room
returns-in-Ok-Some-clause-room c = (c.requires.frames, c.requires.shown.there [] c.args.root [] refl tt, c.requires.begins)
