use Rattle.std.proofs.Common.{inl, map}
use Rattle.std.specs.String.{string_bytes}
use Rattle.kilim_stages.proofs.Parts.{refused}
use Rattle.kilim_replay_command.proofs.Handed.{replay_reported, replayed}
use Rattle.kilim_replay_command.proofs.stage.replay_files.Goals as goal

pub returns-in-Ok-clause-done : goal.returns-in-Ok-clause-done
returns-in-Ok-clause-done c =
    replayed c.args.start.now.main.items c.args.start.now.limits (map string_bytes c.args.names.now) c.args.files.now c.args.text.now c.in-Ok.typed.program c.in-Ok.ensures.typed c.replay_text-line.result c.replay_text-line.ensures.done

pub returns-in-Ok-clause-report : goal.returns-in-Ok-clause-report
returns-in-Ok-clause-report c =
    replay_reported c.args.start.now.main.items c.args.start.now.limits (map string_bytes c.args.names.now) c.args.files.now c.args.text.now c.in-Ok.typed.program c.in-Ok.ensures.typed c.replay_text-line.result c.replay_text-line.ensures.report
