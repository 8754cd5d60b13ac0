use Rattle.std.proofs.Common.{map, ◌∙◌}
use Rattle.std.specs.String.{string_bytes}
use Rattle.kilim_command.proofs.grammar.Mapped.{replay_refused, replay_taken, replay_same}
use Rattle.kilim_command.proofs.grammar.Split.{few_files}
use Rattle.kilim_command.proofs.grammar.asked.replay_of.Goals as goal

pub returns-then-not-can_replay-clause-request : goal.returns-then-not-can_replay-clause-request
returns-then-not-can_replay-clause-request c =
    replay_refused (map string_bytes c.args.options.now) (map string_bytes c.args.files.now) (map string_bytes c.args.behind.now) c.can_replay.result c.can_replay.ensures.can c.if-not-can_replay.true

pub returns-clause-request : goal.returns-clause-request
returns-clause-request c =
    replay_taken (map string_bytes c.args.options.now) (map string_bytes c.args.files.now) (map string_bytes c.args.behind.now) c.can_replay.result _ c.can_replay.ensures.can c.if-not-can_replay.false
    (c.replay_with.ensures.request ∙ replay_same (map string_bytes c.args.files.now) _ _ _ _ _ _ _ _ c.text_in-main.ensures c.journal_in-journal.ensures c.number_or-steps.ensures.number c.args_in.ensures)

pub returns-clause-few : goal.returns-clause-few
returns-clause-few c = few_files string_bytes c.replay_with.result c.args.files.now (c.can_replay.ensures.few c.if-not-can_replay.false) c.replay_with.ensures.files
