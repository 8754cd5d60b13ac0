use Rattle.kilim_replay_command.proofs.Never.{never}
use Rattle.kilim_replay_command.proofs.laws.never_whole_and_reported.Goals as goal

pub returns : goal.returns
returns c = never c.one_program_of.ensures c.never_typed_and_reported.ensures c.texts_differ.ensures c.one_verdict.ensures
