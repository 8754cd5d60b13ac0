use Rattle.kilim_stages.proofs.Apart.{apart}
use Rattle.kilim_stages.proofs.laws.accepted_runs_apart.Goals as goal

pub returns : goal.returns
returns c = apart c.linked_is_plain.ensures c.mains_begin.ensures c.accepted_is_kept.ensures c.none_shares.ensures c.plays_replay.ensures c.one_heap_is_many.ensures
