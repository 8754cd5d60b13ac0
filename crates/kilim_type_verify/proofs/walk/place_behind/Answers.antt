use Rattle.std.proofs.Common.{◌+◌}
use Rattle.kilim_type_verify.proofs.Walked.{place_next}
use Rattle.kilim_type_verify.proofs.walk.place_behind.Goals as goal

pub returns-then-index-code : goal.returns-then-index-code
returns-then-index-code c = place_next c.args.code.now (c.args.index + 1) c.code_at-entry.result.now c.code_at-entry.ensures
