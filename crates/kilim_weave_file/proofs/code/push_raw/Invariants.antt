use Rattle.std.proofs.Common.{◌≡◌, ◌++◌, drop}
use Rattle.kilim_weave_file_spec.specs.Raw.{raw_code}
use Rattle.kilim_weave_file.proofs.code.push_raw.Given as goal

abbrev pub invariant-loop-entry : goal.invariant-loop-entry
invariant-loop-entry l = l.into ++ raw_code l.program l.old l.pool (drop l.entry-index l.code) l.marks l.rest ≡ l.fn.into ++ raw_code l.program l.old l.pool l.code l.counted l.olds
