use Rattle.std.proofs.Common.{◌≡◌, ◌++◌, drop}
use Rattle.kilim_weave_file_spec.specs.Raw.{code_needs}
use Rattle.kilim_weave_file.proofs.needs.push_code.Given as goal

abbrev pub invariant-loop-entry : goal.invariant-loop-entry
invariant-loop-entry l =
    l.into ++ code_needs l.program l.pool (drop l.entry-index l.code) l.marks l.rest ≡ l.fn.into ++ code_needs l.program l.pool l.code l.counted l.olds
