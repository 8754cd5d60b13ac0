use Rattle.std.proofs.Common.{◌≡◌, drop}
use Rattle.kilim_run_machine.specs.Does.{match_target}
use Rattle.kilim_run_rows.proofs.jumps.match_in.Given as goal

abbrev pub invariant-loop-entry : goal.invariant-loop-entry
invariant-loop-entry l = match_target (drop l.entry-index l.matches) l.key l.default ≡ match_target l.fn.matches l.fn.key l.fn.default
