use Rattle.std.proofs.Common.{◌≡◌, drop}
use Rattle.kilim_program.specs.Lengths.{fetched}
use Rattle.kilim_run_interp.proofs.catching.is_virtual.Given as goal

abbrev pub invariant-loop-entry : goal.invariant-loop-entry
invariant-loop-entry l = fetched (drop l.entry-index l.code) l.end l.place ≡ fetched l.fn.code l.fn.end l.fn.place
