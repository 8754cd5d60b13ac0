use Rattle.std.proofs.Common.{drop}
use Rattle.kilim_run_journal.specs.Readable.{UnitsFit}
use Rattle.kilim_run_journal.proofs.fits.units_fit.Given as goal

-- where the rest fits, all does
abbrev pub invariant-loop-unit : goal.invariant-loop-unit
invariant-loop-unit l = UnitsFit (drop l.unit-index l.fn.units) → UnitsFit l.fn.units
