-- What `graph` answers.
use Rattle.std.specs.Prelude.{◌≡◌, ◌≢◌, List, [], Result, Ok, Err}
use Rattle.kilim_isolation_pauses.specs.declared.pausing.GraphFault.{GraphFault}
use Rattle.kilim_isolation_pauses.specs.declared.pausing.GraphFault.TheVariants.{Rules, Memory}
use Rattle.kilim_isolation_pauses.specs.declared.pausing.Pausables.{Pausables}
use Rattle.kilim_isolation_pauses.specs.Pausing.{pausing_reports, pausable_calls}
use Rattle.kilim_type_spec.specs.TypedProgram.{TypedProgram}

-- the calls where there is no report, else all reports; or want of memory
abbrev pub IsGraph : TypedProgram → Result Pausables GraphFault → Type 0
IsGraph t (Ok pausables) = (pausing_reports t ≡ []) × (pausables.calls ≡ pausable_calls t.program)
IsGraph t (Err (Rules reports)) = (reports ≡ pausing_reports t) × (reports ≢ [])
IsGraph t (Err Memory) = Unit {0}
