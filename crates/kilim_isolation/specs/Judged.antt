-- What is found of a program before it is handed on.
use Rattle.std.specs.Prelude.{◌≡◌, ◌≢◌, [], Result, Ok, Err}
use Rattle.kilim_isolation_pauses.specs.declared.pausing.Pausables.{Pausables}
use Rattle.kilim_isolation_pauses.specs.Pausing.{pausable_calls}
use Rattle.kilim_type_spec.specs.TypedProgram.{TypedProgram}
use Rattle.kilim_isolation.specs.declared.isolated.Refused.{Refused}
use Rattle.kilim_isolation.specs.declared.isolated.Refused.TheVariants.{Reports, Memory}
use Rattle.kilim_isolation.specs.Faults.{AreReports, IsAccepted}

-- the pausable calls where there is no report, else all reports; or want of memory
abbrev pub IsJudged : TypedProgram → Result Pausables Refused → Type 0
IsJudged t (Ok pausables) = IsAccepted t × (pausables.calls ≡ pausable_calls t.program)
IsJudged t (Err (Reports reports)) = AreReports t reports × (reports ≢ [])
IsJudged t (Err Memory) = Unit {0}
