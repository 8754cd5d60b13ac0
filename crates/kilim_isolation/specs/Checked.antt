-- What `check_program` answers.
use Rattle.std.specs.Prelude.{◌≡◌, ◌≢◌, [], Result, Ok, Err}
use Rattle.kilim_type_spec.specs.TypedProgram.{TypedProgram}
use Rattle.kilim_isolation.specs.declared.isolated.CheckFault.{CheckFault}
use Rattle.kilim_isolation.specs.declared.isolated.CheckFault.TheVariants.{Reports, Memory}
use Rattle.kilim_isolation.specs.declared.isolated.Isolated.{Isolated}
use Rattle.kilim_isolation.specs.Faults.{AreReports}

-- the same program where there is no report, else all reports; or want of memory
abbrev pub IsChecked : TypedProgram → Result Isolated CheckFault → Type 0
IsChecked t (Ok isolated) = isolated.typed ≡ t
IsChecked t (Err (Reports program reports)) = (program ≡ t.program) × AreReports t reports × (reports ≢ [])
IsChecked t (Err Memory) = Unit {0}
