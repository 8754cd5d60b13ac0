-- Why there is no chart.
use Rattle.std.specs.Prelude.{ℕ, List}
use Rattle.kilim_run_journal.specs.Read.{IsBadLine}
use Rattle.kilim_chart.specs.declared.calls.ChartFault.{ChartFault}
use Rattle.kilim_chart.specs.declared.calls.ChartFault.TheVariants.{BadLine, Memory}

-- the first line that is no entry's; want of memory may always be
abbrev pub IsChartFault : List ℕ → ChartFault → Type 0
IsChartFault bytes (BadLine n) = IsBadLine bytes n
IsChartFault bytes Memory = Unit {0}
