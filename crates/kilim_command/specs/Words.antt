-- How many workers the words ask for, and within which limits.
use Rattle.std.specs.Prelude.{◌<◌, ℕ, ℤ, List, Option, Some, None}
use Rattle.kilim_run_state.specs.declared.run.Limits.{Limits}
use Rattle.kilim_command.specs.grammar.Words.{Request, Check, Weave, Run, Replay, Save, Resume, Demo}

-- to check, to weave, to replay and to save take one
abbrev pub workers_of : Request → ℕ
workers_of (Check files) = 1
workers_of (Weave to files) = 1
workers_of (Run main workers steps args files) = workers
workers_of (Replay main journal steps args files) = 1
workers_of (Save main image entries steps args files) = 1
workers_of (Resume image workers) = workers
workers_of (Demo number workers) = workers

-- a run with more workers than the caller
abbrev pub NeedsWorkers : Option Request → Type 0
NeedsWorkers None = ⊥
NeedsWorkers (Some request) = 1 < workers_of request

-- the limits that the words give
abbrev pub limits_of : ℕ → List ℤ → Limits
limits_of steps args = record { steps = steps; args = args }
