-- What a worker is given, and what it leaves.
use Rattle.std.specs.Prelude.{◌≡◌, ◌≤◌, ℕ, [], replicate}
use Rattle.kilim_run_state.specs.declared.run.Limits.{Limits}
use Rattle.kilim_run_board.specs.declared.board.Board as kept
use Rattle.kilim_run_model.specs.State.{Setting}
use Rattle.kilim_run_turn.specs.declared.lending.Turn.{Turn}
use Rattle.kilim_run_turn.specs.declared.pass.Pass.{Pass}
use Rattle.kilim_run_turn.specs.Turns.{seat_of, shows, IsPassOf}
use Rattle.kilim_run_workers.specs.Codes.{board_cells}
use Rattle.kilim_run_workers.specs.Runs.{RunsOn}

module _ {F : Type 0} (turn : Turn (kept.Board F)) where
  -- there is a setting of the run, which the code serves, and the worker's pass is of this turn and shows an empty cell
  pub record MayWork {C : Type 0} (serves : Setting → C → Type 0) (Of : Setting → Type 0) (code : C) (limits : Limits) (p : Pass) : Type 0 where
    pub some : (set : Setting) × Of set
    pub run : RunsOn serves Of code limits
    pub pass : IsPassOf board_cells turn p
    pub free : shows p ≡ []

  -- the worker is through: its pass is of this turn and of the same seat, and shows an empty cell again
  pub record HasWorked (before after : Pass) : Type 0 where
    pub pass : IsPassOf board_cells turn after
    pub seat : seat_of after ≡ seat_of before
    pub empty : shows after ≡ []

-- 1 to 16 workers may run this board: there is a setting of the run, which the code serves, and no task is lent
pub record MayRun {F C : Type 0} (serves : Setting → C → Type 0) (Of : Setting → Type 0) (code : C) (limits : Limits) (n : ℕ) (board : kept.Board F) : Type 0 where
  pub workers : (1 ≤ n) × (n ≤ 16)
  pub some : (set : Setting) × Of set
  pub run : RunsOn serves Of code limits
  pub free : board_cells board ≡ replicate n []
