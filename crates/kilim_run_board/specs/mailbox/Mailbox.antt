-- A mailbox as contracts see it.
use Rattle.std.specs.Prelude.{ℕ, List, Option}
use Rattle.kilim_run_state.specs.declared.value.Object.{Object}

-- How many messages it may hold, if it has a bound; how many were put into it; those that wait, the first one first, each with the number of its put and its tree;
-- and for how many there is room.
pub record Content : Type 0 where
  pub most : Option ℕ
  pub puts : ℕ
  pub queue : List (ℕ × List Object)
  pub room : ℕ
