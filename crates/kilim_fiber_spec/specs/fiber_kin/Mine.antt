-- Whose an object of a fiber's heap is.
use Rattle.std.specs.Prelude.{ℕ}
use Rattle.kilim_run_model.specs.kin.Kin.{Owner, OfTask}

-- all of them are its own; no other thread is in sight
abbrev pub all_mine : ℕ → Owner
all_mine x = OfTask 0
