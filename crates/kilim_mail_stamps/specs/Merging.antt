-- Entries that a stamp and a task tell apart.
use Rattle.std.specs.Prelude.{ℕ, ◌+◌, ◌≤◌, ◌&&◌, ◌==◌, cond, List, [], ◌∷◌}
use Rattle.kilim_run_model.specs.State.{Setting}
use Rattle.kilim_mail_stamps.specs.declared.stamped.Stamped.{Stamped}
use Rattle.kilim_mail_stamps.specs.Stamps.{joined, StampedRun}

-- what a list weighs, where each element has a weight
abbrev pub weigh : {A : Type 0} → (A → ℕ) → List A → ℕ
weigh f [] = 0
weigh f (x ∷ xs) = f x + weigh f xs

abbrev pub is_at : ℕ → ℕ → Stamped → ℕ
is_at n t s = cond (s.stamp == n && s.entry.task == t) 1 0

-- no two have the same stamp and task
abbrev pub Apart : List Stamped → Type 0
Apart xs = (n t : ℕ) → weigh (is_at n t) xs ≤ 1

-- the entries of a stamped run are
abbrev pub RunsAreApart : Type 0
RunsAreApart = (set : Setting) (parts : List (List Stamped)) → StampedRun set parts → Apart (joined parts)
