-- A report with what is said of its lines.
use Rattle.std.specs.Prelude.{◌≡◌, ◌≤◌, ℕ, List, [], ◌∷◌, ◌++◌, length, take}

-- Some lines, each with its line feed, and a text in which each stands behind what is said of it.
pub data Says : List ℕ → List ℕ → Type 0 where
  nothing : Says [] []
  of_line : (lines text said line : List ℕ) → Says lines text → Says (lines ++ (line ++ 10 ∷ [])) (text ++ (said ++ (line ++ 10 ∷ [])))

-- The lines of the report stand in the text as they are, in their order, each behind what is said of it; what has no line feed behind it stands at the
-- end as it is.
pub record Explained (report text : List ℕ) : Type 0 where
  pub lines : List ℕ
  pub said : List ℕ
  pub rest : List ℕ
  pub whole : report ≡ lines ++ rest
  pub is : text ≡ said ++ rest
  pub says : Says lines said

-- The lines up to a place have been said, and one that isn't ended yet goes on to a later place. The inner calls of `explained` cite this.
pub record SaidTo (report : List ℕ) (from i : ℕ) (text : List ℕ) : Type 0 where
  pub below : from ≤ i
  pub within : i ≤ length report
  pub says : Says (take from report) text
