-- Turns of several values of one kind, with all passes of each of them.
use Rattle.std.specs.Prelude.{◌≡◌, ℕ, List, [], ◌∷◌, length, map}
use Rattle.std.specs.List.{AllByRecursion}
use Rattle.kilim_run_turn.specs.declared.lending.Turn.{Turn}
use Rattle.kilim_run_turn.specs.declared.pass.Pass.{Pass}
use Rattle.kilim_run_turn.specs.Turns.{shows, seats_of, AreAllOf}

module _ {B : Type 0} (cells : B → List (List ℕ)) where
  -- each value has so many seats
  abbrev pub AreSeated : ℕ → List B → Type 0
  AreSeated seats values = AllByRecursion (λ (value : B). seats ≡ length (cells value)) values

  -- all passes of each turn, none of which is inside
  abbrev pub AreAll : List (Turn B) → List (List Pass) → Type 0
  AreAll [] [] = Unit {0}
  AreAll (turn ∷ turns) (passes ∷ rows) = AreAllOf cells turn passes × AreAll turns rows
  AreAll turns rows = ⊥

  -- the turn of a value that was put away, with its passes: they show the value's cells
  pub record IsOpen (seats : ℕ) (value : B) (turn : Turn B) (passes : List Pass) : Type 0 where
    pub all : AreAllOf cells turn passes
    pub many : seats_of cells turn ≡ seats
    pub shown : map shows passes ≡ cells value

  -- so for each value, in their order
  abbrev pub AreOpen : ℕ → List B → List (Turn B) → List (List Pass) → Type 0
  AreOpen seats [] [] [] = Unit {0}
  AreOpen seats (value ∷ values) (turn ∷ turns) (passes ∷ rows) = IsOpen seats value turn passes × AreOpen seats values turns rows
  AreOpen seats values turns rows = ⊥
