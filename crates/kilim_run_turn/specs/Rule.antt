-- The rule of the turn's table. Word 0 is 0 while the turn is free, and n + 1 while the seat with the number n has it. Until the opening takes the slot it is one more than the number of seats.
use Rattle.std.specs.Prelude.{◌≡◌, ◌≢◌, ℕ, ◌+◌, ◌<◌, ◌≤◌, true, List, [], ◌∷◌, length, slice_index, Option, Some, None}
use mathlib.Core.Option.{some}
use mathlib.Core.Option as maybe
use lib.ListN.{get_elem?}
use Rattle.atomic_table.specs.Table.{State}
use Rattle.atomic_table.specs.Seated.{TableId}
use Rattle.kilim_run_turn.specs.declared.view.View.{View}
use Rattle.kilim_run_turn.specs.declared.view.Stage.{Stage}
use Rattle.kilim_run_turn.specs.declared.view.Stage.TheVariants.{Fresh, Opening, Outside, Inside, Aside}
use Rattle.kilim_run_turn.specs.declared.kept.Kept.{Kept}
use Rattle.kilim_run_turn.specs.Views.{cell_at, note}

-- a seat that has numbers
abbrev pub IsWorker : Stage → Type 0
IsWorker Fresh = ⊥
IsWorker Opening = Unit {0}
IsWorker Outside = Unit {0}
IsWorker Inside = Unit {0}
IsWorker Aside = ⊥

-- a seat for which the word isn't 0
abbrev pub IsBusy : Stage → Type 0
IsBusy Fresh = Unit {0}
IsBusy Opening = Unit {0}
IsBusy Outside = ⊥
IsBusy Inside = Unit {0}
IsBusy Aside = ⊥

-- the facts that no single seat knows: who has each number, who has the list, the list, the table's name, and how many numbers are given out
pub record Facts : Type 0 where
  pub owner : ℕ → ℕ
  pub bearer : ℕ
  pub list : List (List ℕ)
  pub of : TableId
  pub made : ℕ

-- the seat j with the view v has its numbers alone, and shows their cells
pub record Owns (f : Facts) (j : ℕ) (v : View) : Type 0 where
  pub named : v.of.table_id ≡ f.of
  pub some_number : 0 < length v.shown
  pub numbers : (k : ℕ) → k < length v.shown → (f.owner (v.number + k) ≡ j) × (v.number + k < f.made) × (cell_at f.list (v.number + k) ≡ cell_at v.shown k)

-- what the word and the other seats are at each stage of a seat
abbrev pub Stands : ℕ → ℕ → List View → Facts → View → Stage → Type 0
Stands seats word views f v Fresh = (views ≡ v ∷ []) × (word ≡ seats + 1)
Stands seats word views f v Opening = (word ≡ seats + 1) × (v.made ≡ f.made) × (v.carries ≡ true)
Stands seats word views f v Outside = Unit {0}
Stands seats word views f v Inside = word ≡ v.number + 1
Stands seats word views f v Aside = Unit {0}

pub record Fits (seats word : ℕ) (views : List View) (f : Facts) (j : ℕ) (v : View) : Type 0 where
  pub carried : v.carries ≡ true → (j ≡ f.bearer) × (v.list ≡ f.list)
  pub owned : IsWorker v.stage → Owns f j v
  pub stands : Stands seats word views f v v.stage

-- some seat has the turn, or opens the table
pub record Busy (views : List View) : Type 0 where
  pub seat : ℕ
  pub view : View
  pub at : get_elem? views seat ≡ some view
  pub busy : IsBusy view.stage

module _ {S : Type 0} (lies : TableId → S → Type 0) (seats : ℕ) where
  -- in the slot, at home, lies a value with its note
  pub record Lying (homes : List (maybe.Option (Option S))) (of : TableId) : Type 0 where
    pub value : S
    pub at : get_elem? homes 0 ≡ some (some (Some value))
    pub fits : lies of value

  pub record Ruled (word : ℕ) (homes : List (maybe.Option (Option S))) (views : List View) : Type 0 where
    pub facts : Facts
    pub size : length facts.list ≡ seats
    pub most : facts.made ≤ seats
    pub each : (j : ℕ) (v : View) → get_elem? views j ≡ some v → Fits seats word views facts j v
    pub free : word ≡ 0 → Lying homes facts.of
    pub empty : word ≡ seats + 1 → get_elem? homes 0 ≡ some (some None)
    pub taken : word ≢ 0 → Busy views

  pub record Holds (s : State (Option S) View) : Type 0 where
    pub one : length s.words ≡ 1
    pub ruled : Ruled (slice_index s.words 0) s.homes s.views

-- what lies in the slot: the note is a seat of this table, and the list that it knows is the value's cells
abbrev pub Lies : {B : Type 0} → (B → List (List ℕ)) → TableId → Kept B → Type 0
Lies cells z y = (y.note.table_id ≡ z) × (y.note.views ≡ note (cells y.value) ∷ [])
