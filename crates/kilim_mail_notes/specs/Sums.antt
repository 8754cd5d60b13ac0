-- What several workers did under several turns, added up.
use Rattle.std.specs.Prelude.{◌≡◌, ℕ, ◌+◌, List, [], ◌∷◌, map}
use Rattle.std.specs.List.{AllByRecursion}
use Rattle.kilim_mail_stamps.specs.Merging.{weigh}
use Rattle.kilim_mail_ledger.specs.declared.items.Item.{Item}
use Rattle.kilim_mail_notes.specs.declared.notes.Ledger.{Ledger}
use Rattle.kilim_mail_notes.specs.Notes.{Move, move_numbers, ledger_cells, brings, owes, Balances}

-- what lies under a turn: its ledger, the histories of the tasks that are there, and the entries that were made there
pub record Kept : Type 0 where
  pub ledger : Ledger
  pub held : List Item
  pub made : List Item

-- what all moves weigh that a worker made, turn by turn
abbrev pub all_weigh : (Move → ℕ) → List (List Move) → ℕ
all_weigh f mss = weigh (λ (ms : List Move). weigh f ms) mss

-- What a worker has in hand, with what it brought, is what it took and made, by what all of its passes show; and what it made by itself, without a
-- turn.
pub record Even (cells : List (List ℕ)) (hand own : List Item) : Type 0 where
  pub moves : List (List Move)
  pub are : cells ≡ map move_numbers moves
  pub same : (h : Item → ℕ) → weigh h hand + all_weigh (brings h) moves ≡ all_weigh (owes h) moves + weigh h own

-- what a worker is left with at the close: what its passes showed, what it has in hand, and what it made by itself
pub record Left : Type 0 where
  pub cells : List (List ℕ)
  pub hand : List Item
  pub own : List Item

abbrev pub first_cell : List (List ℕ) → List ℕ
first_cell [] = []
first_cell (cell ∷ cells) = cell

abbrev pub other_cells : List (List ℕ) → List (List ℕ)
other_cells [] = []
other_cells (cell ∷ cells) = cells

abbrev pub AllSpent : List (List (List ℕ)) → Type 0
AllSpent [] = Unit {0}
AllSpent (cells ∷ rows) = (cells ≡ []) × AllSpent rows

-- The cells of each turn's ledger are what the workers' passes of this turn showed, one by one, in the order of the turns.
abbrev pub Columns : List Kept → List (List (List ℕ)) → Type 0
Columns [] rows = AllSpent rows
Columns (k ∷ ks) rows = (ledger_cells k.ledger ≡ map first_cell rows) × AllByRecursion (λ (row : List (List ℕ)). (c : List ℕ) × (cs : List (List ℕ)) × (row ≡ c ∷ cs)) rows × Columns ks (map other_cells rows)

abbrev pub AllBalance : List Kept → Type 0
AllBalance ks = AllByRecursion (λ (k : Kept). Balances k.ledger k.held k.made) ks

abbrev pub AllEven : List Left → Type 0
AllEven ws = AllByRecursion (λ (w : Left). Even w.cells w.hand w.own) ws

abbrev pub held_weigh : (Item → ℕ) → List Kept → ℕ
held_weigh h ks = weigh (λ (k : Kept). weigh h k.held) ks

abbrev pub made_weigh : (Item → ℕ) → List Kept → ℕ
made_weigh h ks = weigh (λ (k : Kept). weigh h k.made) ks

abbrev pub hands_weigh : (Item → ℕ) → List Left → ℕ
hands_weigh h ws = weigh (λ (w : Left). weigh h w.hand) ws

abbrev pub own_weigh : (Item → ℕ) → List Left → ℕ
own_weigh h ws = weigh (λ (w : Left). weigh h w.own) ws

-- Whatever the number of turns and workers: the histories that lie under all turns and in all hands are the entries that were made.
abbrev pub AllIsClosed : Type 0
AllIsClosed = (ks : List Kept) (ws : List Left) → AllBalance ks → AllEven ws → Columns ks (map (λ (w : Left). w.cells) ws) → (h : Item → ℕ) → held_weigh h ks + hands_weigh h ws ≡ made_weigh h ks + own_weigh h ws
